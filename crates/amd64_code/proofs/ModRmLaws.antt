-- The bytes of a register or a place in memory give it back, whatever follows, and how many they are.
use Rattle.std.specs.Prelude.{◌==◌, ◌&&◌, not, drop, slice_index, pos, negsuc, if◌then◌else◌}
use Rattle.std.proofs.Common.{◌≡◌, ℕ, ℤ, Bool, true, false, List, [], ◌∷◌, ◌++◌, ◌+◌, ◌/◌, ◌%◌, ◌<◌, ◌≤◌, length, refl, sym, ap, ◌∙◌, arith}
use Rattle.std.proofs.lemmas.Bool.{eqb-true, ne_eqb, and_parts, and_right}
use Rattle.std.proofs.lemmas.List.{length-append}
use Rattle.std.proofs.Math.Seq.{drop-append_seam}
use Rattle.machine_effect.specs.Numbers.{fits as fits_bits}
use Rattle.amd64_table.specs.declared.reg.Reg.{Reg}
use Rattle.amd64_table.specs.declared.reg.Reg.TheVariants.{Sp}
use Rattle.amd64_table.specs.declared.memory.Scale.{Scale}
use Rattle.amd64_table.specs.declared.memory.Scale.TheVariants as scales
use Rattle.amd64_table.specs.declared.memory.Mem.{Mem}
use Rattle.amd64_table.specs.declared.memory.Mem.TheVariants as memory
use Rattle.amd64_table.specs.declared.memory.Rm.{Rm}
use Rattle.amd64_table.specs.declared.memory.Rm.TheVariants as operand
use Rattle.amd64_table.specs.Registers.{low_bits, is_high, number_of}
use Rattle.amd64_table.specs.Fits.{fits_mem, fits_rm, is_index}
use Rattle.amd64_table.specs.Operands.{is_none}
use Rattle.amd64_code.specs.Constants.{byte_of, long_of}
use Rattle.amd64_code.specs.Heads.{one_if}
use Rattle.amd64_code.specs.Registers.{reg_at}
use Rattle.amd64_code.specs.ModRm.{fields, mode_of, disp_bytes, disp_in, scale_bits, scale_at, sib_in, bare_sib, mem_bytes, mem_in, rm_bytes, rm_in, field_in, disp_size, operand_size}
use Rattle.amd64_code.specs.Spelling.{rm_x, rm_b}
use Rattle.amd64_code.proofs.RegisterLaws.{reg_back, low_below}
use Rattle.amd64_code.proofs.ConstantLaws.{byte_back, long_back}

-- the three fields of a byte

pub high_back : (h m l : ℕ) → m < 8 → l < 8 → fields h m l / 64 ≡ h
high_back h m l middle low = omega arith

pub middle_back : (h m l : ℕ) → m < 8 → l < 8 → fields h m l / 8 % 8 ≡ m
middle_back h m l middle low = omega arith

pub low_back : (h m l : ℕ) → m < 8 → l < 8 → fields h m l % 8 ≡ l
low_back h m l middle low = omega arith

-- displacements

none_is : (disp : ℤ) → is_none disp ≡ true → disp ≡ pos 0
none_is (pos n) none = ap pos (eqb-true n 0 none)
none_is (negsuc n) none = cc none

abbrev pub mode_by : Bool → Bool → ℕ
mode_by left_out small = if left_out then 0 else (if small then 1 else 2)

disp_cases : (disp : ℤ) (rest : List ℕ) (left_out small : Bool) → (left_out ≡ true → disp ≡ pos 0) → fits_bits 8 disp ≡ small
    → fits_bits 32 disp ≡ true
    → disp_in (mode_by left_out small) (disp_bytes (mode_by left_out small) disp ++ rest) ≡ disp
unfolding disp_in disp_bytes
disp_cases disp rest true small none is fit = sym (none refl)
disp_cases disp rest false true none is fit = byte_back disp rest is
disp_cases disp rest false false none is fit = long_back disp rest fit

disp_back : (base : Reg) (disp : ℤ) (rest : List ℕ) → fits_bits 32 disp ≡ true
    → disp_in (mode_of base disp) (disp_bytes (mode_of base disp) disp ++ rest) ≡ disp
unfolding mode_of
disp_back base disp rest fit =
    disp_cases disp rest (is_none disp && not (low_bits base == 5)) (fits_bits 8 disp)
    (λ left. none_is disp (and_parts (is_none disp) (not (low_bits base == 5)) left).0) refl fit

pub mode_below : (base : Reg) (disp : ℤ) → mode_of base disp < 3
unfolding mode_of
mode_below base disp = below (is_none disp && not (low_bits base == 5)) (fits_bits 8 disp)
  where
    below : (left_out small : Bool) → mode_by left_out small < 3
    below true small = omega arith
    below false true = omega arith
    below false false = omega arith

-- a place without a displacement has no base whose low bits mean something else
pub not_symbol : (base : Reg) (disp : ℤ) → (mode_of base disp == 0 && low_bits base == 5) ≡ false
unfolding mode_of
not_symbol base disp = apart (low_bits base == 5) (is_none disp) (fits_bits 8 disp)
  where
    apart : (five none small : Bool) → (mode_by (none && not five) small == 0 && five) ≡ false
    apart true true true = refl
    apart true true false = refl
    apart true false true = refl
    apart true false false = refl
    apart false true small = refl
    apart false false true = refl
    apart false false false = refl

-- what a base and a displacement are read from
record IsBase (m l : ℕ) (b : Bool) (base : Reg) (disp : ℤ) (rest : List ℕ) : Type 0 where
  low : l < 8
  reg : reg_at b l ≡ base
  back : disp_in m (disp_bytes m disp ++ rest) ≡ disp
  apart : (m == 0 && l == 5) ≡ false

base_cases : (four : Bool) (m f l : ℕ) (b : Bool) (base : Reg) (disp : ℤ) (rest : List ℕ) → f < 8
    → IsBase m l b base disp rest → (l == 4) ≡ four
    → mem_in false b ((fields m f l ∷ ((if four then 0x24 ∷ [] else []) ++ disp_bytes m disp)) ++ rest) ≡ memory.Base base disp
unfolding mem_in sib_in
base_cases true m f l b base disp rest field is four =
    let top : fields m f l / 64 ≡ m = high_back m f l field is.low in
    let low : fields m f l % 8 ≡ l = low_back m f l field is.low in
    let same : l ≡ 4 = eqb-true l 4 four in
    let at_four : reg_at b 4 ≡ base = ap (reg_at b) (sym same) ∙ is.reg in
    rw (top, low, is.apart, four, at_four, is.back) refl
base_cases false m f l b base disp rest field is four =
    let top : fields m f l / 64 ≡ m = high_back m f l field is.low in
    let low : fields m f l % 8 ≡ l = low_back m f l field is.low in
    rw (top, low, is.apart, four, is.reg, is.back) refl

scale_back : (scale : Scale) → scale_at (scale_bits scale % 4) ≡ scale
unfolding scale_at
scale_back scales.One = refl
scale_back scales.Two = refl
scale_back scales.Four = refl
scale_back scales.Eight = refl

scale_below : (scale : Scale) → scale_bits scale < 4
scale_below scales.One = omega arith
scale_below scales.Two = omega arith
scale_below scales.Four = omega arith
scale_below scales.Eight = omega arith

-- an index isn't read as none: SP is none
index_apart : (index : Reg) → is_index index ≡ true → (low_bits index == 4 && not (is_high index)) ≡ false
unfolding number_of
index_apart Sp fit = sym fit
index_apart _ fit = refl

indexed_back : (m f s i l : ℕ) (x b : Bool) (base index : Reg) (scale : Scale) (disp : ℤ) (rest : List ℕ)
    → f < 8 → i < 8 → l < 8 → s < 4
    → reg_at b l ≡ base → reg_at x i ≡ index → scale_at (s % 4) ≡ scale
    → disp_in m (disp_bytes m disp ++ rest) ≡ disp → (i == 4 && not x) ≡ false
    → mem_in x b (fields m f 4 ∷ fields s i l ∷ (disp_bytes m disp ++ rest)) ≡ memory.Indexed base index scale disp
unfolding mem_in sib_in
indexed_back m f s i l x b base index scale disp rest field mid low top base_is index_is scale_is back apart =
    let four : fields m f 4 % 8 ≡ 4 = omega arith in
    let mode : fields m f 4 / 64 ≡ m = omega arith in
    let lowest : fields s i l % 8 ≡ l = low_back s i l mid low in
    let middle : fields s i l / 8 % 8 ≡ i = middle_back s i l mid low in
    let highest : fields s i l / 64 ≡ s = high_back s i l mid low in
    let plain : (fields m f 4 / 64 == 0 && fields m f 4 % 8 == 5) ≡ false =
    and_right (fields m f 4 / 64 == 0) (fields m f 4 % 8 == 5) (rw four refl) in
    rw (plain, four, mode, lowest, middle, highest, apart, base_is, index_is, scale_is, back) refl

symbol_back : (f : ℕ) (distance : ℤ) (rest : List ℕ) → f < 8 → fits_bits 32 distance ≡ true
    → mem_in false false ((fields 0 f 5 ∷ long_of distance) ++ rest) ≡ memory.Symbol distance
unfolding mem_in
symbol_back f distance rest field fit =
    let top : fields 0 f 5 / 64 ≡ 0 = omega arith in
    let low : fields 0 f 5 % 8 ≡ 5 = omega arith in
    rw (top, low) (ap memory.Symbol (long_back distance rest fit))

mem_back : (field : ℕ) (mem : Mem) (rest : List ℕ) → field < 8 → fits_mem mem ≡ true
    → mem_in (rm_x (operand.Mem mem)) (rm_b (operand.Mem mem)) (mem_bytes field mem ++ rest) ≡ mem
unfolding mem_bytes rm_x rm_b fits_mem
mem_back field (memory.Base base disp) rest small fit =
    base_cases (low_bits base == 4) (mode_of base disp) field (low_bits base) (is_high base) base disp rest small
    (record { low = low_below base; reg = reg_back base; back = disp_back base disp rest fit; apart = not_symbol base disp }) refl
mem_back field (memory.Indexed base index scale disp) rest small fit =
    let parts = and_parts (is_index index) (fits_bits 32 disp) fit in
    indexed_back (mode_of base disp) field (scale_bits scale) (low_bits index) (low_bits base) (is_high index) (is_high base)
    base index scale disp rest small (low_below index) (low_below base) (scale_below scale) (reg_back base)
    (reg_back index) (scale_back scale) (disp_back base disp rest parts.1) (index_apart index parts.0)
mem_back field (memory.Symbol distance) rest small fit = symbol_back field distance rest small fit

-- a place in memory isn't read as a register
mem_apart : (field : ℕ) (mem : Mem) (rest : List ℕ) → field < 8
    → (slice_index (mem_bytes field mem ++ rest) 0 / 64 == 3) ≡ false
unfolding mem_bytes
mem_apart field (memory.Base base disp) rest small =
    let top : fields (mode_of base disp) field (low_bits base) / 64 ≡ mode_of base disp =
    high_back (mode_of base disp) field (low_bits base) small (low_below base) in
    let below : mode_of base disp < 3 = mode_below base disp in
    rw top (ne_eqb (mode_of base disp) 3 (omega arith))
mem_apart field (memory.Indexed base index scale disp) rest small =
    let top : fields (mode_of base disp) field 4 / 64 ≡ mode_of base disp =
    high_back (mode_of base disp) field 4 small (omega arith) in
    let below : mode_of base disp < 3 = mode_below base disp in
    rw top (ne_eqb (mode_of base disp) 3 (omega arith))
mem_apart field (memory.Symbol distance) rest small =
    let top : fields 0 field 5 / 64 ≡ 0 = high_back 0 field 5 small (omega arith) in
    rw top refl

pub field_back : (field : ℕ) (rm : Rm) (rest : List ℕ) → field < 8 → field_in (rm_bytes field rm ++ rest) ≡ field
unfolding rm_bytes mem_bytes
field_back field (operand.Reg reg) rest small = middle_back 3 field (low_bits reg) small (low_below reg)
field_back field (operand.Mem (memory.Base base disp)) rest small =
    middle_back (mode_of base disp) field (low_bits base) small (low_below base)
field_back field (operand.Mem (memory.Indexed base index scale disp)) rest small =
    middle_back (mode_of base disp) field 4 small (omega arith)
field_back field (operand.Mem (memory.Symbol distance)) rest small = middle_back 0 field 5 small (omega arith)

pub rm_back : (field : ℕ) (rm : Rm) (rest : List ℕ) → field < 8 → fits_rm rm ≡ true
    → rm_in (rm_x rm) (rm_b rm) (rm_bytes field rm ++ rest) ≡ rm
unfolding rm_bytes rm_x rm_b rm_in fits_rm
rm_back field (operand.Reg reg) rest small fit =
    let top : fields 3 field (low_bits reg) / 64 ≡ 3 = high_back 3 field (low_bits reg) small (low_below reg) in
    let low : fields 3 field (low_bits reg) % 8 ≡ low_bits reg = low_back 3 field (low_bits reg) small (low_below reg) in
    rw (top, low) (ap operand.Reg (reg_back reg))
rm_back field (operand.Mem mem) rest small fit =
    rw (mem_apart field mem rest small) (ap operand.Mem (mem_back field mem rest small fit))

-- how many bytes there are, and how many are read

pub if_length : (test : Bool) (byte : ℕ) → length (if test then byte ∷ [] else []) ≡ one_if test
if_length true byte = refl
if_length false byte = refl

disp_length : (mode : ℕ) (disp : ℤ) → length (disp_bytes mode disp) ≡ disp_size mode
unfolding disp_bytes
disp_length mode disp = by (mode == 0) (mode == 1)
  where
    by : (none one : Bool)
        → length (if none then [] else (if one then byte_of disp else long_of disp)) ≡ (if none then 0 else (if one then 1 else 4))
    by true one = refl
    by false true = refl
    by false false = refl

base_length : (base : Reg) (mode : ℕ) (disp : ℤ)
    → length (bare_sib base ++ disp_bytes mode disp) ≡ one_if (low_bits base == 4) + disp_size mode
base_length base mode disp = omega (
  arith,
  length-append (bare_sib base) (disp_bytes mode disp),
  if_length (low_bits base == 4) 0x24,
  disp_length mode disp,
)

first_size : (m f l : ℕ) (tail : List ℕ) → f < 8 → l < 8 → operand_size (fields m f l ∷ tail)
    ≡ (if m == 3 then 1 else (if m == 0 && l == 5 then 5 else 1 + one_if (l == 4) + disp_size m))
unfolding operand_size
first_size m f l tail field low = rw (high_back m f l field low, low_back m f l field low) refl

base_size : (m f l : ℕ) (tail : List ℕ) → f < 8 → l < 8 → m < 3 → (m == 0 && l == 5) ≡ false
    → operand_size (fields m f l ∷ tail) ≡ 1 + one_if (l == 4) + disp_size m
base_size m f l tail field low below apart =
    let memory : (m == 3) ≡ false = ne_eqb m 3 (omega arith) in first_size m f l tail field low ∙ rw (memory, apart) refl

rm_size : (field : ℕ) (rm : Rm) (rest : List ℕ) → field < 8
    → operand_size (rm_bytes field rm ++ rest) ≡ length (rm_bytes field rm)
unfolding rm_bytes mem_bytes
rm_size field (operand.Reg reg) rest small = first_size 3 field (low_bits reg) rest small (low_below reg)
rm_size field (operand.Mem (memory.Base base disp)) rest small =
    let tail : List ℕ = (bare_sib base ++ disp_bytes (mode_of base disp) disp) ++ rest in omega (
      arith,
      base_size (mode_of base disp) field (low_bits base) tail small (low_below base) (mode_below base disp) (not_symbol base disp),
      base_length base (mode_of base disp) disp,
    )
rm_size field (operand.Mem (memory.Indexed base index scale disp)) rest small =
    let sib : ℕ = fields (scale_bits scale) (low_bits index) (low_bits base) in
    let tail : List ℕ = sib ∷ (disp_bytes (mode_of base disp) disp ++ rest) in omega (
      arith,
      base_size (mode_of base disp) field 4 tail small (omega arith) (mode_below base disp) (and_right (mode_of base disp == 0) false refl),
      disp_length (mode_of base disp) disp,
    )
rm_size field (operand.Mem (memory.Symbol distance)) rest small =
    first_size 0 field 5 (long_of distance ++ rest) small (omega arith)

-- what follows an operand is read behind it
pub behind_rm : (field : ℕ) (rm : Rm) (rest : List ℕ) → field < 8
    → drop (operand_size (rm_bytes field rm ++ rest)) (rm_bytes field rm ++ rest) ≡ rest
behind_rm field rm rest small =
    ap (λ n. drop n (rm_bytes field rm ++ rest)) (rm_size field rm rest small) ∙ drop-append_seam (rm_bytes field rm) rest

disp_most : (mode : ℕ) → disp_size mode ≤ 4
disp_most mode = by (mode == 0) (mode == 1)
  where
    by : (none one : Bool) → (if none then 0 else (if one then 1 else 4)) ≤ 4
    by true one = omega arith
    by false true = omega arith
    by false false = omega arith

pub one_most : (test : Bool) → one_if test ≤ 1
one_most true = omega arith
one_most false = omega arith

pub rm_most : (field : ℕ) (rm : Rm) → length (rm_bytes field rm) ≤ 6
unfolding rm_bytes mem_bytes
rm_most field (operand.Reg reg) = omega arith
rm_most field (operand.Mem (memory.Base base disp)) =
    omega (arith, base_length base (mode_of base disp) disp, one_most (low_bits base == 4), disp_most (mode_of base disp))
rm_most field (operand.Mem (memory.Indexed base index scale disp)) =
    omega (arith, disp_length (mode_of base disp) disp, disp_most (mode_of base disp))
rm_most field (operand.Mem (memory.Symbol distance)) = omega arith
