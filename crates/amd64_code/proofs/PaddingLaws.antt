-- No spelling begins with CC, which pads functions.
use Rattle.std.specs.Prelude.{◌==◌, ◌||◌, drop, slice_index, if◌then◌else◌}
use Rattle.std.proofs.Common.{◌≡◌, ℕ, ℤ, Bool, true, false, List, [], ◌∷◌, ◌++◌, ◌+◌, length, refl, sym, ap, ◌∙◌, subst, arith}
use Rattle.std.proofs.lemmas.Bool.{true≢false, ne_eqb}
use Rattle.std.proofs.lemmas.List.{append_assoc}
use Rattle.machine_effect.specs.Numbers.{fits as fits_bits}
use Rattle.amd64_table.specs.declared.width.Width.TheVariants.{L}
use Rattle.amd64_table.specs.declared.memory.Rm.{Rm}
use Rattle.amd64_table.specs.declared.memory.Rm.TheVariants as operand
use Rattle.amd64_table.specs.declared.instr.Instr.{Instr}
use Rattle.amd64_table.specs.Registers.{low_bits, is_high}
use Rattle.amd64_table.specs.Fits.{fits}
use Rattle.amd64_code.specs.declared.rex.Rex.{Rex}
use Rattle.amd64_code.specs.declared.head.Opcode.TheVariants.{One}
use Rattle.amd64_code.specs.Constants.{long_of, quad_of, long_in}
use Rattle.amd64_code.specs.Heads.{head_bytes, rex_byte, rex_bytes, no_rex, legacy_in, rex_in}
use Rattle.amd64_code.specs.ModRm.{rm_bytes}
use Rattle.amd64_code.specs.Spelling.{spelling_of, load_quad_bytes, plain_head, rex_of, rex_b}
use Rattle.amd64_code.specs.Reading.{reading, one_byte, row_c, constant_copy, operand_in, behind_operand}
use Rattle.amd64_code.proofs.HeadLaws.{rex_row}
use Rattle.amd64_code.proofs.Laws.{begins_read}

abbrev first : List ℕ → ℕ
first bytes = slice_index bytes 0

-- CC is read as a copy of a constant ..
read_as_copy : (rest : List ℕ)
    → reading (0xcc ∷ rest) ≡ constant_copy L (operand_in no_rex rest) (long_in (behind_operand rest))
unfolding reading legacy_in rex_in one_byte row_c
read_as_copy rest = refl

-- .. whose spelling begins with REX or with its opcode
head_apart : (rex : Rex) (opcode : ℕ) (more : List ℕ) → (opcode == 0xcc) ≡ false
    → (first (head_bytes (plain_head rex (One opcode)) ++ more) == 0xcc) ≡ false
unfolding head_bytes rex_bytes
head_apart rex opcode more apart = by (false || rex.w || rex.r || rex.x || rex.b)
  where
    by : (stands : Bool) → (first (((if stands then rex_byte rex ∷ [] else []) ++ opcode ∷ []) ++ more) == 0xcc) ≡ false
    by true = ne_eqb (rex_byte rex) 0xcc (λ is. absurd (omega (arith, is, rex_row rex)))
    by false = apart

copy_apart : (rm : Rm) (constant : ℤ) (more : List ℕ)
    → (first (spelling_of (constant_copy L rm constant) ++ more) == 0xcc) ≡ false
unfolding constant_copy spelling_of load_quad_bytes
copy_apart (operand.Mem to) constant more =
    rw (append_assoc, append_assoc) (head_apart (rex_of false false (operand.Mem to)) 0xc7 (rm_bytes 0 (operand.Mem to) ++ (long_of constant ++ more)) refl)
copy_apart (operand.Reg to) constant more = by (fits_bits 32 constant)
  where
    by : (small : Bool) → (first ((if small
        then head_bytes (plain_head (rex_of true false (operand.Reg to)) (One 0xc7)) ++ rm_bytes 0 (operand.Reg to) ++ long_of constant
        else head_bytes (plain_head (rex_b true (is_high to)) (One (0xb8 + low_bits to))) ++ quad_of constant) ++ more) == 0xcc) ≡ false
    by true = rw (append_assoc, append_assoc) (head_apart (rex_of true false (operand.Reg to)) 0xc7 (rm_bytes 0 (operand.Reg to) ++ (long_of constant ++ more)) refl)
    by false = rw append_assoc (head_apart (rex_b true (is_high to)) (0xb8 + low_bits to) (quad_of constant ++ more) (ne_eqb (0xb8 + low_bits to) 0xcc (omega arith)))

pub not_padding : (i : Instr) (rest : List ℕ) → fits i ≡ true
    → ¬ (0xcc ∷ rest ≡ spelling_of i ++ drop (length (spelling_of i)) (0xcc ∷ rest))
not_padding i rest fit begins =
    let more : List ℕ = drop (length (spelling_of i)) (0xcc ∷ rest) in
    let copy : constant_copy L (operand_in no_rex rest) (long_in (behind_operand rest)) ≡ i =
    sym (read_as_copy rest) ∙ begins_read i (0xcc ∷ rest) fit begins in
    let apart : (first (spelling_of i ++ more) == 0xcc) ≡ false =
    subst (λ j. (first (spelling_of j ++ more) == 0xcc) ≡ false) copy
    (copy_apart (operand_in no_rex rest) (long_in (behind_operand rest)) more) in
    true≢false (ap (λ bytes. first bytes == 0xcc) begins ∙ apart)
