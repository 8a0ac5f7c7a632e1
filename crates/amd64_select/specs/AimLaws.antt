-- The laws of forms and aims, for amd64.
use Rattle.std.specs.Prelude.{◌↔◌, ◌&&◌, is_some, option_map, IfSome, if◌then◌else◌}
use Rattle.std.proofs.Common.{◌≡◌, ℕ, ℤ, pos, ◌+ℤ◌, ◌-ℤ◌, ◌≤ℤ◌, ◌+◌, ◌-◌, ◌*◌, ◌%◌, ◌^◌, ◌<◌, ◌≤◌, Bool, true, false, IsTrue, List, [], ◌∷◌, ◌++◌, length, Option, Some, None, refl, sym, ◌∙◌, ap, subst, rules}
use Rattle.std.proofs.lemmas.List.{length-append}
use Rattle.machine_effect.specs.Numbers.{fits as fits_bits, moved_by}
use Rattle.asm_target.specs.declared.refer.Part.TheVariants.{Whole}
use Rattle.asm_target.specs.Aiming as aim
use Rattle.amd64_table.specs.declared.memory.Mem.TheVariants as memory
use Rattle.amd64_table.specs.declared.memory.Rm.TheVariants as rms
use Rattle.amd64_table.specs.declared.op.Near.{Near}
use Rattle.amd64_table.specs.declared.op.Extend.TheVariants as extend
use Rattle.amd64_table.specs.declared.op.StoreSize.TheVariants as size
use Rattle.amd64_table.specs.declared.instr.Instr.{Instr}
use Rattle.amd64_table.specs.declared.instr.Instr.TheVariants as instr
use Rattle.amd64_table.specs.Fits.{fits}
use Rattle.amd64_code.specs.Constants.{long_of, byte_of, short_of}
use Rattle.amd64_code.specs.declared.head.Opcode.TheVariants.{One}
use Rattle.amd64_code.specs.Heads.{head_bytes}
use Rattle.amd64_code.specs.Opcodes.{arithmetic_digit, shift_digit}
use Rattle.amd64_table.specs.Operands.{is_quad}
use Rattle.amd64_code.specs.InstructionSet.{amd64, Fits, end_of}
use Rattle.amd64_code.specs.ModRm.{fields, mem_bytes, rm_bytes}
use Rattle.amd64_code.specs.Spelling.{spelling_of, rm_x, rm_b, store_low_head, extend_head, rex_of, plain_head, locked_head, const_opcode}
use Rattle.amd64_forms.specs.Aiming.{aimed, distance_of, distance_bits, aimed_by}
use Rattle.amd64_forms.proofs.AimingLemmas.{aimed_twice, distance_aimed, aimed_same, bits_aimed, distance_fits, fits_aimed}
use Rattle.amd64_select.specs.Aims.{aiming}

-- lists with fronts of one length, or with tails
tails : (front one other : List ℕ) → length one ≡ length other → length (front ++ one) ≡ length (front ++ other)
tails front one other same = length-append front one ∙ ap (λ (n : ℕ). length front + n) same ∙ sym (length-append front other)

fronts : (one other tail : List ℕ) → length one ≡ length other → length (one ++ tail) ≡ length (other ++ tail)
fronts one other tail same =
    length-append one tail ∙ ap (λ (n : ℕ). n + length tail) same ∙ sym (length-append other tail)

middle : (head : List ℕ) (first : ℕ) (d e : ℤ) (tail : List ℕ)
    → length (head ++ (first ∷ long_of d) ++ tail) ≡ length (head ++ (first ∷ long_of e) ++ tail)
middle head first d e tail =
    fronts (head ++ (first ∷ long_of d)) (head ++ (first ∷ long_of e)) tail
    (tails head (first ∷ long_of d) (first ∷ long_of e) refl)

-- a spelling has as many bytes with another distance
pub same_length : (d : ℤ) (i : Instr) → length (spelling_of (aimed_by d i)) ≡ length (spelling_of i)
unfolding spelling_of aimed_by rm_bytes mem_bytes rm_x rm_b store_low_head extend_head
same_length d (instr.Short code e) = tails _ (byte_of d) (byte_of e) refl
same_length d (instr.Near op e) = tails _ (long_of d) (long_of e) refl
same_length d (instr.RegRm op width reg (rms.Mem (memory.Symbol e))) = tails _ (_ ∷ long_of d) (_ ∷ long_of e) refl
same_length d (instr.ArithmeticReg op lock width from (rms.Mem (memory.Symbol e))) = tails _ (_ ∷ long_of d) (_ ∷ long_of e) refl
same_length d (instr.MemReg op width (memory.Symbol e) reg) = tails _ (_ ∷ long_of d) (_ ∷ long_of e) refl
same_length d (instr.ArithmeticConst op lock width constant (rms.Mem (memory.Symbol e))) =
    middle (head_bytes (locked_head lock (rex_of (is_quad width) false (rms.Mem (memory.Symbol e))) (const_opcode constant))) (fields 0 (arithmetic_digit op) 5) d e (short_of constant)
same_length d (instr.CompareConst width (rms.Mem (memory.Symbol e)) constant) =
    middle (head_bytes (plain_head (rex_of (is_quad width) false (rms.Mem (memory.Symbol e))) (const_opcode constant))) (fields 0 (7) 5) d e (short_of constant)
same_length d (instr.StoreLow size.Byte from (memory.Symbol e)) = tails _ (_ ∷ long_of d) (_ ∷ long_of e) refl
same_length d (instr.StoreLow size.Word from (memory.Symbol e)) = tails _ (_ ∷ long_of d) (_ ∷ long_of e) refl
same_length d (instr.Extend extend.ByteZero (rms.Mem (memory.Symbol e)) to) = tails _ (_ ∷ long_of d) (_ ∷ long_of e) refl
same_length d (instr.Extend extend.WordZero (rms.Mem (memory.Symbol e)) to) = tails _ (_ ∷ long_of d) (_ ∷ long_of e) refl
same_length d (instr.Extend extend.ByteSign (rms.Mem (memory.Symbol e)) to) = tails _ (_ ∷ long_of d) (_ ∷ long_of e) refl
same_length d (instr.Extend extend.WordSign (rms.Mem (memory.Symbol e)) to) = tails _ (_ ∷ long_of d) (_ ∷ long_of e) refl
same_length d (instr.Extend extend.LongSign (rms.Mem (memory.Symbol e)) to) = tails _ (_ ∷ long_of d) (_ ∷ long_of e) refl
same_length d (instr.StoreConst width constant (memory.Symbol e)) =
    middle (head_bytes (plain_head (rex_of (is_quad width) false (rms.Mem (memory.Symbol e))) (One 0xc7))) (fields 0 (0) 5) d e (long_of constant)
same_length d (instr.StoreByte constant (memory.Symbol e)) =
    middle (head_bytes (plain_head (rex_of false false (rms.Mem (memory.Symbol e))) (One 0xc6))) (fields 0 (0) 5) d e (byte_of constant)
same_length d (instr.Lea (memory.Symbol e) to) = tails _ (_ ∷ long_of d) (_ ∷ long_of e) refl
same_length d (instr.Unary op lock width (rms.Mem (memory.Symbol e))) = tails _ (_ ∷ long_of d) (_ ∷ long_of e) refl
same_length d (instr.MulDiv op width (rms.Mem (memory.Symbol e))) = tails _ (_ ∷ long_of d) (_ ∷ long_of e) refl
same_length d (instr.RmReg op width (rms.Mem (memory.Symbol e)) to) = tails _ (_ ∷ long_of d) (_ ∷ long_of e) refl
same_length d (instr.ShiftConst op width count (rms.Mem (memory.Symbol e))) =
    middle (head_bytes (plain_head (rex_of (is_quad width) false (rms.Mem (memory.Symbol e))) (One 0xc1))) (fields 0 (shift_digit op) 5) d e (count ∷ [])
same_length d (instr.ShiftCx op width (rms.Mem (memory.Symbol e))) = tails _ (_ ∷ long_of d) (_ ∷ long_of e) refl
same_length d (instr.Exchange width reg (memory.Symbol e)) = tails _ (_ ∷ long_of d) (_ ∷ long_of e) refl
same_length d (instr.Atomic op lock width reg (memory.Symbol e)) = tails _ (_ ∷ long_of d) (_ ∷ long_of e) refl
same_length d (instr.SetCc code (rms.Mem (memory.Symbol e))) = tails _ (_ ∷ long_of d) (_ ∷ long_of e) refl
same_length d (instr.MoveCc code width (rms.Mem (memory.Symbol e)) to) = tails _ (_ ∷ long_of d) (_ ∷ long_of e) refl
same_length d (instr.Indirect op (rms.Mem (memory.Symbol e))) = tails _ (_ ∷ long_of d) (_ ∷ long_of e) refl
same_length d (instr.LoadWide (memory.Symbol e) to) = tails _ (_ ∷ long_of d) (_ ∷ long_of e) refl
same_length d (instr.StoreWide from (memory.Symbol e)) = tails _ (_ ∷ long_of d) (_ ∷ long_of e) refl
same_length d _ = refl

pub same_end : (d : ℤ) (i : Instr) (pc : ℕ) → end_of (aimed_by d i) pc ≡ end_of i pc
same_end d i pc = ap (λ (n : ℕ). (pc + n) % 2 ^ 64) (same_length d i)

-- instructions that differ in their distance alone
pub same_lengths : aim.KeepLengths amd64 Fits aiming
same_lengths i j fi fj same =
    sym (same_length (pos 0) i) ∙ ap (λ (k : Instr). length (spelling_of k)) same ∙ same_length (pos 0) j

-- an instruction that is another but for its distance is that one with its own distance
pub is_aimed : (i j : Instr) (d : ℤ) → distance_of j ≡ Some d → aimed_by (pos 0) j ≡ aimed_by (pos 0) i → j ≡ aimed_by d i
is_aimed i j d has same =
    sym (aimed_same d j has) ∙ sym (aimed_twice d (pos 0) j) ∙ ap (aimed_by d) same ∙ aimed_twice d (pos 0) i

-- The law of aims. An instruction that has a distance is aimed by one that fits and leads to the goal

pub record Leads (i : Instr) (place goal : ℕ) (d : ℤ) : Type 0 where
  pub fit : IsTrue (fits_bits (distance_bits i) d)
  pub to : moved_by (end_of i place) d ≡ goal

pub aims_by : (i : Instr) (place goal : ℕ) (d : ℤ) → Fits i → is_some (distance_of i) ≡ true → Leads i place goal d
    → aim.Aims amd64 Fits aiming i Whole place goal (aimed_by d i)
aims_by i place goal d fit has leads = record {
  fit = fits_aimed d i fit leads.fit;
  same = aimed_twice (pos 0) d i;
  aimed = has_goal (distance_of i) has (distance_aimed d i);
}
  where
    has_goal : (old : Option ℤ) → is_some old ≡ true → distance_of (aimed_by d i) ≡ option_map (λ _. d) old
        → option_map (moved_by (end_of (aimed_by d i) place)) (distance_of (aimed_by d i)) ≡ Some goal
    has_goal None some new = absurd (cc)
    has_goal (Some e) some new =
        ap (option_map (moved_by (end_of (aimed_by d i) place))) new
        ∙ ap (λ (end : ℕ). Some (moved_by end d)) (same_end d i place) ∙ ap (λ (n : ℕ). Some n) leads.to

pub record AimedBy (i j : Instr) (place goal : ℕ) : Type 0 where
  pub distance : ℤ
  pub has : is_some (distance_of i) ≡ true
  pub leads : Leads i place goal distance
  pub is : j ≡ aimed_by distance i
  pub end : end_of j place ≡ end_of i place

some_of : {A : Type 0} {B : Type 0} (f : A → B) (x : Option A) (y : B) → option_map f x ≡ Some y → (a : A) × (x ≡ Some a) × (f a ≡ y)
some_of f None y is = absurd (cc)
some_of f (Some a) y is = (a, refl, cc)

pub aimed_so : (i j : Instr) (place goal : ℕ) → aim.Aims amd64 Fits aiming i Whole place goal j → AimedBy i j place goal
aimed_so i j place goal aims =
    let found = some_of (moved_by (end_of j place)) (distance_of j) goal aims.aimed in
    let d = found.0 in
    let is : j ≡ aimed_by d i = is_aimed i j d found.1 aims.same in
    let bits : distance_bits j ≡ distance_bits i = ap distance_bits is ∙ bits_aimed d i in
    let end : end_of j place ≡ end_of i place = ap (λ (k : Instr). end_of k place) is ∙ same_end d i place in
    record {
      distance = d;
      has = some_from (distance_of i) (sym (distance_aimed d i) ∙ ap distance_of (sym is) ∙ found.1);
      leads = record {
        fit = subst (λ (n : ℕ). IsTrue (fits_bits n d)) bits (distance_fits d j aims.fit found.1);
        to = ap (λ (end : ℕ). moved_by end d) (sym end) ∙ found.2;
      };
      is = is;
      end = end;
    }
  where
    some_from : {e : ℤ} (old : Option ℤ) → option_map (λ (_ : ℤ). e) old ≡ Some e → is_some old ≡ true
    some_from None is = absurd (cc)
    some_from (Some x) is = refl

-- What `aim` finds

found_by : (i : Instr) (place goal : ℕ) (d : ℤ) → Fits i → moved_by (end_of i place) d ≡ goal → (some fit : Bool)
    → is_some (distance_of i) ≡ some → fits_bits (distance_bits i) d ≡ fit
    → IfSome (if some && fit then Some (aimed_by d i) else None) (λ j. aim.Aims amd64 Fits aiming i Whole place goal j)
found_by i place goal d fit to true true has fits = aims_by i place goal d fit has (record { fit = fits; to = to })
found_by i place goal d fit to true false has fits = tt
found_by i place goal d fit to false true has fits = tt
found_by i place goal d fit to false false has fits = tt

pub aim_found : (i : Instr) (place goal : ℕ) (d : ℤ) (found : Option Instr) → Fits i → found ≡ aimed i d
    → moved_by (end_of i place) d ≡ goal → IfSome found (λ j. aim.Aims amd64 Fits aiming i Whole place goal j)
aim_found i place goal d found fit is to =
    subst (λ (x : Option Instr). IfSome x (λ j. aim.Aims amd64 Fits aiming i Whole place goal j)) (sym is)
    (found_by i place goal d fit to (is_some (distance_of i)) (fits_bits (distance_bits i) d) refl refl)

fits_by : (i : Instr) (d : ℤ) → Fits i → (some fit : Bool) → fits_bits (distance_bits i) d ≡ fit
    → IfSome (if some && fit then Some (aimed_by d i) else None) (λ j. Fits j)
fits_by i d fit true true fits = fits_aimed d i fit fits
fits_by i d fit true false fits = tt
fits_by i d fit false true fits = tt
fits_by i d fit false false fits = tt

pub aimed_listed : (i : Instr) (d : ℤ) (found : Option Instr) → Fits i → found ≡ aimed i d → IfSome found (λ j. Fits j)
aimed_listed i d found fit is =
    subst (λ (x : Option Instr). IfSome x (λ j. Fits j)) (sym is)
    (fits_by i d fit (is_some (distance_of i)) (fits_bits (distance_bits i) d) refl)

-- a distance has at most 64 bits
wide : (i : Instr) (d : ℤ) → IsTrue (fits_bits (distance_bits i) d) → IsTrue (fits_bits 64 d)
unfolding distance_bits
wide = search rules

pub aim_only : (i : Instr) (place goal : ℕ) (d : ℤ) (found : Option Instr) → found ≡ aimed i d
    → ((e : ℤ) → IsTrue (fits_bits 64 e) → moved_by (end_of i place) e ≡ goal → d ≡ e)
    → (j : Instr) → aim.Aims amd64 Fits aiming i Whole place goal j → found ≡ Some j
aim_only i place goal d found is sole j aims =
    let by = aimed_so i j place goal aims in
    let same : d ≡ by.distance = sole by.distance (wide i by.distance by.leads.fit) by.leads.to in
    let fits : fits_bits (distance_bits i) by.distance ≡ true = by.leads.fit in
    is ∙ ap (aimed i) same ∙ rw (by.has, fits) (ap (λ (k : Instr). Some k) (sym by.is))
