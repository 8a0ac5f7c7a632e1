-- The stretch of a function's bytes that an instruction takes, and what a table tells of it.
use Rattle.std.proofs.Common.{◌≡◌, ℕ, zero, suc, ℤ, ◌+◌, ◌-◌, ◌≤◌, ◌<◌, List, [], ◌∷◌, Some, length, refl, sym, ap, ◌∙◌, arith, length-append}
use Rattle.std.specs.List.{flat_map, slice_get}
use Rattle.asm_target.specs.declared.body.Placed.{Placed}
use Rattle.asm_target.specs.InstructionSet.{InstructionSet}
use Rattle.pclntab.specs.Func.{FieldTellsOver, answer_at, entry_of}
use Rattle.pclntab.specs.Places.{quantum}
use Rattle.pclntab.specs.Table.{pc_bytes}
use Rattle.pclntab.specs.Words.{u32_at}
use Rattle.pcvalue.specs.declared.answer.Answer.TheVariants.{Value}
use Rattle.pcvalue.specs.declared.run.Run.{Run}
use Rattle.pcvalue.specs.Cover.{AnswersPlaces, Covers}
use Rattle.pcvalue.specs.Table.{runs_at}
use Rattle.image_rules.specs.Functions.{ends_from, placed_from}

-- the instruction has the bytes of a stretch, counted from the function's entry
pub record IsSpan {Instr : Type 0} (entry from : ℕ) (ends : List ℕ) (k : ℕ) (one : Placed Instr) : Type 0 where
  pub first : ℕ
  pub past : ℕ
  pub begins : slice_get (from ∷ ends) k ≡ Some first
  pub ends_there : slice_get ends k ≡ Some past
  pub at : one.at ≡ entry + first
  pub end : one.at + one.len ≡ entry + past

module _ {Instr : Type 0} (set : InstructionSet Instr) (entry : ℕ) where
  pub span : (from at : ℕ) (code : List Instr) (k : ℕ) (one : Placed Instr) → at ≡ entry + from
      → slice_get (placed_from set at code) k ≡ Some one → IsSpan entry from (ends_from set from code) k one
  span from at [] k one same here = absurd (cc)
  span from at (instr ∷ code) zero one same here =
      let first : record { at = at; len = length (set.spelling instr); instr = instr } ≡ one = cc in
      let place : at ≡ one.at = ap (λ (item : Placed Instr). item.at) first in
      let size : length (set.spelling instr) ≡ one.len = ap (λ (item : Placed Instr). item.len) first in
      record {
        first = from;
        past = from + length (set.spelling instr);
        begins = refl;
        ends_there = refl;
        at = sym place ∙ same;
        end = omega arith;
      }
  span from at (instr ∷ code) (suc k) one same here =
      let rest = span (from + length (set.spelling instr)) (at + length (set.spelling instr)) code k one (omega arith) here in
      record { first = rest.first; past = rest.past; begins = rest.begins; ends_there = rest.ends_there; at = rest.at; end = rest.end }

  pub most : (from : ℕ) (code : List Instr) (k past : ℕ) → slice_get (ends_from set from code) k ≡ Some past
      → past ≤ from + length (flat_map set.spelling code)
  most from [] k past there = absurd (cc)
  most from (instr ∷ code) zero past there =
      let same : from + length (set.spelling instr) ≡ past = cc in
      omega (arith, length-append (set.spelling instr) (flat_map set.spelling code))
  most from (instr ∷ code) (suc k) past there =
      let rest = most (from + length (set.spelling instr)) code k past there in
      omega (arith, length-append (set.spelling instr) (flat_map set.spelling code))

-- a stretch that is covered has a value
has_value : (from : ℕ) (ends : List ℕ) (values : List ℤ) (runs : List Run) (k past : ℕ) → Covers from ends values runs
    → slice_get ends k ≡ Some past → (value : ℤ) × (slice_get values k ≡ Some value)
has_value from [] values runs k past covers there = absurd (cc)
has_value from (end ∷ ends) [] runs k past covers there = absurd covers
has_value from (end ∷ ends) (value ∷ values) runs zero past covers there = (value, refl)
has_value from (end ∷ ends) (value ∷ values) runs (suc k) past covers there = has_value end ends values runs k past covers.1 there

-- what a table tells of the addresses of a stretch
pub record Tells (bytes : List ℕ) (index field entry first past : ℕ) (values : List ℤ) (k : ℕ) : Type 0 where
  pub value : ℤ
  pub here : slice_get values k ≡ Some value
  pub tells : (place : ℕ) → entry + first ≤ place → place < entry + past → answer_at bytes index field place ≡ Value value

pub told_over : AnswersPlaces → (bytes : List ℕ) (index field entry : ℕ) (ends : List ℕ) (values : List ℤ) (k first past : ℕ)
    → entry ≡ entry_of bytes index → FieldTellsOver bytes field ends values
    → slice_get (0 ∷ ends) k ≡ Some first → slice_get ends k ≡ Some past
    → Tells bytes index field entry first past values k
unfolding answer_at
told_over answers bytes index field entry ends values k first past same over begins there =
    let found = has_value 0 ends values (runs_at (pc_bytes bytes) (u32_at bytes field) (quantum bytes)).runs k past over.covers there in
    record {
      value = found.0;
      here = found.1;
      tells = λ place low high.
          answers (pc_bytes bytes) (u32_at bytes field) (quantum bytes) ends values over k first past (place - entry_of bytes index) found.0
          begins there found.1 (omega arith) (omega arith);
    }
