-- Instructions at their places are a function as the rules want it.
use Rattle.std.specs.Prelude.{map, drop}
use Rattle.std.specs.List.{slice_get}
use Rattle.std.proofs.Common.{◌≡◌, ℕ, zero, suc, List, ◌+◌, ◌-◌, ◌<◌, ◌≤◌, false, length, refl, sym, ap, ◌∙◌, subst, arith, length-drop}
use Rattle.std.proofs.lemmas.List.{drop-drop, drop-map, length-map}
use Rattle.machine_effect.specs.declared.flow.Shape.{Shape}
use Rattle.asm_target.proofs.PlaceLemmas.{item_at}
use Rattle.asm_target.specs.declared.body.Placed.{Placed}
use Rattle.asm_target.specs.declared.sequence.Sequence.{Sequence}
use Rattle.asm_target.specs.declared.sequence.Sequence.TheVariants.{Plain, Saving, Restoring, Growth}
use Rattle.asm_target.specs.InstructionSet.{InstructionSet}
use Rattle.asm_target.specs.SequenceLaws.{StandsApart}
use Rattle.asm_target.specs.Sequences.{count_of, is_plain}
use Rattle.flow_rules.specs.Lawful.{IsLawful}
use Rattle.flow_rules.specs.Placing.{ArePlaced, Surroundings, function_of, place_of}

module _ {Instr : Type 0} (code : List (Placed Instr)) (is : ArePlaced code) where
  next_rises : (k : ℕ) → suc k < length code → place_of (slice_get code k) < place_of (slice_get code (suc k))
  next_rises k inside =
      let one = item_at code k (omega arith) in
      let other = item_at code (suc k) inside in
      let some = is.some k one.0 one.1 in
      let follows = is.follows k one.0 other.0 one.1 other.1 in
      rw (one.1, other.1) (omega arith)

  rises : (i n : ℕ) → i + suc n < length code → place_of (slice_get code i) < place_of (slice_get code (i + suc n))
  rises i zero inside =
      let next : i + 1 ≡ suc i = omega arith in
      subst (λ (p : ℕ). place_of (slice_get code i) < place_of (slice_get code p)) (sym next) (next_rises i (omega arith))
  rises i (suc n) inside =
      let before = rises i n (omega arith) in
      let step = next_rises (i + suc n) (omega arith) in
      let next : i + suc (suc n) ≡ suc (i + suc n) = omega arith in
      subst (λ (p : ℕ). place_of (slice_get code i) < place_of (slice_get code p)) (sym next) (omega (arith, before, step))

  places_rise : (i j : ℕ) → i < j → j < length code → place_of (slice_get code i) < place_of (slice_get code j)
  places_rise i j less inside =
      let same : i + suc (j - suc i) ≡ j = omega arith in
      subst (λ (p : ℕ). place_of (slice_get code i) < place_of (slice_get code p)) same (rises i (j - suc i) (omega arith))

-- a plain one has one instruction
count_within : (found : Sequence) (n : ℕ) → 0 < n → (is_plain found ≡ false → count_of found ≤ n) → count_of found ≤ n
count_within Plain n some there = omega arith
count_within (Saving count total) n some there = there refl
count_within (Restoring count total) n some there = there refl
count_within (Growth count) n some there = there refl

module _ {Instr : Type 0} (set : InstructionSet Instr) (shape : Shape) (begins : List Instr → Sequence)
    (apart : (code : List Instr) → StandsApart begins code) (code : List (Placed Instr)) (depths : List ℕ) (surroundings : Surroundings) where
  abbrev behind : ℕ → List Instr
  behind k = map (λ placed. placed.instr) (drop k code)

  behind_length : (k : ℕ) → length (behind k) ≡ length code - k
  behind_length k = length-map (drop k code) (λ placed. placed.instr) ∙ length-drop k code

  behind_more : (s j : ℕ) → behind (s + j) ≡ drop j (behind s)
  behind_more s j =
      ap (map (λ placed. placed.instr)) (sym (drop-drop j s code)) ∙ sym (drop-map (λ placed. placed.instr) j (drop s code))

  pub lawful_code : ArePlaced code → IsLawful (function_of set shape begins code depths surroundings)
  lawful_code is = record {
    rises = places_rise code is;
    some = λ s. (apart (behind s)).some;
    short = λ s. (apart (behind s)).short;
    within = λ s inside.
        let len = behind_length s in
        let count : count_of (begins (behind s)) ≤ length (behind s) =
        count_within (begins (behind s)) (length (behind s)) (omega arith) (apart (behind s)).there in
        omega arith;
    apart = λ s j more less. ap begins (behind_more s j) ∙ (apart (behind s)).apart j more less;
  }
