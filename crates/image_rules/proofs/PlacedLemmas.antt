-- Instructions one behind the other from an address on.
use Rattle.std.proofs.Common.{◌≡◌, ℕ, zero, suc, ◌+◌, ◌-◌, ◌≤◌, ◌<◌, ◌^◌, List, [], ◌∷◌, Some, All, length, refl, sym, ap, ◌∙◌, arith, length-append}
use Rattle.std.specs.List.{flat_map, slice_get}
use Rattle.std.proofs.lemmas.List.Elements.{All-cons, All-head, All-nil, All-tail}
use Rattle.asm_target.specs.declared.body.Placed.{Placed}
use Rattle.asm_target.specs.InstructionSet.{InstructionSet}
use Rattle.asm_target.proofs.PlaceLemmas.{fit_at}
use Rattle.flow_rules.specs.Placing.{ArePlaced, end_of, place_of}
use Rattle.image_model.specs.Listed.{AreSpelled}
use Rattle.image_rules.specs.Functions.{placed_from}

module _ {Instr : Type 0} (set : InstructionSet Instr) (fits : Instr → Type 0) where
  pub placed_length : (at : ℕ) (code : List Instr) → length (placed_from set at code) ≡ length code
  placed_length at [] = refl
  placed_length at (instr ∷ code) = (let others = placed_length (at + length (set.spelling instr)) code in omega arith)

  pub placed_first : (at : ℕ) (code : List Instr) → 0 < length code → place_of (slice_get (placed_from set at code) 0) ≡ at
  placed_first at [] some = absurd (omega arith)
  placed_first at (instr ∷ code) some = refl

  pub placed_last : (at : ℕ) (code : List Instr) → 0 < length code
      → end_of (slice_get (placed_from set at code) (length (placed_from set at code) - 1)) ≡ at + length (flat_map set.spelling code)
  placed_last at [] some = absurd (omega arith)
  placed_last at (instr ∷ []) some = omega (arith, length-append (set.spelling instr) [])
  placed_last at (instr ∷ other ∷ code) some =
      let last : length (placed_from set at (instr ∷ other ∷ code)) - 1
      ≡ suc (length (placed_from set (at + length (set.spelling instr)) (other ∷ code)) - 1) = omega arith in
      let rest = placed_last (at + length (set.spelling instr)) (other ∷ code) (omega arith) in
      ap (λ (k : ℕ). end_of (slice_get (placed_from set at (instr ∷ other ∷ code)) k)) last ∙ rest
      ∙ omega (arith, length-append (set.spelling instr) (flat_map set.spelling (other ∷ code)))

  pub spelled : (at : ℕ) (code : List Instr) → All fits code → AreSpelled set fits (placed_from set at code)
  spelled at [] fit = All-nil (λ (one : Placed Instr). fits one.instr × (one.len ≡ length (set.spelling one.instr)))
  spelled at (instr ∷ code) fit =
      All-cons (λ (one : Placed Instr). fits one.instr × (one.len ≡ length (set.spelling one.instr)))
      (record { at = at; len = length (set.spelling instr); instr = instr })
      (placed_from set (at + length (set.spelling instr)) code) (All-head fits instr code fit, refl)
      (spelled (at + length (set.spelling instr)) code (All-tail fits instr code fit))

  within : (bound at : ℕ) (code : List Instr) → at + length (flat_map set.spelling code) ≤ bound
      → All (λ one. one.at + one.len ≤ bound) (placed_from set at code)
  within bound at [] room = All-nil (λ (one : Placed Instr). one.at + one.len ≤ bound)
  within bound at (instr ∷ code) room =
      let size = length-append (set.spelling instr) (flat_map set.spelling code) in
      All-cons (λ (one : Placed Instr). one.at + one.len ≤ bound)
      (record { at = at; len = length (set.spelling instr); instr = instr })
      (placed_from set (at + length (set.spelling instr)) code) (omega arith)
      (within bound (at + length (set.spelling instr)) code (omega arith))

  follows : (at : ℕ) (code : List Instr) (k : ℕ) (one other : Placed Instr) → slice_get (placed_from set at code) k ≡ Some one
      → slice_get (placed_from set at code) (suc k) ≡ Some other → other.at ≡ one.at + one.len
  follows at [] k one other here there = absurd (cc)
  follows at (instr ∷ []) zero one other here there = absurd (cc)
  follows at (instr ∷ next ∷ code) zero one other here there =
      let first : record { at = at; len = length (set.spelling instr); instr = instr } ≡ one = cc in
      let second : record {
        at = at + length (set.spelling instr);
        len = length (set.spelling next);
        instr = next;
      } ≡ other = cc in
      sym (ap (λ (item : Placed Instr). item.at) second) ∙ ap (λ (item : Placed Instr). item.at + item.len) first
  follows at (instr ∷ code) (suc k) one other here there = follows (at + length (set.spelling instr)) code k one other here there

  pub are_placed : ((instr : Instr) → fits instr → 0 < length (set.spelling instr)) → (at : ℕ) (code : List Instr) → All fits code
      → at + length (flat_map set.spelling code) ≤ 2 ^ 64 → ArePlaced (placed_from set at code)
  are_placed long at code fit room = record {
    some = λ k one here.
        let is = fit_at (λ (item : Placed Instr). fits item.instr × (item.len ≡ length (set.spelling item.instr))) (placed_from set at code)
        k one (spelled at code fit) here in
        let some = long one.instr is.0 in
        let size = is.1 in
        omega arith;
    room = λ k one here.
        fit_at (λ (item : Placed Instr). item.at + item.len ≤ 2 ^ 64) (placed_from set at code) k one (within (2 ^ 64) at code room) here;
    follows = λ k one other here there. follows at code k one other here there;
  }
