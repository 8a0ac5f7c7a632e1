-- At most one definition is the first that may not stand beside an earlier one.
use Rattle.std.proofs.Common.{◌≡◌, ℕ, ◌+◌, ◌<◌, ◌≤◌, List, length, take, get_or, sym, ap, ◌∙◌, subst, inl, inr, arith}
use Rattle.std.specs.List.{AllPairs, slice_get}
use Rattle.std.proofs.lemmas.Bool.{cases_lt}
use Rattle.std.proofs.lemmas.List.{get_or-take, length-take-le, take-take}
use Rattle.std.proofs.lemmas.Option.{slice_get_within}
use Rattle.link_names.specs.Definitions.{Allows, AreAllowed, Entry, IsFirstTwice}
use Rattle.unit_listing.proofs.OneLemmas.{same_item}

-- what holds of each item and each later one holds so among the first of them
pairs_take : {X : Type 0} (R : X → X → Type 0) (items : List X) (count : ℕ) → count ≤ length items → AllPairs R items
    → AllPairs R (take count items)
pairs_take R items count short all = λ i j d below within.
    let long : length (take count items) ≡ count = length-take-le count items short in
    let low : get_or (take count items) i d ≡ get_or items i d = get_or-take count items i d (omega arith) in
    let high : get_or (take count items) j d ≡ get_or items j d = get_or-take count items j d (omega arith) in
    rw (low, high) (all i j d below (omega arith))

module _ (entries : List Entry) where
  pub not_twice : (name : List ℕ) → IsFirstTwice entries name → AreAllowed entries → ⊥
  not_twice name twice allowed =
      let within : twice.number < length entries = slice_get_within entries twice.number twice.entry twice.here in
      twice.twice (pairs_take Allows entries (twice.number + 1) (omega arith) allowed)

  -- a second one isn't behind the first
  not_behind : (name other : List ℕ) (one : IsFirstTwice entries name) (two : IsFirstTwice entries other) → one.number < two.number → ⊥
  not_behind name other one two less =
      let within : two.number < length entries = slice_get_within entries two.number two.entry two.here in
      let long : length (take two.number entries) ≡ two.number = length-take-le two.number entries (omega arith) in
      one.twice (subst AreAllowed (take-take (one.number + 1) two.number entries (omega arith))
      (pairs_take Allows (take two.number entries) (one.number + 1) (omega arith) two.before))

  pub same_twice : (name other : List ℕ) → IsFirstTwice entries name → IsFirstTwice entries other → name ≡ other
  same_twice name other one two = elim (cases_lt one.number two.number) [
    | inl less ↦ absurd (not_behind name other one two less)
    | inr least ↦ elim (cases_lt two.number one.number) [
      | inl more ↦ absurd (not_behind other name two one more)
      | inr most ↦
          let number : one.number ≡ two.number = omega arith in
          let entry : one.entry ≡ two.entry = same_item (sym one.here ∙ ap (slice_get entries) number ∙ two.here) in
          one.named ∙ ap (λ (entry : Entry). entry.0.0) entry ∙ sym two.named
    ]
  ]
