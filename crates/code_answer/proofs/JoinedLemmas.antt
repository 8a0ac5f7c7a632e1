-- Lists one behind the other are one list, where each of them is one.
use Rattle.std.proofs.Common.{◌≡◌, ℕ, zero, suc, ◌<◌, List, ◌++◌, sym, ap, ◌∙◌, subst, inl, inr, arith}
use Rattle.std.proofs.lemmas.Bool.{cases_lt}
use Rattle.unit_listing.specs.Joined.{AreJoined}

module _ {X : Type 0} (Is : ℕ → List X → Type 0) where
  pub one_joined : (Other : ℕ → List X → Type 0)
      → ((number : ℕ) (list other : List X) → Is number list → Other number other → list ≡ other)
      → (count : ℕ) (list other : List X) → AreJoined Is count list → AreJoined Other count other → list ≡ other
  one_joined Other one zero list other are are' = are ∙ sym are'
  one_joined Other one (suc number) list other (before, last, are, is, whole) (before', last', are', is', whole') =
      let front = one_joined Other one number before before' are are' in
      let end = one number last last' is is' in
      whole ∙ ap (λ front. front ++ last) front ∙ ap (λ end. before' ++ end) end ∙ sym whole'

  -- each of the numbers has a list
  pub one_of : (count : ℕ) (list : List X) → AreJoined Is count list → (number : ℕ) → number < count → (last : List X) × Is number last
  one_of zero list are number below = absurd (omega arith)
  one_of (suc count) list (before, last, are, is, whole) number below = elim (cases_lt number count) [
    | inl less ↦ one_of count before are number less
    | inr least ↦
        let same : count ≡ number = omega arith in
        (last, subst (λ number. Is number last) same is)
  ]
