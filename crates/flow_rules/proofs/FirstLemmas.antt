-- The first number that meets a test.
use Rattle.std.proofs.Common.{◌≡◌, ℕ, ◌&&◌, ◌||◌, Bool, true, false, Option, Some, None, is_some, refl, sym, ◌∙◌}
use Rattle.asm_target.specs.DepthChange.{any_below}
use Rattle.asm_target.proofs.CleanLemmas.{none_below, some_below}
use Rattle.flow_rules.specs.Passing.{IsFirst}

pub any_first : (test : ℕ → Bool) (count : ℕ) (first : Option ℕ) → IsFirst test count first → any_below test count ≡ is_some first
any_first test count None none = none_below test count none
any_first test count (Some first) is = some_below test count first is.0 is.1

-- equal tests have the same first number
pub same_first : (one other : ℕ → Bool) (count : ℕ) (first : Option ℕ) → ((j : ℕ) → one j ≡ other j)
    → IsFirst one count first → IsFirst other count first
same_first one other count None same none = λ j less. sym (same j) ∙ none j less
same_first one other count (Some first) same is =
    (is.0, sym (same first) ∙ is.1, λ j less. sym (same j) ∙ is.2 j less)

-- a test by two conditions of which one holds
pub and_or : (one other both : Bool) → ((one && both) || (other && both)) ≡ ((one || other) && both)
and_or true true true = refl
and_or true true false = refl
and_or true false both = or_off both
  where
    or_off : (b : Bool) → (b || false) ≡ b
    or_off true = refl
    or_off false = refl
and_or false other both = refl
