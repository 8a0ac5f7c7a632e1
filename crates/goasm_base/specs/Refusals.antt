-- What a call refuses, and which refusal it names: the first by places, and at one place the one with the lowest number.
-- A place is a line, a statement or an instruction, by its number; the number of a refusal is that of its rule.
use Rattle.std.specs.Prelude.{◌≡◌, ◌≢◌, ℕ, zero, suc, Bool, false, ◌==◌, ◌&&◌, ◌||◌, nat_lt, All, Contains, List, [], ◌∷◌, Option, Some, None, Result, Ok, Err, if◌then◌else◌}
use Rattle.std.specs.Option.{option_or}

-- The answers. Want of memory may come in place of any other, so it is told apart by its value.
module _ {T E : Type 0} (memory : E) where
  -- the answer is Ok exactly where nothing is refused, and otherwise the first refusal
  abbrev pub Judges : Result T E → Option E → Type 0
  Judges (Ok value) first = first ≡ None
  Judges (Err refusal) first = refusal ≢ memory → first ≡ Some refusal

  -- the answer is what a definition says
  abbrev pub Gives : Result T E → Result T E → Type 0
  Gives said (Ok value) = said ≡ Ok value
  Gives said (Err refusal) = refusal ≢ memory → said ≡ Err refusal

-- the first that a function has of 0, 1 and on, below a count
unfoldable pub first_below : {A : Type 0} → ℕ → (ℕ → Option A) → Option A
first_below zero at = None
first_below (suc count) at = option_or (first_below count at) (at count)

module _ {A : Type 0} (place number : A → ℕ) where
  abbrev pub comes_before : A → A → Bool
  comes_before one other = nat_lt (place one) (place other) || (place one == place other && nat_lt (number one) (number other))

  -- the first of one that was found, if any, and another
  abbrev pub earlier : Option A → A → A
  earlier None refusal = refusal
  earlier (Some best) refusal = if comes_before refusal best then refusal else best

  -- the first of one that was found, if any, and of those in a list
  abbrev pub first_after : Option A → List A → Option A
  first_after best [] = best
  first_after best (refusal ∷ refusals) = first_after (Some (earlier best refusal)) refusals

  abbrev pub first_of : List A → Option A
  first_of refusals = first_after None refusals

  -- a refusal of the list, before which none of it comes
  pub record IsFirst (refusals : List A) (first : A) : Type 0 where
    pub there : Contains refusals first
    pub before : All (λ other. comes_before other first ≡ false) refusals
