-- Cases of a test and of an option inside a term.
use Rattle.std.proofs.Common.{◌≡◌, Bool, true, false, List, [], ◌∷◌, Option, Some, None, if◌then◌else◌, refl, ap, ◌∙◌}
use Rattle.std.specs.Option.{option_and_then}

pub by_test : {A : Type 0} (test : Bool) (x y : A) (P : A → Type 0) → (test ≡ true → P x) → (test ≡ false → P y) → P (if test then x else y)
by_test true x y P on off = on refl
by_test false x y P on off = off refl

pub by_option : {A : Type 0} (found : Option A) (P : Option A → Type 0) → (found ≡ None → P None)
    → ((x : A) → found ≡ Some x → P (Some x)) → P found
by_option None P none some = none refl
by_option (Some x) P none some = some x refl

pub test_off : {A : Type 0} (test : Bool) (x y : A) → test ≡ false → (if test then x else y) ≡ y
test_off true x y off = absurd (cc)
test_off false x y off = refl

pub test_on : {A : Type 0} (test : Bool) (x y : A) → test ≡ true → (if test then x else y) ≡ x
test_on true x y on = refl
test_on false x y on = absurd (cc)

pub test_cons : {A : Type 0} (test : Bool) (x : A) (xs : List A) → (if test then x ∷ [] else x ∷ xs) ≡ (x ∷ (if test then [] else xs))
test_cons true x xs = refl
test_cons false x xs = refl

pub and_then_some : {A B : Type 0} (give : A → Option B) (found : Option A) (y : B) → option_and_then give found ≡ Some y
    → (x : A) × (found ≡ Some x) × (give x ≡ Some y)
and_then_some give (Some x) y is = (x, refl, is)
and_then_some give None y is = absurd (cc)

pub and_then : {A B : Type 0} (give : A → Option B) (found : Option A) (x : A) {y : B} → found ≡ Some x → give x ≡ Some y
    → option_and_then give found ≡ Some y
and_then give (Some other) x is gives = (let same : other ≡ x = cc in ap give same ∙ gives)
and_then give None x is gives = absurd (cc)
