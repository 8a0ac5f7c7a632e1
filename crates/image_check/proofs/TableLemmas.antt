-- Numbers that aren't negative.
use Rattle.std.proofs.Common.{◌≡◌, ℕ, ◌+◌, ◌<◌, true, false, List, [], ◌∷◌, ◌++◌, length, take, get_or, refl, sym, ap, ◌∙◌, subst, arith, to_z, of_z}
use Rattle.std.specs.Prelude.{ℤ, pos, negsuc, map, nat_abs, int_lt}
use Rattle.std.specs.Int.RustNames.{FitsSigned}
use Rattle.std.specs.Int.{w32}
use Rattle.std.proofs.lemmas.Int.{to_z-of_z, ints}
use Rattle.std.proofs.lemmas.List.{map-append, take_more, get_or-map, length-map}
use Rattle.image_check.specs.Tables.{AreNatural}

-- a number as the code reads it
abbrev pub read_value : ℤ → ℤ
read_value z = to_z w32 (of_z w32 z)

natural_value : (z : ℤ) → int_lt z (pos 0) ≡ false → z ≡ pos (nat_abs z)
natural_value (pos n) is = refl
natural_value (negsuc n) is = grind (arith, ints)

no_natural : (z : ℤ) → int_lt z (pos 0) ≡ true → (n : ℕ) → ¬ (z ≡ pos n)
no_natural z negative n is = grind (arith, ints)

pub natural_more : (numbers : List ℤ) (same more : List ℕ) (i : ℕ) → i < length numbers → FitsSigned w32 (get_or numbers i (pos 0))
    → int_lt (read_value (get_or numbers i (pos 0))) (pos 0) ≡ false → take i numbers ≡ map pos same
    → more ≡ same ++ nat_abs (read_value (get_or numbers i (pos 0))) ∷ [] → take (i + 1) numbers ≡ map pos more
natural_more numbers same more i within fits natural known pushed =
    let value = get_or numbers i (pos 0) in
    let read : read_value value ≡ value = to_z-of_z w32 value fits in
    let is : value ≡ pos (nat_abs (read_value value))
    = natural_value value (subst (λ z. int_lt z (pos 0) ≡ false) read natural) ∙ ap (λ z. pos (nat_abs z)) (sym read) in
    take_more numbers i (pos 0) within ∙ ap (λ front. front ++ value ∷ []) known
    ∙ ap (λ z. map pos same ++ z ∷ []) is
    ∙ sym (map-append pos same (nat_abs (read_value value) ∷ [])) ∙ ap (map pos) (sym pushed)

pub negative_there : (numbers : List ℤ) (i : ℕ) → i < length numbers → FitsSigned w32 (get_or numbers i (pos 0))
    → int_lt (read_value (get_or numbers i (pos 0))) (pos 0) ≡ true → ¬ AreNatural numbers
negative_there numbers i within fits negative are =
    let value = get_or numbers i (pos 0) in
    let read : read_value value ≡ value = to_z-of_z w32 value fits in
    let long : i < length are.0 = omega (arith, within, ap length are.1, length-map are.0 pos) in
    no_natural value (subst (λ z. int_lt z (pos 0) ≡ true) read negative) (get_or are.0 i 0)
    (ap (λ list. get_or list i (pos 0)) are.1 ∙ get_or-map pos are.0 i 0 (pos 0) long)
