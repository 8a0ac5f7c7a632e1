-- What surrounds the functions of an image is settled.
use Rattle.std.proofs.Common.{◌≡◌, ℕ, suc, ◌≤◌, ◌<◌, nat_lt, List, [], ◌∷◌, All, if◌then◌else◌, refl, sym, ap, ◌∙◌, arith, inl, inr}
use Rattle.std.specs.List.{sum_by}
use Rattle.std.specs.List.Sorted.{IsNonDecreasing}
use Rattle.std.proofs.lemmas.Bool.{cases_order}
use Rattle.std.proofs.lemmas.Bool.Decides.{nat_tests}
use Rattle.std.proofs.lemmas.List.Elements.{All-head, All-tail}
use Rattle.std.proofs.lemmas.List.Sorted.{sum_by-IsPermutation}
use Rattle.std.proofs.lemmas.List.Sums.{sum_by-cons}
use Rattle.flow_rules.specs.Placing.{Surroundings}
use Rattle.image_rules.specs.Parts.{Surrounds, growth_in}

-- 1 for a number below the bound
one_below : ℕ → ℕ → ℕ
one_below bound n = if nat_lt n bound then 1 else 0

counts : (bound n : ℕ) → n < bound → one_below bound n ≡ 1
unfolding one_below
counts bound n less = grind (arith, nat_tests)

skips : (bound n : ℕ) → bound ≤ n → one_below bound n ≡ 0
unfolding one_below
skips bound n least = grind (arith, nat_tests)

none_below : (bound : ℕ) (numbers : List ℕ) → All (λ n. bound ≤ n) numbers → sum_by (one_below bound) numbers ≡ 0
none_below bound [] least = refl
none_below bound (n ∷ numbers) least =
    let first = skips bound n (All-head (λ m. bound ≤ m) n numbers least) in
    let others = none_below bound numbers (All-tail (λ m. bound ≤ m) n numbers least) in
    omega (arith, sum_by-cons (one_below bound) n numbers, first, others)

-- a list whose head is below another's, in order, isn't a list of the same numbers
not_less : (x y : ℕ) (xs ys : List ℕ) → IsNonDecreasing (y ∷ ys) → ((f : ℕ → ℕ) → sum_by f (x ∷ xs) ≡ sum_by f (y ∷ ys)) → ¬ (x < y)
not_less x y xs ys order same less =
    let none = none_below y (y ∷ ys) (λ k d inside. order 0 k d (omega arith) inside) in
    omega (arith, counts y x less, none, same (one_below y), sum_by-cons (one_below y) x xs)

-- two lists in order that have the same numbers are the same
same_sorted : (xs ys : List ℕ) → IsNonDecreasing xs → IsNonDecreasing ys → ((f : ℕ → ℕ) → sum_by f xs ≡ sum_by f ys) → xs ≡ ys
same_sorted [] [] one other same = refl
same_sorted [] (y ∷ ys) one other same = absurd (omega (arith, same (λ _. 1), sum_by-cons (λ (_ : ℕ). 1) y ys))
same_sorted (x ∷ xs) [] one other same = absurd (omega (arith, same (λ _. 1), sum_by-cons (λ (_ : ℕ). 1) x xs))
same_sorted (x ∷ xs) (y ∷ ys) one other same =
    let head : x ≡ y =
    elim (cases_order x y) as (λ _. x ≡ y) [
      | inl equal ↦ equal
      | inr (inl less) ↦ absurd (not_less x y xs ys other same less)
      | inr (inr more) ↦ absurd (not_less y x ys xs one (λ f. sym (same f)) more)
    ] in
    let tail : xs ≡ ys =
    same_sorted xs ys (λ i j d upto inside. one (suc i) (suc j) d (omega arith) (omega arith))
    (λ i j d upto inside. other (suc i) (suc j) d (omega arith) (omega arith))
    (λ f. let first : f x ≡ f y = ap f head in omega (arith, first, same f, sum_by-cons f x xs, sum_by-cons f y ys)) in
    cc (head, tail)

pub same_around : (bytes : List ℕ) (around other : Surroundings) → Surrounds bytes around → Surrounds bytes other → around ≡ other
same_around bytes around other a b =
    let text : around.text ≡ other.text = a.text ∙ sym b.text in
    let entries : around.entries ≡ other.entries = a.entries ∙ sym b.entries in
    let growth : around.growth ≡ other.growth =
    same_sorted around.growth other.growth a.ordered b.ordered
    (λ f. sum_by-IsPermutation f (growth_in bytes) around.growth a.growth ∙ sym (sum_by-IsPermutation f (growth_in bytes) other.growth b.growth)) in
    let same : record { text = around.text; entries = around.entries; growth = around.growth }
    ≡ record { text = other.text; entries = other.entries; growth = other.growth } = cc (text, entries, growth) in
    same
