-- What a set of keys is, seen without where the names lie in memory.
use Rattle.std.proofs.Common.{◌≡◌, ℕ, zero, suc, ◌+◌, ◌<◌, ◌≤◌, get_or, take, arith, Bool, true, false, ◌||◌, not, cond, ltb, List, [], ◌∷◌, ◌++◌, map, length, Some, None, refl, sym, ap, ◌∙◌}
use Rattle.std.specs.Prelude.{position, slice_get}
use Rattle.std.specs.List.{list_any, prefix_len, position_or_len}
use Rattle.std.specs.Borrow.{Bor}
use Rattle.std.proofs.lemmas.Bool.Decides.{nat_tests}
use Rattle.std.proofs.lemmas.List.{map_push, map_more, get_or-map, length-map}
use Rattle.asm_parse.specs.declared.unit.Symbol.{Symbol}
use Rattle.asm_parse.specs.Parse.{symbol_of}
use Rattle.asm_parse.specs.Numbering.{Key, key_seen, is_same, has_name, with_name, number_of, place_of}

any_of-map : {X Y : Type 0} (p : Y → Bool) (f : X → Y) (xs : List X) → list_any p (map f xs) ≡ list_any (λ x. p (f x)) xs
any_of-map p f [] = refl
any_of-map p f (x ∷ xs) = ap (λ b. p (f x) || b) (any_of-map p f xs)

prefix_of-map : {X Y : Type 0} (p : Y → Bool) (f : X → Y) (xs : List X) → prefix_len p (map f xs) ≡ prefix_len (λ x. p (f x)) xs
prefix_of-map p f [] = refl
prefix_of-map p f (x ∷ xs) = ap (λ (n : ℕ). cond (p (f x)) (1 + n) 0) (prefix_of-map p f xs)

module _ (keys : List (Bor (List ℕ) × Bool)) (key : Bor (List ℕ) × Bool) where
  abbrev test : Bor (List ℕ) × Bool → Bool
  test other = is_same (key_seen key) (key_seen other)

  pub seen_any : list_any test keys ≡ has_name (map key_seen keys) (key_seen key)
  seen_any = sym (any_of-map (is_same (key_seen key)) key_seen keys)

  pub seen_place : position_or_len test keys ≡ place_of (map key_seen keys) (key_seen key)
  seen_place = sym (prefix_of-map (λ other. not (is_same (key_seen key) other)) key_seen keys)

  pub seen_number : position test keys ≡ number_of (map key_seen keys) (key_seen key)
  seen_number = ap (λ (n : ℕ). cond (ltb n (length keys)) (Some n) None) seen_place
      ∙ ap (λ (m : ℕ). cond (ltb (place_of (map key_seen keys) (key_seen key)) m) (Some (place_of (map key_seen keys) (key_seen key))) None) (sym (length-map keys key_seen))

  added_by : (b : Bool) → map key_seen (cond b keys (keys ++ key ∷ [])) ≡ cond b (map key_seen keys) (map key_seen keys ++ key_seen key ∷ [])
  added_by true = refl
  added_by false = map_push key_seen keys key

  pub seen_with : map key_seen (cond (list_any test keys) keys (keys ++ key ∷ [])) ≡ with_name (map key_seen keys) (key_seen key)
  seen_with = added_by (list_any test keys) ∙ ap (λ b. cond b (map key_seen keys) (map key_seen keys ++ key_seen key ∷ [])) seen_any

got : {X : Type 0} (xs : List X) (n : ℕ) (x : X) → Some x ≡ slice_get xs n → (n < length xs) × (x ≡ get_or xs n x)
got [] n x e = absurd cc
got (y ∷ ys) zero x e = let same : x ≡ y = cc in (omega arith, same)
got (y ∷ ys) (suc n) x e = let rest = got ys n x e in (omega (arith, rest.0), rest.1)

-- one symbol more
pub symbol_turn : (keys : List (Bor (List ℕ) × Bool)) (n m : ℕ) (key : Bor (List ℕ) × Bool) (items after : List Symbol) (made : Symbol)
    → Some key ≡ slice_get keys n → m ≡ n + 1 → items ≡ map symbol_of (take n (map key_seen keys)) → after ≡ items ++ made ∷ [] → made ≡ symbol_of (key_seen key)
    → (m ≤ length keys) × (after ≡ map symbol_of (take m (map key_seen keys)))
symbol_turn keys n m key items after made e m-is items-is after-is made-is =
    let at = got keys n key e in
    let inside : n < length (map key_seen keys) = rw length-map at.0 in
    let named : get_or (map key_seen keys) n (key_seen key) ≡ key_seen key = get_or-map key_seen keys n key (key_seen key) at.0 ∙ ap key_seen (sym at.1) in
    let more : map symbol_of (take (n + 1) (map key_seen keys)) ≡ map symbol_of (take n (map key_seen keys)) ++ symbol_of (key_seen key) ∷ [] =
    map_more symbol_of (map key_seen keys) n (key_seen key) inside ∙ ap (λ (k : Key). map symbol_of (take n (map key_seen keys)) ++ symbol_of k ∷ []) named in
    (omega (arith, at.0, m-is), after-is ∙ ap (λ (l : List Symbol). l ++ made ∷ []) items-is ∙ ap (λ (x : Symbol). map symbol_of (take n (map key_seen keys)) ++ x ∷ []) made-is ∙ sym more ∙ ap (λ (k : ℕ). map symbol_of (take k (map key_seen keys))) (sym m-is))

-- what stands in a list has a place there
any_within : {X : Type 0} (p : X → Bool) (xs : List X) → list_any p xs ≡ true → position_or_len p xs < length xs
any_within p [] there = absurd cc
any_within p (x ∷ xs) there = by (any_within p xs) (p x) refl there where
  by : (list_any p xs ≡ true → position_or_len p xs < length xs) → (found : Bool) → p x ≡ found → (found || list_any p xs) ≡ true → position_or_len p (x ∷ xs) < length (x ∷ xs)
  by rest true is there = rw is (omega arith)
  by rest false is there = rw is (omega (arith, rest there))

pub there_within : (names : List Key) (key : Key) → has_name names key ≡ true → place_of names key < length names
there_within names key there = any_within (is_same key) names there

none_there : {X : Type 0} (p : X → Bool) (xs : List X) (place : ℕ) → place < length xs → cond (ltb place (length xs)) (Some place) None ≡ None → ⊥
none_there p xs place within none = grind (arith, nat_tests)

pub has_number : (names : List Key) (key : Key) → has_name names key ≡ true → None ≡ number_of names key → ⊥
has_number names key there none = none_there (is_same key) names (place_of names key) (there_within names key there) (sym none)
