-- What a set of names is, seen without where the names lie in memory.
use Rattle.std.proofs.Common.{◌≡◌, ℕ, zero, suc, ◌+◌, ◌<◌, ◌≤◌, get_or, take, arith, Bool, true, false, ◌||◌, not, cond, List, [], ◌∷◌, ◌++◌, map, length, Some, refl, sym, ap, ◌∙◌}
use Rattle.std.specs.Prelude.{slice_get, bytes_eq}
use Rattle.std.specs.List.{list_any, prefix_len, position_or_len}
use Rattle.std.specs.Borrow.{Bor}
use Rattle.std.proofs.lemmas.List.{map_push, take_more, get_or-map, length-map}
use Rattle.link_tables.specs.UsedNames.{has_name, with_name, place_of}

abbrev pub seen : Bor (List ℕ) → List ℕ
seen name = name.now

any_of-map : {X Y : Type 0} (p : Y → Bool) (f : X → Y) (xs : List X) → list_any p (map f xs) ≡ list_any (λ x. p (f x)) xs
any_of-map p f [] = refl
any_of-map p f (x ∷ xs) = ap (λ b. p (f x) || b) (any_of-map p f xs)

prefix_of-map : {X Y : Type 0} (p : Y → Bool) (f : X → Y) (xs : List X) → prefix_len p (map f xs) ≡ prefix_len (λ x. p (f x)) xs
prefix_of-map p f [] = refl
prefix_of-map p f (x ∷ xs) = ap (λ (n : ℕ). cond (p (f x)) (1 + n) 0) (prefix_of-map p f xs)

module _ (keys : List (Bor (List ℕ))) (key : Bor (List ℕ)) where
  abbrev test : Bor (List ℕ) → Bool
  test other = bytes_eq key.now other.now

  pub seen_any : list_any test keys ≡ has_name (map seen keys) key.now
  seen_any = sym (any_of-map (bytes_eq key.now) seen keys)

  pub seen_place : position_or_len test keys ≡ place_of (map seen keys) key.now
  seen_place = sym (prefix_of-map (λ other. not (bytes_eq key.now other)) seen keys)

  added_by : (b : Bool) → map seen (cond b keys (keys ++ key ∷ [])) ≡ cond b (map seen keys) (map seen keys ++ key.now ∷ [])
  added_by true = refl
  added_by false = map_push seen keys key

  pub seen_with : map seen (cond (list_any test keys) keys (keys ++ key ∷ [])) ≡ with_name (map seen keys) key.now
  seen_with = added_by (list_any test keys) ∙ ap (λ b. cond b (map seen keys) (map seen keys ++ key.now ∷ [])) seen_any

got : {X : Type 0} (xs : List X) (n : ℕ) (x : X) → Some x ≡ slice_get xs n → (n < length xs) × (x ≡ get_or xs n x)
got [] n x e = absurd cc
got (y ∷ ys) zero x e = let same : x ≡ y = cc in (omega arith, same)
got (y ∷ ys) (suc n) x e = let rest = got ys n x e in (omega (arith, rest.0), rest.1)

-- one name more
pub name_turn : (keys : List (Bor (List ℕ))) (n m : ℕ) (key : Bor (List ℕ)) (items after : List (List ℕ)) (made : List ℕ)
    → Some key ≡ slice_get keys n → m ≡ n + 1 → items ≡ take n (map seen keys) → after ≡ items ++ made ∷ [] → made ≡ key.now
    → (m ≤ length keys) × (after ≡ take m (map seen keys))
name_turn keys n m key items after made e m-is items-is after-is made-is =
    let at = got keys n key e in
    let inside : n < length (map seen keys) = rw length-map at.0 in
    let named : get_or (map seen keys) n (seen key) ≡ seen key = get_or-map seen keys n key (seen key) at.0 ∙ ap seen (sym at.1) in
    let more : take (n + 1) (map seen keys) ≡ take n (map seen keys) ++ seen key ∷ []
    = take_more (map seen keys) n (seen key) inside ∙ ap (λ (k : List ℕ). take n (map seen keys) ++ k ∷ []) named in
    (omega (arith, at.0, m-is), after-is ∙ ap (λ (l : List (List ℕ)). l ++ made ∷ []) items-is ∙ ap (λ (x : List ℕ). take n (map seen keys) ++ x ∷ []) made-is ∙ sym more ∙ ap (λ (k : ℕ). take k (map seen keys)) (sym m-is))
