-- A loop over a slice, as a definition by recursion over the list goes.
use Rattle.std.proofs.Common.{◌≡◌, ℕ, ◌+◌, ◌<◌, ◌≤◌, List, [], ◌∷◌, ◌++◌, length, get_or, drop, refl, sym, ap, ◌∙◌, append_assoc, Result, Ok, Err}
use Rattle.std.proofs.lemmas.List.{at_drop_more, at_drop_all, append-nil}
use Rattle.asm_parse.specs.declared.parse_no.ParseNo.{ParseNo}
use Rattle.asm_parse.specs.Refusals.{◌>>=◌, traversed}

module _ {S X Y : Type 0} (left : S → List X → Y) (xs : List X) (i : ℕ) (whole : Y) where
  pub goes_on : (state after : S) (x : X) → left state (drop i xs) ≡ whole → i < length xs → x ≡ get_or xs i x
      → ((rest : List X) → left state (x ∷ rest) ≡ left after rest) → left after (drop (i + 1) xs) ≡ whole
  goes_on state after x so_far within item turn =
      sym (turn (drop (i + 1) xs)) ∙ ap (λ (y : X). left state (y ∷ drop (i + 1) xs)) item ∙ sym (at_drop_more (left state) xs i x within) ∙ so_far

  pub is_done : (state : S) → left state (drop i xs) ≡ whole → length xs ≤ i → left state [] ≡ whole
  is_done state so_far past = sym (at_drop_all (left state) xs i past) ∙ so_far

  pub stops : (state : S) (x : X) → left state (drop i xs) ≡ whole → i < length xs → x ≡ get_or xs i x
      → (result : Y) → ((rest : List X) → left state (x ∷ rest) ≡ result) → whole ≡ result
  stops state x so_far within item result turn =
      sym so_far ∙ at_drop_more (left state) xs i x within ∙ ap (λ (y : X). left state (y ∷ drop (i + 1) xs)) (sym item) ∙ turn (drop (i + 1) xs)

-- the answers so far, and those of a rule over the rest
abbrev pub with_front : {A B : Type 0} → (A → Result B ParseNo) → List B → List A → Result (List B) ParseNo
with_front rule front rest = traversed rule rest >>= λ values. Ok (front ++ values)

regrouped : {B : Type 0} (front : List B) (value : B) (others : Result (List B) ParseNo)
    → (others >>= λ values. Ok (value ∷ values)) >>= (λ values. Ok (front ++ values)) ≡ (others >>= λ values. Ok ((front ++ value ∷ []) ++ values))
regrouped front value (Ok values) = ap Ok (sym (append_assoc front (value ∷ []) values))
regrouped front value (Err refused) = refl

pub turn : {A B : Type 0} (rule : A → Result B ParseNo) (front after : List B) (x : A) (value : B) → rule x ≡ Ok value → after ≡ front ++ value ∷ []
    → (rest : List A) → with_front rule front (x ∷ rest) ≡ with_front rule after rest
unfolding traversed
turn rule front after x value said after-is rest = rw (said, after-is) (regrouped front value (traversed rule rest))

pub refused_turn : {A B : Type 0} (rule : A → Result B ParseNo) (front : List B) (x : A) (refused : ParseNo) → rule x ≡ Err refused
    → (rest : List A) → with_front rule front (x ∷ rest) ≡ Err refused
unfolding traversed
refused_turn rule front x refused said rest = rw said refl

pub begins : {A B : Type 0} (rule : A → Result B ParseNo) (xs : List A) → with_front rule [] xs ≡ traversed rule xs
begins {A = A} {B = B} rule xs = plain (traversed rule xs) where
  plain : (answers : Result (List B) ParseNo) → (answers >>= λ values. Ok ([] ++ values)) ≡ answers
  plain (Ok values) = refl
  plain (Err refused) = refl

pub ends : {A B : Type 0} (rule : A → Result B ParseNo) (front : List B) → with_front rule front [] ≡ Ok front
unfolding traversed
ends rule front = ap Ok (append-nil front)
