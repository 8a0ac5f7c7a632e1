-- The parameters of a macro, read from left to right.
use std.Path.{fun_ext}
use Rattle.std.proofs.Common.{◌≡◌, ℕ, ◌+◌, ◌&&◌, ◌||◌, not, Bool, true, false, List, [], ◌∷◌, length, Option, Some, None, is_some, is_none, inl, inr, refl, sym, ap, ◌∙◌, bytes_eq, if◌then◌else◌, arith, zero-add, add-zero}
use Rattle.std.specs.List.{list_any, position_from}
use Rattle.std.specs.Option.{option_map, option_or}
use Rattle.std.proofs.lemmas.Bool.{cases_Bool}
use Rattle.asm_lex.specs.declared.token.Token.{Token}
use Rattle.asm_directive.specs.Names.{Names, nothing, with_name}
use Rattle.asm_directive.specs.Tokens.{is_word, is_sign, closing, comma}
use Rattle.asm_directive.specs.Directives.{Head, Words, with_word, words_in, are_distinct, head_by}
use Rattle.asm_directive.proofs.NameLemmas.{put_first, or_nothing}

-- next comes a word, or a comma or the closing bracket; so many names have places
unfoldable pub head_from : Bool → ℕ → Names ℕ → List Token → Option Head
head_from wants_name count place [] = None
head_from true count place (token ∷ tokens) =
    if is_word token && is_none (place token.text)
    then head_from false (count + 1) (with_name place token.text (Some count)) tokens
    else None
head_from false count place (token ∷ tokens) =
    if is_sign closing token
    then Some (record { parameters = record { count = count; place = place }; body = tokens })
    else (if is_sign comma token then head_from true count place tokens else None)

-- no name has a place, and no two are the same
abbrev are_new : Names ℕ → List (List ℕ) → Bool
are_new place names = not (list_any (λ name. is_some (place name)) names) && are_distinct names

-- the places that there are, and behind them those of more names
abbrev places_behind : ℕ → Names ℕ → List (List ℕ) → Names ℕ
places_behind count place names name = option_or (place name) (position_from (λ other. bytes_eq other name) count names)

abbrev made : ℕ → Names ℕ → List Token → Option Head
made count place rest = Some (record { parameters = record { count = count; place = place }; body = rest })

abbrev behind : ℕ → Names ℕ → Option Words → Option Head
behind count place None = None
behind count place (Some words) =
    if are_new place words.names then made (count + length words.names) (places_behind count place words.names) words.rest else None

-- with a name more, that of a word

either_same : (name : List ℕ) (count : ℕ) (place : Names ℕ) (other : List ℕ)
    → is_some (with_name place name (Some count) other) ≡ (bytes_eq name other || is_some (place other))
unfolding with_name
either_same name count place other =
    elim (cases_Bool (bytes_eq name other)) [
      | inl is ↦ rw is refl
      | inr apart ↦ rw apart refl
    ]

any_either : (name : List ℕ) (count : ℕ) (place : Names ℕ) (names : List (List ℕ))
    → list_any (λ other. is_some (with_name place name (Some count) other)) names
    ≡ (list_any (λ other. bytes_eq name other) names || list_any (λ other. is_some (place other)) names)
any_either name count place [] = refl
any_either name count place (other ∷ names) =
    rw (either_same name count place other, any_either name count place names)
    (swapped (bytes_eq name other) (is_some (place other)) (list_any (λ one. bytes_eq name one) names) (list_any (λ one. is_some (place one)) names))
  where
    swapped : (a b c d : Bool) → ((a || b) || (c || d)) ≡ ((a || c) || (b || d))
    swapped true b c d = refl
    swapped false true true d = refl
    swapped false true false d = refl
    swapped false false true d = refl
    swapped false false false d = refl

grouped : (there a b c : Bool) → (not (there || a) && (not b && c)) ≡ (if not there then not (b || a) && c else false)
grouped true a b c = refl
grouped false true true c = refl
grouped false true false c = refl
grouped false false true c = refl
grouped false false false c = refl

new_with : (count : ℕ) (place : Names ℕ) (name : List ℕ) (names : List (List ℕ))
    → are_new place (name ∷ names) ≡ (if is_none (place name) then are_new (with_name place name (Some count)) names else false)
new_with count place name names =
    rw (any_either name count place names)
    (grouped (is_some (place name)) (list_any (λ other. is_some (place other)) names) (list_any (λ other. bytes_eq name other) names) (are_distinct names))

places_with : (count : ℕ) (place : Names ℕ) (name : List ℕ) (names : List (List ℕ)) → is_none (place name) ≡ true
    → places_behind (count + 1) (with_name place name (Some count)) names ≡ places_behind count place (name ∷ names)
places_with count place name names new =
    fun_ext (λ other. put_first place name count (λ one. position_from (λ two. bytes_eq two one) (count + 1) names) other new)

if_new : (count : ℕ) (place : Names ℕ) (name : List ℕ) (words : Words) → is_none (place name) ≡ true
    → behind count place (Some (with_word name words)) ≡ behind (count + 1) (with_name place name (Some count)) (Some words)
if_new count place name words new =
    let more : count + length (name ∷ words.names) ≡ (count + 1) + length words.names = omega arith in
    rw (new_with count place name words.names, new, more, ← places_with count place name words.names new) refl

unless_new : (count : ℕ) (place : Names ℕ) (name : List ℕ) (words : Words) → is_none (place name) ≡ false
    → behind count place (Some (with_word name words)) ≡ None
unless_new count place name words there = rw (new_with count place name words.names, there) refl

with_one : (count : ℕ) (place : Names ℕ) (name : List ℕ) (words : Option Words)
    → behind count place (option_map (with_word name) words)
    ≡ (if is_none (place name) then behind (count + 1) (with_name place name (Some count)) words else None)
with_one count place name words =
    elim (cases_Bool (is_none (place name))) [
      | inl new ↦ rw new (with_new words new)
      | inr there ↦ rw there (with_old words there)
    ]
  where
    with_new : (words : Option Words) → is_none (place name) ≡ true
        → behind count place (option_map (with_word name) words) ≡ behind (count + 1) (with_name place name (Some count)) words
    with_new None new = refl
    with_new (Some words) new = if_new count place name words new

    with_old : (words : Option Words) → is_none (place name) ≡ false → behind count place (option_map (with_word name) words) ≡ None
    with_old None there = refl
    with_old (Some words) there = unless_new count place name words there

-- with no name more
with_none : (count : ℕ) (place : Names ℕ) (rest : List Token)
    → behind count place (Some (record { names = []; rest = rest })) ≡ made count place rest
with_none count place rest =
    let same : places_behind count place [] ≡ place = fun_ext (λ name. or_nothing (place name)) in
    rw (same, add-zero count) refl

either_way : {A : Type 0} (test : Bool) (value : A) → (if test then value else value) ≡ value
either_way true value = refl
either_way false value = refl

pub head_words : (count : ℕ) (place : Names ℕ) (tokens : List Token) → head_from true count place tokens ≡ behind count place (words_in tokens)
unfolding head_from words_in
head_words count place [] = refl
head_words count place (word ∷ []) =
    elim (cases_Bool (is_word word && is_none (place word.text))) [
      | inl is ↦ rw is refl
      | inr other ↦ rw other refl
    ]
head_words count place (word ∷ next ∷ tokens) =
    elim (cases_Bool (is_word word)) [
      | inr other ↦ rw other refl
      | inl is ↦ elim (cases_Bool (is_sign closing next)) [
        | inl closes ↦ rw (is, closes)
            (sym (with_one count place word.text (Some (record { names = []; rest = tokens }))
            ∙ ap (λ (head : Option Head). if is_none (place word.text) then head else None)
            (with_none (count + 1) (with_name place word.text (Some count)) tokens)))
        | inr goes ↦ elim (cases_Bool (is_sign comma next)) [
          | inl more ↦ rw (is, goes, more)
              (ap (λ (head : Option Head). if is_none (place word.text) then head else None)
              (head_words (count + 1) (with_name place word.text (Some count)) tokens)
              ∙ sym (with_one count place word.text (words_in tokens)))
          | inr odd ↦ rw (is, goes, odd) (either_way (is_none (place word.text)) None)
        ]
      ]
    ]

never : (names : List (List ℕ)) → list_any (λ name. false) names ≡ false
never [] = refl
never (name ∷ names) = never names

from_nothing : (words : Option Words) → behind 0 nothing words ≡ head_by words
from_nothing None = refl
from_nothing (Some words) =
    let fresh : are_new nothing words.names ≡ are_distinct words.names
    = ap (λ (any : Bool). not any && are_distinct words.names) (never words.names) in
    rw (fresh, zero-add (length words.names)) refl

-- from the front
pub head_is : (tokens : List Token) → head_from true 0 nothing tokens ≡ head_by (words_in tokens)
head_is tokens = head_words 0 nothing tokens ∙ from_nothing (words_in tokens)
