-- The order of `DATA` statements, by the offsets that are kept for each symbol and by facts about the statements.
use Rattle.std.proofs.Common.{◌≡◌, ℕ, ◌+◌, ◌<◌, ◌≤◌, Bool, true, false, cond, ◌||◌, not, nat_lt, nat_eq, List, [], ◌∷◌, ◌++◌, length, Option, Some, None, refl, sym, ap, ◌∙◌, subst, arith, inl, inr}
use Rattle.std.specs.Prelude.{◌&&◌, nat_le, bytes_eq}
use Rattle.std.specs.List.{list_any, filter_map}
use Rattle.std.specs.Map.{lookup}
use Rattle.std.proofs.Math.Bool.{beq, or-false}
use Rattle.std.proofs.lemmas.Bool.{cases_lt}
use Rattle.std.proofs.lemmas.Bool.Decides.{nat_tests}
use Rattle.std.proofs.lemmas.List.{length_push}
use Rattle.std.proofs.lemmas.List.Folds.{list_any-append, position_or_len_push}
use Rattle.std.proofs.lemmas.List.Sums.{prefix_len-le-length}
use Rattle.std.proofs.lemmas.List.Elements.{filter_map-append}
use Rattle.std.proofs.lemmas.Slice.Eq.{bytes_eq-Decides}
use Rattle.indexmap.specs.IndexMap.{insert_entry}
use Rattle.asm_lex.specs.declared.token.Token.{Token}
use Rattle.asm_grammar.specs.declared.directive.DataLine.{DataLine}
use Rattle.asm_parse.specs.Numbering.{Key, is_same, has_name, with_name, place_of}
use Rattle.asm_parse.specs.Progress.{key_of, is_above_last}
use Rattle.asm_parse.specs.First.{data_at, reaches, is_reached}
use Rattle.asm_parse.proofs.NumberingLemmas.{there_within}
use Rattle.asm_parse.proofs.SymbolLemmas.{is_itself, with_has}

beq_equal : (a b : Bool) → beq a b ≡ true → a ≡ b
beq_equal true true is = refl
beq_equal false false is = refl
beq_equal true false is = absurd cc
beq_equal false true is = absurd cc

and_both : (a b : Bool) → (a && b) ≡ true → (a ≡ true) × (b ≡ true)
and_both true b is = (refl, is)
and_both false b is = absurd cc

pub equal_keys : (a b : Key) → is_same a b ≡ true → a ≡ b
equal_keys a b is =
    let parts = and_both (bytes_eq a.0 b.0) (beq a.1 b.1) is in
    let name = (bytes_eq-Decides a.0 b.0).0 parts.0 in
    let fixed = beq_equal a.1 b.1 parts.1 in
    ap (λ (n : List ℕ). let key : Key = (n, a.1) in key) name ∙ ap (λ (f : Bool). let key : Key = (b.0, f) in key) fixed

-- two keys with one place are one key
same_place : (names : List Key) (a b : Key) → place_of names a ≡ place_of names b → place_of names a < length names → a ≡ b
same_place [] a b same within = absurd (omega arith)
same_place (name ∷ names) a b same within = by (same_place names a b) (is_same a name) (is_same b name) refl refl same within where
  by : (place_of names a ≡ place_of names b → place_of names a < length names → a ≡ b)
      → (one other : Bool) → is_same a name ≡ one → is_same b name ≡ other
      → place_of (name ∷ names) a ≡ place_of (name ∷ names) b → place_of (name ∷ names) a < length (name ∷ names) → a ≡ b
  by rest true true one other same within = equal_keys a name one ∙ sym (equal_keys b name other)
  by rest true false one other same within = let wrong = rw (one, other) at same in absurd (omega (arith, wrong))
  by rest false true one other same within = let wrong = rw (one, other) at same in absurd (omega (arith, wrong))
  by rest false false one other same within =
      let places = rw (one, other) at same in let inside = rw one at within in rest (omega (arith, places)) (omega (arith, inside))

-- the offsets that are kept are those of the statements before
pub record IsStored (symbols : List Key) (offsets : List (ℕ × ℕ)) (front : List (List Token)) : Type 0 where
  pub below : (n : ℕ) → length symbols ≤ n → lookup (nat_eq n) offsets ≡ None
  pub at : (key : Key) (off : ℕ) → is_reached front key off ≡ not (is_above_last (lookup (nat_eq (place_of symbols key)) offsets) off)

module _ (symbols : List Key) (offsets : List (ℕ × ℕ)) (front : List (List Token)) (other : Key) (stored : IsStored symbols offsets front) where
  place_further : (key : Key) → place_of (symbols ++ other ∷ []) key ≡ cond (nat_eq (place_of symbols key) (length symbols)) (length symbols + cond (is_same key other) 0 1) (place_of symbols key)
  place_further key = position_or_len_push (is_same key) symbols other

  found_alike : (key : Key) → lookup (nat_eq (place_of symbols key)) offsets ≡ lookup (nat_eq (place_of (symbols ++ other ∷ []) key)) offsets
  found_alike key =
      let old = place_of symbols key in
      elim (cases_lt old (length symbols)) [
        | inl less ↦ (
            let differ : nat_eq old (length symbols) ≡ false = grind (arith, nat_tests) in
            let same : place_of (symbols ++ other ∷ []) key ≡ old = place_further key ∙ ap (λ (b : Bool). cond b (length symbols + cond (is_same key other) 0 1) old) differ in
            ap (λ (n : ℕ). lookup (nat_eq n) offsets) (sym same))
        | inr most ↦ (
            let equal : nat_eq old (length symbols) ≡ true = (let up = prefix_len-le-length (λ (k : Key). not (is_same key k)) symbols in grind (arith, nat_tests)) in
            let moved : place_of (symbols ++ other ∷ []) key ≡ length symbols + cond (is_same key other) 0 1 = place_further key ∙ ap (λ (b : Bool). cond b (length symbols + cond (is_same key other) 0 1) old) equal in
            stored.below old most ∙ sym (stored.below (place_of (symbols ++ other ∷ []) key) (omega (arith, moved))))
      ]

  stored_by : (there : Bool) → IsStored (cond there symbols (symbols ++ other ∷ [])) offsets front
  stored_by true = stored
  stored_by false = record {
    below = λ n past. stored.below n (omega (arith, past, length_push symbols other));
    at = λ key off. stored.at key off ∙ ap (λ (last : Option ℕ). not (is_above_last last off)) (found_alike key);
  }

  -- one more symbol
  pub stored_with : IsStored (with_name symbols other) offsets front
  stored_with = stored_by (has_name symbols other)

  place_by : (there : Bool) → place_of (cond there symbols (symbols ++ other ∷ [])) other ≡ place_of symbols other
  place_by true = refl
  place_by false =
      let more = place_further other in let own = is_itself other in
      let parts = rw own at more in
      grind (arith, nat_tests)

  pub place_with : place_of (with_name symbols other) other ≡ place_of symbols other
  place_with = place_by (has_name symbols other)

not_all : (n m k : ℕ) → nat_eq n m ≡ true → nat_eq n k ≡ true → nat_eq m k ≡ false → ⊥
not_all n m k one other differ = grind (arith, nat_tests)

found_inserted : (offsets : List (ℕ × ℕ)) (n m value : ℕ) → lookup (nat_eq n) (insert_entry nat_eq offsets m value) ≡ cond (nat_eq n m) (Some value) (lookup (nat_eq n) offsets)
found_inserted [] n m value = refl
found_inserted (entry ∷ offsets) n m value = by (found_inserted offsets n m value) (nat_eq m entry.0) refl where
  again : (a b : Bool) (last : ℕ) (rest : Option ℕ) → cond a (Some value) (cond a (Some last) rest) ≡ cond a (Some value) rest
  again true b last rest = refl
  again false b last rest = refl

  turned : (a b : Bool) (last : ℕ) (rest : Option ℕ) → nat_eq n m ≡ a → nat_eq n entry.0 ≡ b → nat_eq m entry.0 ≡ false
      → cond b (Some last) (cond a (Some value) rest) ≡ cond a (Some value) (cond b (Some last) rest)
  turned false false last rest one other differ = refl
  turned false true last rest one other differ = refl
  turned true false last rest one other differ = refl
  turned true true last rest one other differ = absurd (not_all n m entry.0 one other differ)

  by : lookup (nat_eq n) (insert_entry nat_eq offsets m value) ≡ cond (nat_eq n m) (Some value) (lookup (nat_eq n) offsets)
      → (same : Bool) → nat_eq m entry.0 ≡ same
      → lookup (nat_eq n) (insert_entry nat_eq (entry ∷ offsets) m value) ≡ cond (nat_eq n m) (Some value) (lookup (nat_eq n) (entry ∷ offsets))
  by rest true is =
      let equal : m ≡ entry.0 = grind (arith, nat_tests) in
      rw is (rw (← equal) (sym (again (nat_eq n m) true entry.1 (lookup (nat_eq n) offsets))))
  by rest false is = rw (is, rest) (turned (nat_eq n m) (nat_eq n entry.0) entry.1 (lookup (nat_eq n) offsets) refl refl is)

abbrev reached_by : Option DataLine → Key → ℕ → Bool
reached_by None key off = false
reached_by (Some line) key off = reaches key off line

module _ (front : List (List Token)) (statement : List Token) where
  reached_push : (said : Option DataLine) → data_at statement ≡ said → (key : Key) (off : ℕ) → is_reached (front ++ statement ∷ []) key off ≡ (is_reached front key off || reached_by said key off)
  reached_push None is key off =
      ap (list_any (reaches key off)) (filter_map-append data_at front (statement ∷ [])) ∙ list_any-append (reaches key off) (filter_map data_at front) (filter_map data_at (statement ∷ []))
      ∙ rw is refl
  reached_push (Some line) is key off =
      ap (list_any (reaches key off)) (filter_map-append data_at front (statement ∷ [])) ∙ list_any-append (reaches key off) (filter_map data_at front) (filter_map data_at (statement ∷ []))
      ∙ rw (is, or-false (reaches key off line)) refl

  -- a statement that is no `DATA`
  pub stored_other : (symbols : List Key) (offsets : List (ℕ × ℕ)) → data_at statement ≡ None → IsStored symbols offsets front → IsStored symbols offsets (front ++ statement ∷ [])
  stored_other symbols offsets none stored = record {
    below = stored.below;
    at = λ key off. reached_push None none key off ∙ or-false (is_reached front key off) ∙ stored.at key off;
  }

order : (last : Option ℕ) (new off : ℕ) → not (is_above_last last new) ≡ false → (not (is_above_last last off) || nat_le off new) ≡ not (nat_lt new off)
order None new off above = grind (arith, nat_tests)
order (Some last) new off above = grind (arith, nat_tests)

equal_by : (a b : ℕ) → nat_eq a b ≡ true → a ≡ b
equal_by a b is = grind (arith, nat_tests)

never : (a b : ℕ) → a ≡ b → nat_eq a b ≡ false → ⊥
never a b equal differ = grind (arith, nat_tests)

above_it : (n m high : ℕ) → m < high → high ≤ n → nat_eq n m ≡ false
above_it n m high within past = grind (arith, nat_tests)

-- a `DATA` that stands above those before it
module _ (front : List (List Token)) (statement : List Token) (symbols : List Key) (offsets : List (ℕ × ℕ)) (line : DataLine) (is : data_at statement ≡ Some line)
    (above : is_reached front (key_of line.symbol) line.off ≡ false) (stored : IsStored symbols offsets front) where
  abbrev own : Key
  own = key_of line.symbol

  abbrev names : List Key
  names = with_name symbols own

  abbrev count : ℕ
  count = place_of symbols own

  all : IsStored names offsets front
  all = stored_with symbols offsets front own stored

  place : place_of names own ≡ count
  place = place_with symbols offsets front own stored

  within : count < length names
  within = subst (λ (n : ℕ). n < length names) place (there_within names own (with_has symbols own))

  differs : (key : Key) (same : Bool) → is_same key own ≡ same → nat_eq (place_of names key) count ≡ false → is_same key own ≡ false
  differs key false one differ = one
  differs key true one differ =
      let equal : place_of names key ≡ count = ap (place_of names) (equal_keys key own one) ∙ place in
      absurd (never (place_of names key) count equal differ)

  by : (key : Key) (off : ℕ) (same : Bool) → nat_eq (place_of names key) count ≡ same
      → (is_reached front key off || reaches key off line) ≡ not (is_above_last (cond (nat_eq (place_of names key) count) (Some line.off) (lookup (nat_eq (place_of names key)) offsets)) off)
  by key off true tested =
      let equal : place_of names key ≡ count = equal_by (place_of names key) count tested in
      let one : key ≡ own = same_place names key own (equal ∙ sym place) (subst (λ (n : ℕ). n < length names) (sym equal) within) in
      let last = lookup (nat_eq (place_of names own)) offsets in
      let before : not (is_above_last last line.off) ≡ false = sym (all.at own line.off) ∙ above in
      let here : (is_reached front own off || reaches own off line) ≡ not (nat_lt line.off off)
      = ap (λ (b : Bool). b || reaches own off line) (all.at own off)
      ∙ ap (λ (b : Bool). not (is_above_last last off) || (b && nat_le off line.off)) (is_itself own)
      ∙ order last line.off off before in
      rw tested (subst (λ (k : Key). (is_reached front k off || reaches k off line) ≡ not (nat_lt line.off off)) (sym one) here)
  by key off false tested =
      let other : is_same key own ≡ false = differs key (is_same key own) refl tested in
      rw (tested, other) (or-false (is_reached front key off) ∙ all.at key off)

  below : (n : ℕ) → length names ≤ n → lookup (nat_eq n) (insert_entry nat_eq offsets count line.off) ≡ None
  below n past =
      found_inserted offsets n count line.off
      ∙ ap (λ (b : Bool). cond b (Some line.off) (lookup (nat_eq n) offsets)) (above_it n count (length names) within past) ∙ all.below n past

  pub stored_data : IsStored names (insert_entry nat_eq offsets count line.off) (front ++ statement ∷ [])
  stored_data = record {
    below = below;
    at = λ key off. reached_push front statement (Some line) is key off ∙ by key off (nat_eq (place_of names key) count) refl
        ∙ ap (λ (last : Option ℕ). not (is_above_last last off)) (sym (found_inserted offsets (place_of names key) count line.off));
  }
