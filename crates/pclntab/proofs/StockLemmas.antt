-- Tables that are kept once.
use Rattle.std.proofs.Common.{◌≡◌, ℕ, ◌+◌, ◌^◌, ◌<◌, ◌≤◌, Bool, true, false, ◌||◌, List, [], ◌∷◌, ◌++◌, length, map, Some, None, inl, inr, refl, sym, ◌∙◌, ap, arith, append-nil, length-append}
use Rattle.std.specs.List.{flat_map, list_any}
use Rattle.std.specs.Str.{bytes_eq}
use Rattle.std.specs.Map.{lookup}
use Rattle.std.specs.Cmp.Lexicographic.{same_text}
use Rattle.std.proofs.lemmas.Cmp.{nat_list_eq_equiv}
use Rattle.std.proofs.lemmas.Bool.{cases_Bool}
use Rattle.std.proofs.lemmas.Grind.{flat_map-append}
use Rattle.std.proofs.lemmas.List.Folds.{list_any-append}
use Rattle.indexmap.specs.IndexMap.{insert_entry}
use Rattle.byte_layout.specs.Stands.{Stands}
use Rattle.byte_layout.proofs.StandsLemmas.{stands_all, stands_front, stands_back, stands_moved, stands_same, stands_in}
use Rattle.pclntab.specs.Written.{has_table, kept, all_kept, stored, length_before, offset_of}
use Rattle.pclntab.specs.Stock.{offsets_from, keys_in}

abbrev itself : List ℕ → List ℕ
itself table = table

same_bytes : (xs ys : List ℕ) → bytes_eq xs ys ≡ true → xs ≡ ys
same_bytes xs ys is = same_text xs ys (sym is)

eq_itself : (xs : List ℕ) → bytes_eq xs xs ≡ true
eq_itself xs = nat_list_eq_equiv.refl xs

-- a table that is kept is there, and what was there stays
has_push : (tables : List (List ℕ)) (table : List ℕ) → has_table (tables ++ table ∷ []) table ≡ true
has_push [] table = rw (eq_itself table) refl
has_push (next ∷ others) table = rw (has_push others table) (elim (bytes_eq table next) as (λ b. (b || true) ≡ true) [ true ↦ refl | false ↦ refl ])

has_more : (tables : List (List ℕ)) (table next : List ℕ) → has_table tables table ≡ true → has_table (tables ++ next ∷ []) table ≡ true
has_more tables table next there =
    list_any-append (bytes_eq table) tables (next ∷ []) ∙ ap (λ b. b || list_any (bytes_eq table) (next ∷ [])) there

pub kept_there : (tables : List (List ℕ)) (table : List ℕ) → has_table tables table ≡ true → kept tables table ≡ tables
unfolding kept
kept_there tables table there = rw there refl

pub kept_new : (tables : List (List ℕ)) (table : List ℕ) → has_table tables table ≡ false → kept tables table ≡ tables ++ table ∷ []
unfolding kept
kept_new tables table absent = rw absent refl

pub has_kept : (tables : List (List ℕ)) (table : List ℕ) → has_table (kept tables table) table ≡ true
has_kept tables table =
    elim (cases_Bool (has_table tables table)) [
      | inl there ↦ rw (kept_there tables table there) there
      | inr absent ↦ rw (kept_new tables table absent) (has_push tables table)
    ]

still_kept : (tables : List (List ℕ)) (table next : List ℕ) → has_table tables table ≡ true → has_table (kept tables next) table ≡ true
still_kept tables table next there =
    elim (cases_Bool (has_table tables next)) [
      | inl has ↦ rw (kept_there tables next has) there
      | inr absent ↦ rw (kept_new tables next absent) (has_more tables table next there)
    ]

pub still_all_kept : (tables others : List (List ℕ)) (table : List ℕ) → has_table tables table ≡ true → has_table (all_kept tables others) table ≡ true
unfolding all_kept
still_all_kept tables [] table there = there
still_all_kept tables (next ∷ others) table there = still_all_kept (kept tables next) others table (still_kept tables table next there)

pub all_kept-append : (tables one other : List (List ℕ)) → all_kept tables (one ++ other) ≡ all_kept (all_kept tables one) other
unfolding all_kept
all_kept-append tables [] other = refl
all_kept-append tables (next ∷ one) other = all_kept-append (kept tables next) one other

-- the place of a table that is there stays
before_more : (tables : List (List ℕ)) (table next : List ℕ) → has_table tables table ≡ true
    → length_before (tables ++ next ∷ []) table ≡ length_before tables table
unfolding length_before
before_more [] table next there = cc
before_more (first ∷ others) table next there =
    elim (cases_Bool (bytes_eq table first)) [
      | inl here ↦ rw here refl
      | inr later ↦
          let rest : has_table others table ≡ true = rw later at there in
          rw later (ap (λ n. length first + n) (before_more others table next rest))
    ]

before_kept : (tables : List (List ℕ)) (table next : List ℕ) → has_table tables table ≡ true
    → length_before (kept tables next) table ≡ length_before tables table
before_kept tables table next there =
    elim (cases_Bool (has_table tables next)) [
      | inl has ↦ rw (kept_there tables next has) refl
      | inr absent ↦ rw (kept_new tables next absent) (before_more tables table next there)
    ]

pub before_all_kept : (tables others : List (List ℕ)) (table : List ℕ) → has_table tables table ≡ true
    → length_before (all_kept tables others) table ≡ length_before tables table
unfolding all_kept
before_all_kept tables [] table there = refl
before_all_kept tables (next ∷ others) table there =
    before_all_kept (kept tables next) others table (still_kept tables table next there) ∙ before_kept tables table next there

-- the place of one that wasn't there lies behind the others
before_new : (tables : List (List ℕ)) (table : List ℕ) → has_table tables table ≡ false
    → length_before (tables ++ table ∷ []) table ≡ length (flat_map itself tables)
unfolding length_before
before_new [] table absent = rw (eq_itself table) refl
before_new (first ∷ others) table absent =
    elim (cases_Bool (bytes_eq table first)) [
      | inl here ↦ let wrong : true ≡ false = rw here at absent in cc
      | inr later ↦
          let rest : has_table others table ≡ false = rw later at absent in
          rw later (ap (λ n. length first + n) (before_new others table rest) ∙ sym (length-append first (flat_map itself others)))
    ]

pub stored_push : (tables : List (List ℕ)) (table : List ℕ) → stored (tables ++ table ∷ []) ≡ stored tables ++ table
unfolding stored
stored_push tables table =
    ap (λ bytes. 0 ∷ bytes) (flat_map-append itself tables (table ∷ []) ∙ ap (λ rest. flat_map itself tables ++ rest) (append-nil table))

pub offset_new : (tables : List (List ℕ)) (table : List ℕ) → has_table tables table ≡ false
    → length (stored tables) ≡ offset_of (tables ++ table ∷ []) table
unfolding stored
offset_new tables table absent = rw (before_new tables table absent) (omega arith)

-- what is kept grows
kept_longer : (tables : List (List ℕ)) (table : List ℕ) → length (stored tables) ≤ length (stored (kept tables table))
kept_longer tables table =
    elim (cases_Bool (has_table tables table)) [
      | inl there ↦ rw (kept_there tables table there) (omega arith)
      | inr absent ↦ rw (kept_new tables table absent, stored_push tables table) (omega (arith, length-append (stored tables) table))
    ]

pub all_kept_longer : (tables others : List (List ℕ)) → length (stored tables) ≤ length (stored (all_kept tables others))
unfolding all_kept
all_kept_longer tables [] = omega arith
all_kept_longer tables (next ∷ others) =
    let one : length (stored tables) ≤ length (stored (kept tables next)) = kept_longer tables next in
    let rest : length (stored (kept tables next)) ≤ length (stored (all_kept (kept tables next) others)) = all_kept_longer (kept tables next) others in
    omega arith

pub kept_short : (tables : List (List ℕ)) (table : List ℕ) → length (stored (kept tables table)) < 2 ^ 32 → length (stored tables) < 2 ^ 32
kept_short tables table short =
    let longer : length (stored tables) ≤ length (stored (kept tables table)) = kept_longer tables table in
    omega arith

-- a table stands at its offset
flat_stands : (tables : List (List ℕ)) (table : List ℕ) → has_table tables table ≡ true
    → Stands (flat_map itself tables) (length_before tables table) table
unfolding length_before
flat_stands [] table there = cc
flat_stands (first ∷ others) table there =
    elim (cases_Bool (bytes_eq table first)) [
      | inl here ↦
          rw here
          (stands_same (first ++ flat_map itself others) 0 first table (sym (same_bytes table first here))
          (stands_front (first ++ flat_map itself others) 0 first (flat_map itself others) (stands_all (first ++ flat_map itself others))))
      | inr later ↦
          let rest : has_table others table ≡ true = rw later at there in
          let behind : Stands (first ++ flat_map itself others) (0 + length first) (flat_map itself others)
          = stands_back (first ++ flat_map itself others) 0 first (flat_map itself others) (stands_all (first ++ flat_map itself others)) in
          let inner : Stands (first ++ flat_map itself others) (0 + length first + length_before others table) table
          = stands_in (first ++ flat_map itself others) (flat_map itself others) table (0 + length first) (length_before others table) behind (flat_stands others table rest) in
          rw later
          (stands_moved (first ++ flat_map itself others) (0 + length first + length_before others table) (length first + length_before others table) table (omega arith) inner)
    ]

pub stored_stands : (tables : List (List ℕ)) (table : List ℕ) → has_table tables table ≡ true
    → Stands (stored tables) (offset_of tables table) table
unfolding stored
stored_stands tables table there =
    let behind : Stands (0 ∷ flat_map itself tables) (0 + 1) (flat_map itself tables)
    = stands_back (0 ∷ flat_map itself tables) 0 (0 ∷ []) (flat_map itself tables) (stands_all (0 ∷ flat_map itself tables)) in
    stands_moved (0 ∷ flat_map itself tables) (0 + 1 + length_before tables table) (1 + length_before tables table) table (omega arith)
    (stands_in (0 ∷ flat_map itself tables) (flat_map itself tables) table (0 + 1) (length_before tables table) behind (flat_stands tables table there))

-- What a map of tables to their offsets answers.
module _ {K : Type 0} (items : K → List ℕ) where
  abbrev same_key : List ℕ → K → Bool
  same_key table key = bytes_eq table (items key)

  pub lookup_some : (table : List ℕ) (entries : List (K × ℕ)) (at offset : ℕ)
      → map (λ entry. entry.1) entries ≡ offsets_from at (keys_in items entries)
      → lookup (same_key table) entries ≡ Some offset
      → (has_table (keys_in items entries) table ≡ true) × (offset ≡ at + length_before (keys_in items entries) table)
  unfolding offsets_from length_before
  lookup_some table [] at offset are is = cc
  lookup_some table (entry ∷ entries) at offset are is =
      elim (cases_Bool (bytes_eq table (items entry.0))) [
        | inl here ↦
            let found : Some entry.1 ≡ Some offset = rw here at is in
            let first : entry.1 ≡ at = cc in
            rw here (refl, omega (arith, (let same : entry.1 ≡ offset = cc in same)))
        | inr later ↦
            let rest : lookup (same_key table) entries ≡ Some offset = rw later at is in
            let others : map (λ entry. entry.1) entries ≡ offsets_from (at + length (items entry.0)) (keys_in items entries) = cc in
            let found = lookup_some table entries (at + length (items entry.0)) offset others rest in
            let place : offset ≡ at + length (items entry.0) + length_before (keys_in items entries) table = found.1 in
            rw later (found.0, omega arith)
      ]

  pub lookup_none : (table : List ℕ) (entries : List (K × ℕ))
      → lookup (same_key table) entries ≡ None → has_table (keys_in items entries) table ≡ false
  lookup_none table [] is = refl
  lookup_none table (entry ∷ entries) is =
      elim (cases_Bool (bytes_eq table (items entry.0))) [
        | inl here ↦ let wrong : Some entry.1 ≡ None = rw here at is in cc
        | inr later ↦
            let rest : lookup (same_key table) entries ≡ None = rw later at is in
            rw later (lookup_none table entries rest)
      ]

  -- a new key goes last
  pub keys_insert : (key : K) (offset : ℕ) (entries : List (K × ℕ)) → has_table (keys_in items entries) (items key) ≡ false
      → insert_entry (λ a b. bytes_eq (items a) (items b)) entries key offset ≡ entries ++ (key, offset) ∷ []
  keys_insert key offset [] absent = refl
  keys_insert key offset (entry ∷ entries) absent =
      elim (cases_Bool (bytes_eq (items key) (items entry.0))) [
        | inl here ↦ let wrong : true ≡ false = rw here at absent in cc
        | inr later ↦
            let rest : has_table (keys_in items entries) (items key) ≡ false = rw later at absent in
            rw later (ap (λ es. entry ∷ es) (keys_insert key offset entries rest))
      ]

  pub keys_push : (key : K) (offset : ℕ) (entries : List (K × ℕ))
      → keys_in items (entries ++ (key, offset) ∷ []) ≡ keys_in items entries ++ items key ∷ []
  keys_push key offset [] = refl
  keys_push key offset (entry ∷ entries) = ap (λ ts. items entry.0 ∷ ts) (keys_push key offset entries)

  pub offsets_push : (key : K) (at offset : ℕ) (entries : List (K × ℕ))
      → map (λ entry. entry.1) entries ≡ offsets_from at (keys_in items entries)
      → offset ≡ at + length (flat_map itself (keys_in items entries))
      → map (λ entry. entry.1) (entries ++ (key, offset) ∷ []) ≡ offsets_from at (keys_in items (entries ++ (key, offset) ∷ []))
  unfolding offsets_from
  offsets_push key at offset [] are is = let same : offset ≡ at = omega arith in ap (λ n. n ∷ []) same
  offsets_push key at offset (entry ∷ entries) are is =
      let first : entry.1 ≡ at = cc in
      let others : map (λ entry. entry.1) entries ≡ offsets_from (at + length (items entry.0)) (keys_in items entries) = cc in
      let behind : offset ≡ at + length (items entry.0) + length (flat_map itself (keys_in items entries))
      = omega (arith, length-append (items entry.0) (flat_map itself (keys_in items entries))) in
      rw (first, offsets_push key (at + length (items entry.0)) offset entries others behind) refl

-- The first of three tables that are kept one after the other.
pub three_short : (tables : List (List ℕ)) (one two three : List ℕ)
    → length (stored (kept (kept (kept tables one) two) three)) < 2 ^ 32 → length (stored (kept tables one)) < 2 ^ 32
three_short tables one two three short = kept_short (kept tables one) two (kept_short (kept (kept tables one) two) three short)

pub offset_one : (tables : List (List ℕ)) (one two three : List ℕ)
    → offset_of (kept tables one) one ≡ offset_of (kept (kept (kept tables one) two) three) one
offset_one tables one two three =
    ap (λ n. 1 + n)
    (sym (before_kept (kept (kept tables one) two) one three (still_kept (kept tables one) one two (has_kept tables one))
    ∙ before_kept (kept tables one) one two (has_kept tables one)))

pub offset_two : (tables : List (List ℕ)) (two three : List ℕ)
    → offset_of (kept tables two) two ≡ offset_of (kept (kept tables two) three) two
offset_two tables two three = ap (λ n. 1 + n) (sym (before_kept (kept tables two) two three (has_kept tables two)))
