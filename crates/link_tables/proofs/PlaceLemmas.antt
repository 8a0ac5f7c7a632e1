-- The places of names that are used.
use Rattle.std.proofs.Common.{◌≡◌, ◌⊎◌, inl, inr, ℕ, zero, suc, ◌+◌, ◌<◌, ◌≤◌, ◌^◌, get_or, arith, true, List, [], ◌∷◌, ◌++◌, length, Option, Some, None, refl, sym, ap, ◌∙◌, length-append, length-set}
use Rattle.std.proofs.Math.ListN.{set}
use Rattle.std.specs.Prelude.{slice_get, bytes_eq, replicate}
use Rattle.std.proofs.lemmas.Cmp.{nat_list_eq_equiv}
use Rattle.std.proofs.lemmas.Bool.{cases_Bool}
use Rattle.std.proofs.lemmas.List.{get_or_default, length-replicate}
use Rattle.link_tables.specs.UsedNames.{has_name, with_name, place_of}
use Rattle.link_tables.specs.Files.{file_name, known_count, AreKnown}

place_has : (names : List (List ℕ)) (name : List ℕ) → place_of names name < length names → has_name names name ≡ true
place_has [] name within = absurd (omega arith)
place_has (next ∷ others) name within =
    elim (cases_Bool (bytes_eq name next)) [
      | inl here ↦ rw here refl
      | inr later ↦
          let more : 1 + place_of others name < length (next ∷ others) = rw later at within in
          rw later (place_has others name (omega arith))
    ]

pub with_there : (names : List (List ℕ)) (name : List ℕ) → place_of names name < length names → names ≡ with_name names name
with_there names name within = rw (place_has names name within) refl

place_push : (names : List (List ℕ)) (name next : List ℕ) → place_of names name < length names
    → place_of (names ++ next ∷ []) name ≡ place_of names name
place_push [] name next within = absurd (omega arith)
place_push (first ∷ others) name next within =
    elim (cases_Bool (bytes_eq name first)) [
      | inl here ↦ rw here refl
      | inr later ↦
          let more : 1 + place_of others name < length (first ∷ others) = rw later at within in
          rw later (ap (λ (n : ℕ). 1 + n) (place_push others name next (omega arith)))
    ]

place_self : (names : List (List ℕ)) (name : List ℕ) → place_of (names ++ name ∷ []) name ≡ place_of names name
place_self [] name = rw (nat_list_eq_equiv.refl name) refl
place_self (first ∷ others) name =
    elim (cases_Bool (bytes_eq name first)) [
      | inl here ↦ rw here refl
      | inr later ↦ rw later (ap (λ (n : ℕ). 1 + n) (place_self others name))
    ]

pub place_with : (names : List (List ℕ)) (name next : List ℕ) → place_of names name < length names
    → place_of (with_name names next) name ≡ place_of names name
place_with names name next within =
    elim (cases_Bool (has_name names next)) [
      | inl there ↦ rw there refl
      | inr absent ↦ rw absent (place_push names name next within)
    ]

pub place_with_self : (names : List (List ℕ)) (name : List ℕ) → place_of (with_name names name) name ≡ place_of names name
place_with_self names name =
    elim (cases_Bool (has_name names name)) [
      | inl there ↦ rw there refl
      | inr absent ↦ rw absent (place_self names name)
    ]

pub with_longer : (names : List (List ℕ)) (name : List ℕ) → (length names ≤ length (with_name names name)) × (length (with_name names name) ≤ length names + 1)
with_longer names name =
    elim (cases_Bool (has_name names name)) [
      | inl there ↦ rw there (omega arith, omega arith)
      | inr absent ↦ rw absent (omega (arith, length-append names (name ∷ [])), omega (arith, length-append names (name ∷ [])))
    ]

-- what stands in a list, and in one with an item set
pub got_at : (known : List (Option ℕ)) (file : ℕ) (d value : Option ℕ) → file < length known → get_or known file d ≡ value
    → slice_get known file ≡ Some value
got_at [] file d value inside is = absurd (omega arith)
got_at (first ∷ others) zero d value inside is = ap Some is
got_at (first ∷ others) (suc file) d value inside is = got_at others file d value (omega arith) is

at_set : (known : List (Option ℕ)) (file : ℕ) (y : Option ℕ) (k : ℕ) (z : Option ℕ) → slice_get (set known file y) k ≡ Some z
    → ((k ≡ file) × (y ≡ z)) ⊎ (slice_get known k ≡ Some z)
at_set [] file y k z is = inr is
at_set (first ∷ others) zero y zero z is = inl (refl, cc)
at_set (first ∷ others) zero y (suc k) z is = inr is
at_set (first ∷ others) (suc file) y zero z is = inr is
at_set (first ∷ others) (suc file) y (suc k) z is =
    elim (at_set others file y k z is) [
      | inl here ↦ inl (ap suc here.0, here.1)
      | inr there ↦ inr there
    ]

one_more : (known : List (Option ℕ)) (file index : ℕ) → file < length known → slice_get known file ≡ Some None
    → known_count (set known file (Some index)) ≡ known_count known + 1
one_more [] file index inside is = absurd (omega arith)
one_more (first ∷ others) zero index inside is = let none : first ≡ None = cc in rw none (omega arith)
one_more (Some first ∷ others) (suc file) index inside is =
    let rest : known_count (set others file (Some index)) ≡ known_count others + 1 = one_more others file index (omega arith) is in
    omega arith
one_more (None ∷ others) (suc file) index inside is = one_more others file index (omega arith) is

count_short : (known : List (Option ℕ)) → known_count known ≤ length known
count_short [] = omega arith
count_short (Some first ∷ others) = let rest : known_count others ≤ length others = count_short others in omega arith
count_short (None ∷ others) = let rest : known_count others ≤ length others = count_short others in omega arith

-- nothing is known at first
no_index : (count file index : ℕ) → slice_get (replicate {A = Option ℕ} count None) file ≡ Some (Some index) → ⊥
no_index zero file index is = cc
no_index (suc count) zero index is = cc
no_index (suc count) (suc file) index is = no_index count file index is

pub none_known : (build : List (List ℕ)) (used : List (List ℕ)) (known : List (Option ℕ)) → length build < 2 ^ 32
    → used ≡ [] → known ≡ replicate (length build) None → AreKnown build used known
none_known build used known short empty is = record {
  count = ap length is ∙ length-replicate (length build) None;
  short = short;
  few = rw empty (omega arith);
  within = λ file index there. absurd (no_index (length build) file index (rw is at there));
  place = λ file index there. absurd (no_index (length build) file index (rw is at there));
}

-- a file whose index is kept
pub record IsThere (build used : List (List ℕ)) (file index : ℕ) : Type 0 where
  pub same : used ≡ with_name used (file_name build file)
  pub place : index ≡ place_of used (file_name build file)
  pub within : index < length used

pub known_there : (build used : List (List ℕ)) (known : List (Option ℕ)) (file index : ℕ) (item : Option ℕ) → AreKnown build used known
    → file < length build → item ≡ get_or known file item → item ≡ Some index → IsThere build used file index
known_there build used known file index item are inside stands is =
    let count : length known ≡ length build = are.count in
    let there : slice_get known file ≡ Some (Some index) = got_at known file item (Some index) (omega arith) (sym stands ∙ is) in
    let within : index < length used = are.within file index there in
    let place : index ≡ place_of used (file_name build file) = are.place file index there in
    record { same = with_there used (file_name build file) (omega arith); place = place; within = within }

none_at : (item : Option ℕ) → ((index : ℕ) → item ≡ Some index → ⊥) → item ≡ None
none_at None lacks = refl
none_at (Some index) lacks = absurd (lacks index refl)

pub known_none : (build used : List (List ℕ)) (known : List (Option ℕ)) (file : ℕ) (item : Option ℕ) → AreKnown build used known
    → file < length build → item ≡ get_or known file item → ((index : ℕ) → item ≡ Some index → ⊥) → slice_get known file ≡ Some None
known_none build used known file item are inside stands lacks =
    let count : length known ≡ length build = are.count in
    got_at known file item None (omega arith) (sym stands ∙ none_at item lacks)

pub name_is : (build : List (List ℕ)) (file : ℕ) (item name : List ℕ) → file < length build → item ≡ get_or build file item → name ≡ item
    → name ≡ file_name build file
name_is build file item name inside stands is = is ∙ stands ∙ get_or_default build file item [] inside

pub known_more : (build used more : List (List ℕ)) (known : List (Option ℕ)) (file index : ℕ)
    → AreKnown build used known → file < length known → slice_get known file ≡ Some None
    → more ≡ with_name used (file_name build file) → index ≡ place_of used (file_name build file) → index < length more
    → AreKnown build more (set known file (Some index))
known_more build used more known file index are inside none more-is index-is within =
    let longer = with_longer used (file_name build file) in
    let low : length used ≤ length more = rw more-is longer.0 in
    let high : length more ≤ length used + 1 = rw more-is longer.1 in
    let few : length used ≤ known_count known = are.few in
    record {
      count = length-set known file (Some index) ∙ are.count;
      short = are.short;
      few = rw (one_more known file index inside none) (omega arith);
      within = λ k i is.
          elim (at_set known file (Some index) k (Some i) is) [
            | inl here ↦ let same : index ≡ i = cc in omega arith
            | inr there ↦ let old : i < length used = are.within k i there in omega arith
          ];
      place = λ k i is.
          elim (at_set known file (Some index) k (Some i) is) [
            | inl here ↦
                let same : i ≡ index = cc in
                same ∙ index-is ∙ sym (place_with_self used (file_name build file))
                ∙ ap (λ (names : List (List ℕ)). place_of names (file_name build file)) (sym more-is)
                ∙ ap (λ (n : ℕ). place_of more (file_name build n)) (sym here.0)
            | inr there ↦
                let old : i ≡ place_of used (file_name build k) = are.place k i there in
                let is_in : i < length used = are.within k i there in
                old ∙ sym (place_with used (file_name build k) (file_name build file) (omega arith))
                ∙ ap (λ (names : List (List ℕ)). place_of names (file_name build k)) (sym more-is)
          ];
    }

pub few_used : (build used : List (List ℕ)) (known : List (Option ℕ)) → AreKnown build used known → length used ≤ length build
few_used build used known are =
    let few : length used ≤ known_count known = are.few in
    let count : length known ≡ length build = are.count in
    let short : known_count known ≤ length known = count_short known in
    omega arith

pub few_after : (build used more : List (List ℕ)) (known : List (Option ℕ)) → AreKnown build used known → more ≡ used → length more ≤ length build
few_after build used more known are is = rw is (few_used build used known are)

pub small_index : (build used more : List (List ℕ)) (known : List (Option ℕ)) (name : List ℕ) (index : ℕ) → AreKnown build used known
    → more ≡ with_name used name → index < length more → index < 2 ^ 32
small_index build used more known name index are is within =
    let few : length used ≤ length build = few_used build used known are in
    let short : length build < 2 ^ 32 = are.short in
    let high : length more ≤ length used + 1 = rw is (with_longer used name).1 in
    omega arith

pub place_after : (used more : List (List ℕ)) (name : List ℕ) (index : ℕ) → more ≡ with_name used name → index ≡ place_of used name
    → index ≡ place_of more name
place_after used more name index is index-is = index-is ∙ sym (place_with_self used name) ∙ ap (λ (names : List (List ℕ)). place_of names name) (sym is)
