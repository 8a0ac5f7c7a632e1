-- What is kept of definitions, one after the other, and the first that isn't allowed.
use Rattle.std.proofs.Common.{◌≡◌, Bool, true, false, inl, inr, ◌&&◌, ℕ, ◌+◌, ◌<◌, List, [], ◌∷◌, ◌++◌, length, take, get_or, Option, Some, None, refl, sym, ap, ◌∙◌, subst, arith, append_assoc, append-nil, length-append}
use Rattle.std.proofs.lemmas.Bool.{cases_Bool, cases_lt}
use Rattle.std.specs.Prelude.{slice_get}
use Rattle.std.specs.Option.{option_or, option_map}
use Rattle.std.proofs.lemmas.List.{take-append-le}
use Rattle.std.proofs.lemmas.List.Quantifiers.{all_pairs_push}
use Rattle.std.proofs.lemmas.Map.Entries.{place_from_lookup}
use Rattle.std.proofs.lemmas.Option.{slice_get-get_or}
use Rattle.link_names.specs.declared.definition.Definition.{Definition}
use Rattle.link_names.specs.Definitions.{Key, Entry, is_same, Allows, AreAllowed, IsFirstTwice, MeansAs}
use Rattle.link_names.specs.Adding.{first_of, is_allowed, is_allowed_by, with_entry, Keeps, Adds, Breaks}
use Rattle.link_names.proofs.KeyLemmas.{same_key, first_more, has_first}

-- where nothing more comes
pub adds_none : (old : List Entry) → Adds old [] old
unfolding Adds
adds_none old = λ before keeps. rw (append-nil before) keeps

pub adds_more : (old one between other new : List Entry) → Adds old one between → Adds between other new → Adds old (one ++ other) new
unfolding Adds
adds_more old one between other new first second = λ before keeps.
    rw (← append_assoc before one other) (second (before ++ one) (first before keeps))

pub breaks_later : (old one between other : List Entry) (name : List ℕ) → Adds old one between → Breaks between other name
    → Breaks old (one ++ other) name
unfolding Adds Breaks
breaks_later old one between other name first second = λ before keeps.
    rw (← append_assoc before one other) (second (before ++ one) (first before keeps))

got_within : {X : Type 0} (xs : List X) (number : ℕ) (x : X) → slice_get xs number ≡ Some x → number < length xs
got_within [] number x here = absurd cc
got_within (first ∷ xs) ℕ.zero x here = omega arith
got_within (first ∷ xs) (ℕ.suc number) x here = let rest = got_within xs number x here in omega arith

got_more : {X : Type 0} (xs ys : List X) (number : ℕ) (x : X) → slice_get xs number ≡ Some x → slice_get (xs ++ ys) number ≡ Some x
got_more [] ys number x here = absurd cc
got_more (first ∷ xs) ys ℕ.zero x here = here
got_more (first ∷ xs) ys (ℕ.suc number) x here = got_more xs ys number x here

got_last : {X : Type 0} (xs : List X) (x : X) → slice_get (xs ++ x ∷ []) (length xs) ≡ Some x
got_last [] x = refl
got_last (first ∷ xs) x = got_last xs x

got_is : {X : Type 0} (xs : List X) (number : ℕ) (x d : X) → slice_get xs number ≡ Some x → get_or xs number d ≡ x
got_is [] number x d here = absurd cc
got_is (first ∷ xs) ℕ.zero x d here = cc
got_is (first ∷ xs) (ℕ.suc number) x d here = got_is xs number x d here

take_front : {X : Type 0} (xs ys : List X) → take (length xs) (xs ++ ys) ≡ xs
take_front [] ys = refl
take_front (x ∷ xs) ys = ap (λ rest. x ∷ rest) (take_front xs ys)

take_whole : {X : Type 0} (xs : List X) → take (length xs) xs ≡ xs
take_whole [] = refl
take_whole (x ∷ xs) = ap (λ rest. x ∷ rest) (take_whole xs)

take_last : {X : Type 0} (xs : List X) (x : X) → take (length xs + 1) (xs ++ x ∷ []) ≡ xs ++ x ∷ []
take_last xs x =
    let long : length (xs ++ x ∷ []) ≡ length xs + 1 = length-append xs (x ∷ []) in
    subst (λ n. take n (xs ++ x ∷ []) ≡ xs ++ x ∷ []) long (take_whole (xs ++ x ∷ []))

-- what is twice stays so, whatever comes behind
twice_more : (entries more : List Entry) (name : List ℕ) → IsFirstTwice entries name → IsFirstTwice (entries ++ more) name
twice_more entries more name twice =
    let within : twice.number < length entries = got_within entries twice.number twice.entry twice.here in
    let front : take twice.number (entries ++ more) ≡ take twice.number entries = take-append-le twice.number entries more (omega arith) in
    let with_it : take (twice.number + 1) (entries ++ more) ≡ take (twice.number + 1) entries
    = take-append-le (twice.number + 1) entries more (omega arith) in
    record {
      number = twice.number;
      entry = twice.entry;
      here = got_more entries more twice.number twice.entry twice.here;
      before = subst AreAllowed (sym front) twice.before;
      twice = λ allowed. twice.twice (subst AreAllowed with_it allowed);
      named = twice.named;
    }

pub breaks_front : (old one other : List Entry) (name : List ℕ) → Breaks old one name → Breaks old (one ++ other) name
unfolding Breaks
breaks_front old one other name breaks = λ before keeps.
    rw (← append_assoc before one other) (twice_more (before ++ one) other name (breaks before keeps))

-- a definition that is kept before others is theirs
same_first : (before : List Entry) (entry : Entry) (first : Definition) (key : Key) → first_of before entry.0 ≡ Some first
    → first_of before key ≡ option_or (first_of before key) (first_of (entry ∷ []) key)
same_first before entry first key is =
    elim (cases_Bool (is_same key entry.0)) [
      | inl here ↦
          let own : key ≡ entry.0 = same_key key entry.0 here in
          let found : first_of before key ≡ Some first = ap (first_of before) own ∙ is in
          rw found refl
      | inr apart ↦ rw apart (or_none (first_of before key))
    ] where
      or_none : {X : Type 0} (found : Option X) → found ≡ option_or found None
      or_none None = refl
      or_none (Some x) = refl

both_true : (a b : Bool) → (a && b) ≡ true → (a ≡ true) × (b ≡ true)
both_true true true is = (refl, refl)
both_true true false is = absurd cc
both_true false b is = absurd cc

and_true : (a b : Bool) → a ≡ true → b ≡ true → (a && b) ≡ true
and_true a b one other = rw (one, other) refl

-- of two definitions of a symbol that are allowed, both have DUPOK
both_dupok : (before : List Entry) (number place : ℕ) (d : Entry) → AreAllowed before → number < place → place < length before
    → is_same (get_or before place d).0 (get_or before number d).0 ≡ true
    → ((get_or before number d).1.dupok ≡ true) × ((get_or before place d).1.dupok ≡ true)
both_dupok before number place d allowed below within same =
    both_true (get_or before number d).1.dupok (get_or before place d).1.dupok (allowed number place d below within same)

-- the first definition of a symbol has DUPOK, so another one has it too
other_dupok : (before : List Entry) (number place : ℕ) (d : Entry) → AreAllowed before → number < length before → place < length before
    → (get_or before number d).0 ≡ (get_or before place d).0 → is_same (get_or before place d).0 (get_or before place d).0 ≡ true
    → (get_or before place d).1.dupok ≡ true → (get_or before number d).1.dupok ≡ true
other_dupok before number place d allowed inside within keys same dupok =
    elim (cases_lt number place) [
      | inl below ↦ (both_dupok before number place d allowed below within (rw keys same)).0
      | inr least ↦
          elim (cases_lt place number) [
            | inl above ↦ (both_dupok before place number d allowed above inside (rw keys same)).1
            | inr most ↦ let equal : number ≡ place = omega arith in rw equal dupok
          ]
    ]

-- each earlier definition of the symbol allows one that the first of them allows
all_allow : (before : List Entry) (entry : Entry) (first : Definition) → AreAllowed before → first_of before entry.0 ≡ Some first
    → (first.dupok && entry.1.dupok) ≡ true → (number : ℕ) (d : Entry) → number < length before → Allows (get_or before number d) entry
all_allow before entry first allowed is both number d within same =
    let place = place_from_lookup (is_same entry.0) before first is in
    let at_is : get_or before place.0 d ≡ (place.1, first) = got_is before place.0 (place.1, first) d place.2 in
    let inside : place.0 < length before = got_within before place.0 (place.1, first) place.2 in
    let one : entry.0 ≡ (get_or before number d).0 = same_key entry.0 (get_or before number d).0 same in
    let other : entry.0 ≡ place.1 = same_key entry.0 place.1 place.3 in
    let at_key : (get_or before place.0 d).0 ≡ place.1 = ap (λ (e : Entry). e.0) at_is in
    let own : is_same place.1 place.1 ≡ true = subst (λ key. is_same key place.1 ≡ true) other place.3 in
    let dupoks = both_true first.dupok entry.1.dupok both in
    let at_dupok : (get_or before place.0 d).1.dupok ≡ true = ap (λ (e : Entry). e.1.dupok) at_is ∙ dupoks.0 in
    let its : (get_or before number d).1.dupok ≡ true
    = other_dupok before number place.0 d allowed within inside (sym one ∙ other ∙ sym at_key) (rw at_key own) at_dupok in
    and_true (get_or before number d).1.dupok entry.1.dupok its dupoks.1

-- a definition of a symbol that has none yet is allowed
none_before : (before : List Entry) (entry : Entry) → first_of before entry.0 ≡ None → (number : ℕ) (d : Entry) → number < length before
    → Allows (get_or before number d) entry
none_before before entry none number d within same =
    absurd (has_first before number (get_or before number d) entry.0 (slice_get-get_or before number d within) same none)

-- one more definition, which is allowed
pub adds_one : (old : List Entry) (entry : Entry) → is_allowed old entry ≡ true → Adds old (entry ∷ []) (with_entry old entry)
unfolding Adds
adds_one old entry allowed = λ before keeps. by (first_of old entry.0) refl allowed before keeps where
  by : (found : Option Definition) → first_of old entry.0 ≡ found → is_allowed_by found entry.1 ≡ true → (before : List Entry)
      → Keeps old before → Keeps (with_entry old entry) (before ++ entry ∷ [])
  by None none allows before keeps =
      let absent : first_of before entry.0 ≡ None = sym (keeps.first entry.0) ∙ none in
      rw none (record {
        first = λ key. first_more old entry key ∙ ap (λ found. option_or found (first_of (entry ∷ []) key)) (keeps.first key) ∙ sym (first_more before entry key);
        allowed = all_pairs_push Allows before entry keeps.allowed (none_before before entry absent);
      })
  by (Some first) is allows before keeps =
      let there : first_of before entry.0 ≡ Some first = sym (keeps.first entry.0) ∙ is in
      rw is (record {
        first = λ key. keeps.first key ∙ same_first before entry first key there ∙ sym (first_more before entry key);
        allowed = all_pairs_push Allows before entry keeps.allowed (all_allow before entry first keeps.allowed there allows);
      })

-- with a definition that isn't allowed beside the first one of its symbol, they are no longer allowed
not_both : (before : List Entry) (entry : Entry) (first : Definition) → first_of before entry.0 ≡ Some first
    → (first.dupok && entry.1.dupok) ≡ false → ¬ AreAllowed (before ++ entry ∷ [])
not_both before entry first is refused allowed =
    let place = place_from_lookup (is_same entry.0) before first is in
    let inside : place.0 < length before = got_within before place.0 (place.1, first) place.2 in
    let at_is : get_or (before ++ entry ∷ []) place.0 entry ≡ (place.1, first)
    = got_is (before ++ entry ∷ []) place.0 (place.1, first) entry (got_more before (entry ∷ []) place.0 (place.1, first) place.2) in
    let last_is : get_or (before ++ entry ∷ []) (length before) entry ≡ entry
    = got_is (before ++ entry ∷ []) (length before) entry entry (got_last before entry) in
    let pair = allowed place.0 (length before) entry inside (omega (arith, length-append before (entry ∷ []))) in
    let told = rw (at_is, last_is) at pair in
    let both : (first.dupok && entry.1.dupok) ≡ true = told place.3 in
    cc

pub breaks_one : (old : List Entry) (entry : Entry) → is_allowed old entry ≡ false → Breaks old (entry ∷ []) entry.0.0
unfolding Breaks
breaks_one old entry refused = λ before keeps. by (first_of old entry.0) refl refused before keeps where
  by : (found : Option Definition) → first_of old entry.0 ≡ found → is_allowed_by found entry.1 ≡ false → (before : List Entry)
      → Keeps old before → IsFirstTwice (before ++ entry ∷ []) entry.0.0
  by None none refuses before keeps = absurd cc
  by (Some first) is refuses before keeps =
      let there : first_of before entry.0 ≡ Some first = sym (keeps.first entry.0) ∙ is in
      record {
        number = length before;
        entry = entry;
        here = got_last before entry;
        before = subst AreAllowed (sym (take_front before (entry ∷ []))) keeps.allowed;
        twice = λ allowed. not_both before entry first there refuses (subst AreAllowed (take_last before entry) allowed);
        named = refl;
      }

-- nothing is kept of no definitions
keeps_none : Keeps [] []
keeps_none = record { first = λ key. refl; allowed = λ i j d below within. absurd (omega (arith, within)) }

-- all definitions, from none on
pub kept_all : (one other between new : List Entry) → Adds [] one between → Adds between other new
    → AreAllowed (one ++ other) × MeansAs new (one ++ other)
unfolding Adds
kept_all one other between new first second =
    let keeps = second one (first [] keeps_none) in
    (keeps.allowed, λ key. ap (option_map (λ (definition : Definition). definition.meaning)) (keeps.first key))

pub twice_all : (all : List Entry) (name : List ℕ) → Breaks [] all name → IsFirstTwice all name
unfolding Breaks
twice_all all name breaks = breaks [] keeps_none
