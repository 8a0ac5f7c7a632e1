use Rattle.std.proofs.Common.{◌≡◌, ℕ, ◌⊎◌, inl, inr, ◌^◌, Bool, true, false, suc, ◌+◌, ◌-◌, ◌*◌, ◌/◌, ◌%◌, ◌<◌, ◌≤◌, ◌==◌, List, [], ◌∷◌, length, slice_get, get_or, slice_range, drop, length-drop, get_or-take, get_or-drop, Option, Some, None, refl, sym, ap, ◌∙◌, cond, ⊎_elim, arith, if◌then◌else◌}
use Rattle.std.proofs.lemmas.List.{length-take-le}
use Rattle.std.proofs.lemmas.Option.{slice_get-get_or}
use Rattle.std.proofs.lemmas.Bool.{eqb-true, cases_lt, cases_order, eq-eqb, ne_eqb}
use Rattle.std.specs.Ordering.{nat_cmp, eq_by_cmp}
use Rattle.std.specs.Map.{lookup}
use Rattle.std.specs.BTreeMap.{BTreeMap}
use Rattle.std.specs.BTreeMap as tree
use Rattle.std.specs.FinMap as map
use Rattle.std.specs.Cmp.{nat_cmp_total}
use Rattle.std.specs.Option.{option_and_then}
use Rattle.machine_effect.specs.declared.page.Page.{Page}
use Rattle.machine_effect.specs.Memory.{Memory, byte_at, put, is_within, IsFirstFrom}
use Rattle.machine_effect.specs.Page.{page_size, at_place, IsFirstPlace}
use Rattle.machine_effect.specs.Pages.{HasLowPages, byte_in, with_place, with_places, memory_of, SameBytes, WritesBytes, WritesFirst, IsFirstPage, IsFirstByte}
use Rattle.machine_effect.proofs.MemoryLemmas.{inside, below, above, in_pieces, eq_by_cmp-nat_cmp, set_byte, byte_at-put}

-- what a memory has after one place was set
set_place : (memory : Memory) (at q : ℕ) (place : Option ℕ)
    → byte_at (with_place memory at place) q ≡ (if q == at then place else byte_at memory q)
set_place memory at q (Some byte) = set_byte memory at byte q
set_place memory at q None =
    map.get-remove nat_cmp_total memory at q ∙ ap (λ here. cond here None (byte_at memory q)) (eq_by_cmp-nat_cmp q at)

places_behind : (memory : Memory) (at q count : ℕ) (place : Option ℕ) (places : List (Option ℕ))
    → (if q == at then place else (if is_within (at + 1) count q then get_or places (q - (at + 1)) None else byte_at memory q))
    ≡ (if is_within at (suc count) q then get_or (place ∷ places) (q - at) None else byte_at memory q)
places_behind memory at q count place places =
    ⊎_elim (λ same.
    let from : at ≤ q = omega arith in
    let high : q < at + suc count = omega arith in
    let here : q - at ≡ 0 = omega arith in
    rw (eq-eqb q at same, inside at (suc count) q from high, here) refl)
    (⊎_elim (λ less.
    let apart : q ≡ at → ⊥ = λ same. omega arith in
    let low : q < at + 1 = omega arith in
    rw (ne_eqb q at apart, below (at + 1) count q low, below at (suc count) q less) refl)
    (λ more.
    let apart : q ≡ at → ⊥ = λ same. omega arith in
    let low : at + 1 ≤ q = omega arith in
    let from : at ≤ q = omega arith in
    let there : q - at ≡ suc (q - (at + 1)) = omega arith in
    ⊎_elim (λ short.
    let high : q < at + suc count = omega arith in
    rw (ne_eqb q at apart, inside (at + 1) count q low short, inside at (suc count) q from high, there) refl)
    (λ past.
    let high : at + suc count ≤ q = omega arith in
    rw (ne_eqb q at apart, above (at + 1) count q past, above at (suc count) q high) refl)
    (cases_lt q (at + 1 + count))))
    (cases_order q at)

-- what a memory has after places were set
byte_at-places : (places : List (Option ℕ)) (memory : Memory) (at q : ℕ)
    → byte_at (with_places memory at places) q
    ≡ (if is_within at (length places) q then get_or places (q - at) None else byte_at memory q)
byte_at-places [] memory at q =
    ⊎_elim (λ low. rw (below at 0 q low) refl) (λ high. let up : at + 0 ≤ q = omega arith in rw (above at 0 q up) refl)
    (cases_lt q at)
byte_at-places (place ∷ places) memory at q =
    set_place (with_places memory (at + 1) places) at q place
    ∙ ap (λ x. if q == at then place else x) (byte_at-places places memory (at + 1) q)
    ∙ places_behind memory at q (length places) place places

-- a page has the addresses that have its number
within_page : (number q : ℕ) → is_within (page_size * number) page_size q ≡ eq_by_cmp nat_cmp (q / page_size) number
within_page number q =
    ⊎_elim (λ same.
    let low : page_size * number ≤ q = omega arith in
    let high : q < page_size * number + page_size = omega arith in
    rw (inside (page_size * number) page_size q low high, eq_by_cmp-nat_cmp (q / page_size) number, eq-eqb (q / page_size) number same) refl)
    (⊎_elim (λ less.
    let apart : q / page_size ≡ number → ⊥ = λ same. omega arith in
    let low : q < page_size * number = omega arith in
    rw (below (page_size * number) page_size q low, eq_by_cmp-nat_cmp (q / page_size) number, ne_eqb (q / page_size) number apart) refl)
    (λ more.
    let apart : q / page_size ≡ number → ⊥ = λ same. omega arith in
    let high : page_size * number + page_size ≤ q = omega arith in
    rw (above (page_size * number) page_size q high, eq_by_cmp-nat_cmp (q / page_size) number, ne_eqb (q / page_size) number apart) refl))
    (cases_order (q / page_size) number)

abbrev pub in_entries : List (ℕ × Page) → ℕ → Option ℕ
in_entries entries q =
    option_and_then (λ page. at_place page.places.items (q % page_size)) (lookup (tree.is_at (nat_cmp (q / page_size))) entries)

at_entry : (q number : ℕ) (places : List (Option ℕ)) (here : Bool) (other : Option ℕ) → eq_by_cmp nat_cmp (q / page_size) number ≡ here
    → (if here then get_or places (q - page_size * number) None else other) ≡ (if here then at_place places (q % page_size) else other)
at_entry q number places true other is =
    let same : q / page_size ≡ number = eqb-true (q / page_size) number (sym (eq_by_cmp-nat_cmp (q / page_size) number) ∙ is) in
    let place : q - page_size * number ≡ q % page_size = omega arith in
    rw place refl
at_entry q number places false other is = refl

taken : (here : Bool) (f : Page → Option ℕ) (page : Page) (other : Option Page)
    → (if here then f page else option_and_then f other) ≡ option_and_then f (cond here (Some page) other)
taken true f page other = refl
taken false f page other = refl

-- the memory of pages has at each address what its page has
pub byte_at-memory_of : (q : ℕ) (entries : List (ℕ × Page)) → byte_at (memory_of entries) q ≡ in_entries entries q
unfolding memory_of
byte_at-memory_of q [] = map.get-empty nat_cmp q
byte_at-memory_of q (entry ∷ entries) =
    let places : List (Option ℕ) = entry.1.places.items in
    let f : Page → Option ℕ = λ page. at_place page.places.items (q % page_size) in
    let rest : Option Page = lookup (tree.is_at (nat_cmp (q / page_size))) entries in
    byte_at-places places (memory_of entries) (page_size * entry.0) q
    ∙ ap (λ n. if is_within (page_size * entry.0) n q then get_or places (q - page_size * entry.0) None else byte_at (memory_of entries) q) entry.1.whole
    ∙ ap (λ here. if here then get_or places (q - page_size * entry.0) None else byte_at (memory_of entries) q) (within_page entry.0 q)
    ∙ at_entry q entry.0 places (eq_by_cmp nat_cmp (q / page_size) entry.0) (byte_at (memory_of entries) q) refl
    ∙ ap (λ other. if eq_by_cmp nat_cmp (q / page_size) entry.0 then f entry.1 else other) (byte_at-memory_of q entries)
    ∙ taken (eq_by_cmp nat_cmp (q / page_size) entry.0) f entry.1 rest

pub byte_at-pages : (pages : BTreeMap ℕ Page) (q : ℕ) → byte_at (memory_of pages.entries) q ≡ byte_in pages q
byte_at-pages pages q = byte_at-memory_of q pages.entries

-- pages with the same bytes are the same memory
pub same_memory : (old new : BTreeMap ℕ Page) → SameBytes old new → memory_of new.entries ≡ memory_of old.entries
same_memory old new same =
    map.same_map nat_cmp_total map.nat_cmp-IsAntisymmetric _ _ (λ q.
    byte_at-pages new q ∙ same q ∙ sym (byte_at-pages old q))

-- bytes written to pages are put into their memory
pub written_memory : (old new : BTreeMap ℕ Page) (at : ℕ) (bytes : List ℕ) → WritesBytes old new at bytes
    → memory_of new.entries ≡ put (memory_of old.entries) at bytes
written_memory old new at bytes written =
    map.same_map nat_cmp_total map.nat_cmp-IsAntisymmetric _ _ (λ q.
    byte_at-pages new q ∙ written q
    ∙ ap (λ byte. if is_within at (length bytes) q then slice_get bytes (q - at) else byte) (sym (byte_at-pages old q))
    ∙ sym (byte_at-put bytes (memory_of old.entries) at q))

piece_size : (bytes : List ℕ) (done count : ℕ) → done + count ≤ length bytes → length (slice_range bytes done (done + count)) ≡ count
piece_size bytes done count fits =
    let all : done + count - done ≤ length (drop done bytes) = omega (arith, length-drop done bytes) in
    length-take-le (done + count - done) (drop done bytes) all ∙ omega arith

piece_at : (bytes : List ℕ) (done count k : ℕ) → done + count ≤ length bytes → k < count
    → slice_get (slice_range bytes done (done + count)) k ≡ slice_get bytes (done + k)
piece_at bytes done count k fits low =
    let there : done + k < length bytes = omega arith in
    let size : length (slice_range bytes done (done + count)) ≡ count = piece_size bytes done count fits in
    let here : k < length (slice_range bytes done (done + count)) = omega arith in
    let near : k < done + count - done = omega arith in
    slice_get-get_or (slice_range bytes done (done + count)) k 0 here
    ∙ ap Some (get_or-take (done + count - done) (drop done bytes) k 0 near ∙ get_or-drop done bytes k 0)
    ∙ sym (slice_get-get_or bytes (done + k) 0 there)

-- one more piece of what is written
pub piece_more : (old now next : BTreeMap ℕ Page) (at done count : ℕ) (bytes : List ℕ) → done + count ≤ length bytes
    → WritesFirst old now at done bytes → WritesBytes now next (at + done) (slice_range bytes done (done + count))
    → WritesFirst old next at (done + count) bytes
piece_more old now next at done count bytes fits first second =
    let piece : List ℕ = slice_range bytes done (done + count) in
    let size : length piece ≡ count = piece_size bytes done count fits in
    in_pieces (λ q. byte_in old q) (λ q. byte_in now q) (λ q. byte_in next q) (λ k. slice_get bytes k) at done count first
    (λ q. second q ∙ ⊎_elim (λ low. rw (size, below (at + done) count q low) refl)
    (λ from. ⊎_elim (λ short.
    let near : q - (at + done) < count = omega arith in
    let place : done + (q - (at + done)) ≡ q - at = omega arith in
    rw (size, inside (at + done) count q from short) (piece_at bytes done count (q - (at + done)) fits near ∙ ap (λ k. slice_get bytes k) place))
    (λ past. rw (size, above (at + done) count q past) refl)
    (cases_lt q (at + done + count)))
    (cases_lt q (at + done)))

-- the byte at an address of a page
in_its_page : (pages : BTreeMap ℕ Page) (q number : ℕ) → q / page_size ≡ number
    → byte_in pages q ≡ option_and_then (λ page. at_place page.places.items (q % page_size)) (tree.get nat_cmp pages number)
in_its_page pages q number same =
    ap (λ n. option_and_then (λ page. at_place page.places.items (q % page_size)) (tree.get nat_cmp pages n)) same

-- no byte stands before a place of the first page that comes
module _ (pages : BTreeMap ℕ Page) (from number place found start : ℕ) (page : Page)
    (none : (q : ℕ) → from ≤ q → q < page_size * number + place → byte_in pages q ≡ None)
    (first : IsFirstPage pages number found page)
    (here : found ≡ number → start ≡ place) (behind : number < found → start ≡ 0) where
  starts : (start ≡ 0) ⊎ ((found ≡ number) × (start ≡ place))
  starts =
      ⊎_elim (λ less. inl (behind less))
      (λ more. let low : number ≤ found = first.from_on in let same : found ≡ number = omega arith in inr (same, here same))
      (cases_lt number found)

  pub none_before : (bound : ℕ) → bound ≤ page_size → ((k : ℕ) → start ≤ k → k < bound → at_place page.places.items k ≡ None)
      → (q : ℕ) → from ≤ q → q < page_size * found + bound → byte_in pages q ≡ None
  none_before bound fits empty q low high =
      ⊎_elim (λ passed. none q low passed)
      (λ ahead. ⊎_elim (λ before.
      let reached : number ≤ q / page_size = omega arith in
      in_its_page pages q (q / page_size) refl ∙ rw (first.first (q / page_size) reached before) refl)
      (λ there.
      let same : q / page_size ≡ found = omega arith in
      let from_on : start ≤ q % page_size = ⊎_elim (λ none. omega arith) (λ same. omega arith) starts in
      let less : q % page_size < bound = omega arith in
      in_its_page pages q found same ∙ rw first.has (empty (q % page_size) from_on less))
      (cases_lt (q / page_size) found))
      (cases_lt q (page_size * number + place))

  pub first_byte : (k : ℕ) → from ≤ page_size * number + place → place < page_size → IsFirstPlace page.places.items start k
      → IsFirstByte pages from (found * page_size + k)
  first_byte k low inside_it is =
      let within : k < page_size = is.within in
      let its : (found * page_size + k) / page_size ≡ found = omega arith in
      let there : (found * page_size + k) % page_size ≡ k = omega arith in
      let order : number ≤ found = first.from_on in
      let from_on : start ≤ k = is.from_on in
      record {
        from_on = ⊎_elim (λ less. omega arith) (λ more. let same : found ≡ number = omega arith in let at : start ≡ place = here same in omega arith) (cases_lt number found);
        has = rw (in_its_page pages (found * page_size + k) found its, first.has, there) is.has;
        first = λ q low before. let high : q < page_size * found + k = omega arith in none_before k (omega arith) is.first q low high;
      }

pub low_page : (pages : BTreeMap ℕ Page) (number : ℕ) (page : Page) → HasLowPages pages → tree.get nat_cmp pages number ≡ Some page
    → number < 2 ^ 52
low_page pages number page low has = low number (rw has)

-- what is found in the pages is found in their memory
module _ (pages : BTreeMap ℕ Page) (memory : Memory) (is : memory_of pages.entries ≡ memory) where
  pub in_view : (q : ℕ) → byte_at memory q ≡ byte_in pages q
  in_view q = sym (ap (λ m. byte_at m q) is) ∙ byte_at-pages pages q

  pub first_in_view : (from at : ℕ) → IsFirstByte pages from at → IsFirstFrom memory from at
  first_in_view from at first = record {
    from_on = first.from_on;
    mapped = rw (in_view at) first.has;
    first = λ q low high. in_view q ∙ first.first q low high;
  }
