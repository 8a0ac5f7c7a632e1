-- The symbols that lie outside stand behind all others.
use Rattle.std.proofs.Common.{◌≡◌, ℕ, zero, suc, ◌+◌, ◌-◌, ◌*◌, ◌<◌, ◌≤◌, true, false, nat_eq, List, map, filter, Some, None, inl, inr, refl, sym, ◌∙◌, ap, arith}
use Rattle.std.specs.List.{slice_get}
use Rattle.std.specs.Option.{option_map}
use Rattle.std.proofs.lemmas.Option.{slice_get-map}
use Rattle.std.proofs.lemmas.Bool.{cases_Bool, eqb-true}
use Rattle.elf_image.specs.declared.group.Group.TheVariants.{Outside}
use Rattle.elf_image.specs.declared.rows.Width.TheVariants.{Char}
use Rattle.elf_image.specs.declared.symbols.Reading.{Reading}
use Rattle.elf_image.specs.Groups.{group_of}
use Rattle.elf_image.specs.Rows.{number_at, reaches}
use Rattle.elf_image.specs.Symbols.{group_at, reading_behind, HasSymbols}
use Rattle.elf_image.specs.Image.{count_in, symbols_start, names_in, IsImage}
use Rattle.elf_image.specs.Layout.{entry_in}
use Rattle.elf_image.specs.Contents.{symbol_places, lies_outside, symbol_at, outside_in, IsFirstOutside}

-- an info byte that reaches the last group tells it
last_group : (found : ℕ) → reaches Outside (group_of found) ≡ true → nat_eq found 0x10 ≡ true
last_group found is =
    elim (cases_Bool (nat_eq found 0x02)) [
      | inl local ↦ (let wrong : false ≡ true = rw local at is in cc)
      | inr other ↦ elim (cases_Bool (nat_eq found 0x01)) [
        | inl local ↦ (let wrong : false ≡ true = rw (other, local) at is in cc)
        | inr another ↦ elim (cases_Bool (nat_eq found 0x12)) [
          | inl global ↦ (let wrong : false ≡ true = rw (other, another, global) at is in cc)
          | inr further ↦ elim (cases_Bool (nat_eq found 0x11)) [
            | inl global ↦ (let wrong : false ≡ true = rw (other, another, further, global) at is in cc)
            | inr last ↦ elim (cases_Bool (nat_eq found 0x10)) [
              | inl here ↦ here
              | inr none ↦ (let wrong : false ≡ true = rw (other, another, further, last, none) at is in cc)
            ]
          ]
        ]
      ]
    ]

module _ (names bytes : List ℕ) (entry : ℕ) where
  group_outside : (at : ℕ) → lies_outside bytes at ≡ true → group_at bytes at ≡ Outside
  group_outside at is =
      let info : number_at bytes (at + 4) Char ≡ 0x10 = eqb-true (number_at bytes (at + 4) Char) 0x10 is in
      rw info refl

  -- behind a symbol that lies outside all do
  all_outside : (count : ℕ) (reading : Reading) (at : ℕ) (last : Reading) → reading.group ≡ Outside
      → HasSymbols names bytes entry count reading at last
      → filter (lies_outside bytes) (symbol_places count at) ≡ symbol_places count at
  all_outside zero reading at last is has = refl
  all_outside (suc count) reading at last is has =
      let reached : reaches reading.group (group_of (number_at bytes (at + 4) Char)) ≡ true = has.0.1.0 in
      let here : lies_outside bytes at ≡ true = last_group (number_at bytes (at + 4) Char) (rw is at reached) in
      let rest = all_outside count (reading_behind bytes entry reading at has.1.0) (at + 24) last (group_outside at here) has.1.1.1 in
      rw (here, rest) refl

  from_here : (count : ℕ) (reading : Reading) (at : ℕ) (last : Reading) → 0 < count → lies_outside bytes at ≡ true
      → HasSymbols names bytes entry count reading at last
      → filter (lies_outside bytes) (symbol_places count at) ≡ symbol_places count at
  from_here zero reading at last some here has = absurd (omega arith)
  from_here (suc count) reading at last some here has =
      let rest = all_outside count (reading_behind bytes entry reading at has.1.0) (at + 24) last (group_outside at here) has.1.1.1 in
      rw (here, rest) refl

  -- the symbols from one on
  symbols_from : (index count : ℕ) (reading : Reading) (at : ℕ) (last : Reading) → index ≤ count
      → HasSymbols names bytes entry count reading at last
      → (later : Reading) × HasSymbols names bytes entry (count - index) later (at + 24 * index) last
  symbols_from zero count reading at last within has =
      let all : count ≡ count - 0 = omega arith in
      let place : at ≡ at + 24 * 0 = omega arith in
      (reading, rw (← all, ← place) has)
  symbols_from (suc index) zero reading at last within has = absurd (omega arith)
  symbols_from (suc index) (suc count) reading at last within has =
      let rest = symbols_from index count (reading_behind bytes entry reading at has.1.0) (at + 24) last (omega arith) has.1.1.1 in
      let fewer : suc count - suc index ≡ count - index = omega arith in
      let place : at + 24 * suc index ≡ at + 24 + 24 * index = omega arith in
      (rest.0, rw (fewer, place) rest.1)

-- so far none lies outside
pub outside_next : (bytes : List ℕ) (count start index : ℕ) → index < count
    → lies_outside bytes (start + 24 * index) ≡ false
    → filter (lies_outside bytes) (symbol_places (count - index) (start + 24 * index))
    ≡ filter (lies_outside bytes) (symbol_places (count - (index + 1)) (start + 24 * (index + 1)))
outside_next bytes count start index inside is =
    let one : count - index ≡ suc (count - (index + 1)) = omega arith in
    let place : start + 24 * index + 24 ≡ start + 24 * (index + 1) = omega arith in
    rw (one, is, place) refl

pub outside_found : (bytes : List ℕ) (index : ℕ) → IsImage bytes → index < count_in bytes
    → filter (lies_outside bytes) (symbol_places (count_in bytes - index) (symbols_start bytes + 24 * index))
    ≡ filter (lies_outside bytes) (symbol_places (count_in bytes) (symbols_start bytes))
    → lies_outside bytes (symbols_start bytes + 24 * index) ≡ true
    → IsFirstOutside bytes index
unfolding outside_in
outside_found bytes index image inside before here =
    let has = symbols_from (names_in bytes) bytes (entry_in bytes) index (count_in bytes) _ (symbols_start bytes)
    image.symbols.last (omega arith) image.symbols.symbols in
    let rest = from_here (names_in bytes) bytes (entry_in bytes) (count_in bytes - index) has.0
    (symbols_start bytes + 24 * index) image.symbols.last (omega arith) here has.1 in
    record { within = omega arith; all = ap (map (symbol_at bytes)) (sym before ∙ rest) }

pub outside_none : (bytes : List ℕ) (index : ℕ) → index ≡ count_in bytes
    → filter (lies_outside bytes) (symbol_places (count_in bytes - index) (symbols_start bytes + 24 * index))
    ≡ filter (lies_outside bytes) (symbol_places (count_in bytes) (symbols_start bytes))
    → IsFirstOutside bytes index
unfolding outside_in
outside_none bytes index past before =
    let none : count_in bytes - index ≡ 0 = omega arith in
    let empty : filter (lies_outside bytes) (symbol_places (count_in bytes - index) (symbols_start bytes + 24 * index))
    ≡ symbol_places (count_in bytes - index) (symbols_start bytes + 24 * index)
    = rw none refl in
    record { within = omega arith; all = ap (map (symbol_at bytes)) (sym before ∙ empty) }

-- the places of symbols, by their numbers
places_get : (count at index : ℕ) → index < count → slice_get (symbol_places count at) index ≡ Some (at + 24 * index)
places_get zero at index inside = absurd (omega arith)
places_get (suc count) at zero inside =
    let place : at ≡ at + 24 * 0 = omega arith in
    ap (λ n. Some n) place
places_get (suc count) at (suc index) inside =
    let place : at + 24 + 24 * index ≡ at + 24 * suc index = omega arith in
    places_get count (at + 24) index (omega arith) ∙ ap (λ n. Some n) place

places_past : (count at index : ℕ) → count ≤ index → slice_get (symbol_places count at) index ≡ None
places_past zero at index past = refl
places_past (suc count) at zero past = absurd (omega arith)
places_past (suc count) at (suc index) past = places_past count (at + 24) index (omega arith)

pub outside_get : (bytes : List ℕ) (first index : ℕ) → IsFirstOutside bytes first → first + index < count_in bytes
    → slice_get (outside_in bytes) index ≡ Some (symbol_at bytes (symbols_start bytes + 24 * (first + index)))
outside_get bytes first index is inside =
    let place : symbols_start bytes + 24 * first + 24 * index ≡ symbols_start bytes + 24 * (first + index) = omega arith in
    ap (λ all. slice_get all index) is.all
    ∙ slice_get-map (symbol_at bytes) (symbol_places (count_in bytes - first) (symbols_start bytes + 24 * first)) index
    ∙ ap (option_map (symbol_at bytes))
    (places_get (count_in bytes - first) (symbols_start bytes + 24 * first) index (omega arith) ∙ ap (λ n. Some n) place)

pub outside_past : (bytes : List ℕ) (first index : ℕ) → IsFirstOutside bytes first → count_in bytes ≤ first + index
    → slice_get (outside_in bytes) index ≡ None
outside_past bytes first index is past =
    ap (λ all. slice_get all index) is.all
    ∙ slice_get-map (symbol_at bytes) (symbol_places (count_in bytes - first) (symbols_start bytes + 24 * first)) index
    ∙ ap (option_map (symbol_at bytes)) (places_past (count_in bytes - first) (symbols_start bytes + 24 * first) index (omega arith))
