-- Symbols that were written are read back.
use Rattle.std.proofs.Common.{◌≡◌, ℕ, ◌+◌, ◌*◌, ◌<◌, ◌≤◌, ◌^◌, Bool, true, false, ◌&&◌, ◌||◌, nat_eq, List, [], ◌∷◌, length, map, filter, Option, Some, None, if◌then◌else◌, inl, inr, refl, sym, ◌∙◌, ap, subst, arith, length-append, add_assoc}
use Rattle.std.specs.Prelude.{All, count_by}
use Rattle.std.specs.List.{flat_map, list_any}
use Rattle.std.proofs.lemmas.Bool.{cases_Bool, or_cases, lt-ltb, eq-eqb, eqb-true, eqb-false, ne_eqb, and_parts}
use Rattle.std.proofs.lemmas.List.Sums.{sum_by-cons}
use Rattle.std.proofs.lemmas.List.Elements.{All-head, All-tail}
use Rattle.byte_layout.specs.Stands.{Stands}
use Rattle.byte_layout.proofs.StandsLemmas.{stands_front, stands_back, stands_moved}
use Rattle.elf_image.specs.declared.group.Group.{Group}
use Rattle.elf_image.specs.declared.group.Group.TheVariants.{LocalFunctions}
use Rattle.elf_image.specs.declared.rows.Width.TheVariants.{Char, Word, Xword}
use Rattle.elf_image.specs.declared.rows.Wanted.{Wanted}
use Rattle.elf_image.specs.declared.rows.Wanted.TheVariants.{Any, Is, Above, InGroup}
use Rattle.elf_image.specs.declared.symbols.Reading.{Reading}
use Rattle.elf_image.specs.declared.parts.SymbolPart.{SymbolPart}
use Rattle.elf_image.specs.Groups.{rank, info_of, section_of, is_function, is_local}
use Rattle.elf_image.specs.Rows.{number_at, meets, HasRows, rows_bytes}
use Rattle.elf_image.specs.Symbols.{symbol_rows, address_in, size_in, group_at, next_reading, reading_behind, HasSymbols}
use Rattle.elf_image.specs.Parts.{group_of_part, function_group, value_group, IsPart, FollowsLast, AreOrdered, is_entry}
use Rattle.elf_image.specs.Written.{part_rows, parts_bytes, name_bytes}
use Rattle.elf_image.specs.Contents.{symbol_places, lies_outside, name_in, outside_of}
use Rattle.elf_image.proofs.GroupLemmas.{group_back, info_fits, section_fits, reached}
use Rattle.elf_image.proofs.NameLemmas.{name_ends, name_told}
use Rattle.elf_image.proofs.WrittenRowLemmas.{Allow, written_rows, length_rows}

-- what is known behind parts that were read
abbrev pub parts_reading : ℕ → Reading → List SymbolPart → Reading
parts_reading entry reading [] = reading
parts_reading entry reading (part ∷ parts) =
    parts_reading entry (next_reading entry reading (group_of_part part) part.at (reading.place + length part.name + 1)) parts

-- the reading stands behind a part, or before the first
abbrev pub IsBehind : Option SymbolPart → Reading → Type 0
IsBehind None reading = (reading.group ≡ LocalFunctions) × (reading.last ≡ Any)
IsBehind (Some before) reading = (reading.group ≡ group_of_part before) × (reading.last ≡ Above before.at)

group_reached : (before : Option SymbolPart) (reading : Reading) (part : SymbolPart) → IsBehind before reading → FollowsLast before part
    → rank reading.group ≤ rank (group_of_part part)
group_reached None reading part is follows = rw is.0 (omega arith)
group_reached (Some before) reading part is follows = rw is.0 follows.groups

last_met : (before : Option SymbolPart) (reading : Reading) (part : SymbolPart) → IsBehind before reading → FollowsLast before part
    → is_function (group_of_part part) ≡ true → rank (group_of_part part) ≡ rank reading.group → meets reading.last part.at ≡ true
last_met None reading part is follows function same = rw is.1 refl
last_met (Some before) reading part is follows function same =
    let rank_same : rank (group_of_part part) ≡ rank (group_of_part before) = same ∙ ap rank is.0 in
    rw is.1 (lt-ltb before.at part.at (follows.rising function rank_same))

address_met : (before : Option SymbolPart) (reading : Reading) (part : SymbolPart) → IsBehind before reading → FollowsLast before part
    → meets (address_in reading (group_of_part part)) part.at ≡ true
address_met before reading part is follows =
    elim (cases_Bool (is_function (group_of_part part) && nat_eq (rank (group_of_part part)) (rank reading.group))) [
      | inl both ↦
          let tests = and_parts (is_function (group_of_part part)) (nat_eq (rank (group_of_part part)) (rank reading.group)) both in
          rw both (last_met before reading part is follows tests.0 (eqb-true (rank (group_of_part part)) (rank reading.group) tests.1))
      | inr other ↦ rw other refl
    ]

function_sized : (local : Bool) (size : ℕ) → meets (size_in (function_group local)) size ≡ true
function_sized true size = refl
function_sized false size = refl

value_sized : (local : Bool) (size : ℕ) → meets (size_in (value_group local)) size ≡ true
value_sized true size = refl
value_sized false size = refl

kind_two : (part : SymbolPart) → IsPart part → nat_eq part.kind 0 ≡ false → nat_eq part.kind 1 ≡ false → part.kind ≡ 2
kind_two part is not_zero not_one =
    let a : part.kind ≡ 0 → ⊥ = eqb-false part.kind 0 not_zero in
    let b : part.kind ≡ 1 → ⊥ = eqb-false part.kind 1 not_one in
    let most : part.kind ≤ 2 = is.kind in
    omega arith

size_met : (part : SymbolPart) → IsPart part → meets (size_in (group_of_part part)) part.size ≡ true
size_met part is =
    elim (cases_Bool (nat_eq part.kind 0)) [
      | inl function ↦ rw function (function_sized part.local part.size)
      | inr other ↦ elim (cases_Bool (nat_eq part.kind 1)) [
        | inl value ↦ rw (other, value) (value_sized part.local part.size)
        | inr outside ↦
            let none : part.size ≡ 0 = (is.outside (kind_two part is other outside)).1 in
            rw (other, outside) (eq-eqb part.size 0 none)
      ]
    ]

function_inside : (local : Bool) → nat_eq (info_of (function_group local)) 0x10 ≡ false
function_inside true = refl
function_inside false = refl

value_inside : (local : Bool) → nat_eq (info_of (value_group local)) 0x10 ≡ false
value_inside true = refl
value_inside false = refl

-- the info byte of a part tells whether it lies outside
kind_told : (part : SymbolPart) → IsPart part → nat_eq (info_of (group_of_part part)) 0x10 ≡ nat_eq part.kind 2
kind_told part is =
    elim (cases_Bool (nat_eq part.kind 0)) [
      | inl function ↦
          let none : part.kind ≡ 0 = eqb-true part.kind 0 function in
          let not_two : nat_eq part.kind 2 ≡ false = ne_eqb part.kind 2 (λ two. omega arith) in
          rw (function, not_two) (function_inside part.local)
      | inr other ↦ elim (cases_Bool (nat_eq part.kind 1)) [
        | inl value ↦
            let one : part.kind ≡ 1 = eqb-true part.kind 1 value in
            let not_two : nat_eq part.kind 2 ≡ false = ne_eqb part.kind 2 (λ two. omega arith) in
            rw (other, value, not_two) (value_inside part.local)
        | inr outside ↦
            let two : nat_eq part.kind 2 ≡ true = eq-eqb part.kind 2 (kind_two part is other outside) in
            rw (other, outside, two) refl
      ]
    ]

-- the fields of a part that was written
record HasPart (bytes : List ℕ) (at place : ℕ) (part : SymbolPart) : Type 0 where
  name : number_at bytes at Word ≡ place
  group : group_at bytes at ≡ group_of_part part
  info : number_at bytes (at + 4) Char ≡ info_of (group_of_part part)
  address : number_at bytes (at + 8) Xword ≡ part.at

allowed : (place : ℕ) (part : SymbolPart) (info address size : Wanted) → IsPart part → place < 2 ^ 32
    → meets info (info_of (group_of_part part)) ≡ true → meets address part.at ≡ true → meets size part.size ≡ true
    → Allow (symbol_rows place info (group_of_part part) address size) (part_rows place part)
allowed place part info address size is near info_met address_met size_met = (
  refl,
  (
    near,
    (
      eq-eqb place place refl,
      (
        refl,
        (
          info_fits (group_of_part part),
          (
            info_met,
            (
              refl,
              (
                omega arith,
                (
                  refl,
                  (
                    refl,
                    (
                      section_fits (group_of_part part),
                      (
                        eq-eqb (section_of (group_of_part part)) (section_of (group_of_part part)) refl,
                        (
                          refl,
                          (
                            is.address,
                            (
                              address_met,
                              (refl, (is.size, (size_met, tt))),
                            ),
                          ),
                        ),
                      ),
                    ),
                  ),
                ),
              ),
            ),
          ),
        ),
      ),
    ),
  ),
)

part_fields : (bytes : List ℕ) (at place : ℕ) (part : SymbolPart) → IsPart part → place < 2 ^ 32
    → Stands bytes at (rows_bytes (part_rows place part)) → HasPart bytes at place part
part_fields bytes at place part is near stands =
    let allow = allowed place part (Is (info_of (group_of_part part))) (Is part.at) (Is part.size) is near
    (eq-eqb (info_of (group_of_part part)) (info_of (group_of_part part)) refl) (eq-eqb part.at part.at refl) (eq-eqb part.size part.size refl) in
    let rows = written_rows bytes at (part_rows place part) (part_rows place part) allow stands in
    let info : number_at bytes (at + 4) Char ≡ info_of (group_of_part part)
    = eqb-true (number_at bytes (at + 4) Char) (info_of (group_of_part part)) rows.1.0 in
    let P : ℕ → Type 0 = λ n. number_at bytes n Xword ≡ part.at in
    let same : at + 4 + 1 + 1 + 2 ≡ at + 8 = omega arith in
    record {
      name = eqb-true (number_at bytes at Word) place rows.0;
      group = rw (info, group_back (group_of_part part)) refl;
      info = info;
      address = subst P same (eqb-true (number_at bytes (at + 4 + 1 + 1 + 2) Xword) part.at rows.1.1.1.1.0);
    }

module _ (names bytes : List ℕ) (entry : ℕ) where
  -- the parts behind the first, and their names
  parts_behind : (part : SymbolPart) (parts : List SymbolPart) (at place : ℕ) → Stands bytes at (parts_bytes place (part ∷ parts))
      → Stands bytes (at + 24) (parts_bytes (place + length part.name + 1) parts)
  parts_behind part parts at place stands =
      stands_moved bytes (at + length (rows_bytes (part_rows place part))) (at + 24) (parts_bytes (place + length part.name + 1) parts)
      (ap (λ n. at + n) (length_rows (part_rows place part)))
      (stands_back bytes at (rows_bytes (part_rows place part)) (parts_bytes (place + length part.name + 1) parts) stands)

  names_behind : (part : SymbolPart) (parts : List SymbolPart) (place : ℕ) → Stands names place (flat_map name_bytes (part ∷ parts))
      → Stands names (place + length part.name + 1) (flat_map name_bytes parts)
  names_behind part parts place stands =
      stands_moved names (place + length (name_bytes part)) (place + length part.name + 1) (flat_map name_bytes parts)
      (omega (arith, length-append part.name (0 ∷ [])))
      (stands_back names place (name_bytes part) (flat_map name_bytes parts) stands)

  length_names : (part : SymbolPart) (parts : List SymbolPart)
      → length (flat_map name_bytes (part ∷ parts)) ≡ length part.name + 1 + length (flat_map name_bytes parts)
  length_names part parts =
      length-append (name_bytes part) (flat_map name_bytes parts) ∙ ap (λ n. n + length (flat_map name_bytes parts)) (length-append part.name (0 ∷ []))

  pub parts_read : (before : Option SymbolPart) (parts : List SymbolPart) (reading : Reading) (at : ℕ)
      → IsBehind before reading → All IsPart parts → AreOrdered before parts
      → Stands bytes at (parts_bytes reading.place parts) → Stands names reading.place (flat_map name_bytes parts)
      → reading.place + length (flat_map name_bytes parts) ≤ 2 ^ 32
      → HasSymbols names bytes entry (length parts) reading at (parts_reading entry reading parts)
  parts_read before [] reading at is all order stands named near = refl
  parts_read before (part ∷ parts) reading at is all order stands named near =
      let one : IsPart part = All-head IsPart part parts all in
      let longer = length_names part parts in
      let place_fits : reading.place < 2 ^ 32 = omega arith in
      let here = stands_front bytes at (rows_bytes (part_rows reading.place part)) (parts_bytes (reading.place + length part.name + 1) parts) stands in
      let fields = part_fields bytes at reading.place part one place_fits here in
      let rows = written_rows bytes at
      (symbol_rows reading.place (InGroup reading.group) (group_of_part part) (address_in reading (group_of_part part)) (size_in (group_of_part part)))
      (part_rows reading.place part)
      (allowed reading.place part (InGroup reading.group) (address_in reading (group_of_part part)) (size_in (group_of_part part)) one place_fits
      (reached reading.group (group_of_part part) (group_reached before reading part is order.0))
      (address_met before reading part is order.0)
      (size_met part one)) here in
      let P : Group → Type 0 = λ group.
      HasRows bytes at (symbol_rows reading.place (InGroup reading.group) group (address_in reading group) (size_in group)) in
      let end = reading.place + length part.name + 1 in
      let name = name_ends names reading.place part.name one.name (stands_front names reading.place (name_bytes part) (flat_map name_bytes parts) named) in
      let next = next_reading entry reading (group_of_part part) part.at (reading.place + length part.name + 1) in
      let same : reading_behind bytes entry reading at (reading.place + length part.name + 1)
      ≡ next_reading entry reading (group_of_part part) part.at (reading.place + length part.name + 1)
      = ap (λ group. next_reading entry reading group (number_at bytes (at + 8) Xword) (reading.place + length part.name + 1)) fields.group
      ∙ ap (λ address. next_reading entry reading (group_of_part part) address (reading.place + length part.name + 1)) fields.address in
      let Q : Reading → Type 0 = λ r.
      HasSymbols names bytes entry (length parts) r (at + 24)
      (parts_reading entry (next_reading entry reading (group_of_part part) part.at (reading.place + length part.name + 1)) parts) in
      let rest = parts_read (Some part) parts
      (next_reading entry reading (group_of_part part) part.at (reading.place + length part.name + 1)) (at + 24) (refl, refl)
      (All-tail IsPart part parts all) order.1 (parts_behind part parts at reading.place stands)
      (names_behind part parts reading.place named) (omega arith) in
      (subst P (sym fields.group) rows, (reading.place + length part.name + 1, (name, subst Q (sym same) rest)))

  -- the symbols that lie outside, among those that stand there
  pub outside_read : (parts : List SymbolPart) (at place : ℕ) → All IsPart parts
      → Stands bytes at (parts_bytes place parts) → Stands names place (flat_map name_bytes parts)
      → place + length (flat_map name_bytes parts) ≤ 2 ^ 32
      → map (λ n. (name_in names (number_at bytes n Word), number_at bytes (n + 8) Xword))
      (filter (lies_outside bytes) (symbol_places (length parts) at)) ≡ outside_of parts
  outside_read [] at place all stands named near = refl
  outside_read (part ∷ parts) at place all stands named near =
      let one : IsPart part = All-head IsPart part parts all in
      let longer = length_names part parts in
      let place_fits : place < 2 ^ 32 = omega arith in
      let here = stands_front bytes at (rows_bytes (part_rows place part)) (parts_bytes (place + length part.name + 1) parts) stands in
      let fields = part_fields bytes at place part one place_fits here in
      let name = name_told names place part.name one.name (stands_front names place (name_bytes part) (flat_map name_bytes parts) named) in
      let told : lies_outside bytes at ≡ nat_eq part.kind 2 = ap (λ n. nat_eq n 0x10) fields.info ∙ kind_told part one in
      let rest = outside_read parts (at + 24) (place + length part.name + 1) (All-tail IsPart part parts all)
      (parts_behind part parts at place stands) (names_behind part parts place named) (omega arith) in
      elim (cases_Bool (nat_eq part.kind 2)) [
        | inl outside ↦
            let here_outside : lies_outside bytes at ≡ true = told ∙ outside in
            rw (here_outside, outside, fields.name, name, fields.address, rest) refl
        | inr inside ↦
            let here_inside : lies_outside bytes at ≡ false = told ∙ inside in
            rw (here_inside, inside) rest
      ]

-- what is known behind all parts
pub record EndsAs (entry : ℕ) (reading : Reading) (parts : List SymbolPart) : Type 0 where
  pub place : (parts_reading entry reading parts).place ≡ reading.place + length (flat_map name_bytes parts)
  pub locals : (parts_reading entry reading parts).locals ≡ reading.locals + count_by (λ part. is_local (group_of_part part)) parts
  pub entered : (parts_reading entry reading parts).entered ≡ (reading.entered || list_any (is_entry entry) parts)

or_either : (a b c : Bool) → ((a || b) || c) ≡ (a || (b || c))
or_either true b c = refl
or_either false b c = refl

or_none : (a : Bool) → (a || false) ≡ a
or_none true = refl
or_none false = refl

pub parts_end : (entry : ℕ) (reading : Reading) (parts : List SymbolPart) → EndsAs entry reading parts
parts_end entry reading [] = record { place = omega arith; locals = omega arith; entered = sym (or_none reading.entered) }
parts_end entry reading (part ∷ parts) =
    let rest = parts_end entry (next_reading entry reading (group_of_part part) part.at (reading.place + length part.name + 1)) parts in
    record {
      place = omega (arith, rest.place, length-append (name_bytes part) (flat_map name_bytes parts), length-append part.name (0 ∷ []));
      locals = rest.locals
          ∙ add_assoc reading.locals (if is_local (group_of_part part) then 1 else 0) (count_by (λ p. is_local (group_of_part p)) parts)
          ∙ ap (λ n. reading.locals + n) (sym (sum_by-cons (λ p. if is_local (group_of_part p) then 1 else 0) part parts));
      entered = rest.entered ∙ or_either reading.entered (is_entry entry part) (list_any (is_entry entry) parts);
    }

pub length_parts : (place : ℕ) (parts : List SymbolPart) → length (parts_bytes place parts) ≡ 24 * length parts
length_parts place [] = refl
length_parts place (part ∷ parts) =
    let rest = length_parts (place + length part.name + 1) parts in
    let here = length_rows (part_rows place part) in
    omega (arith, rest, here, length-append (rows_bytes (part_rows place part)) (parts_bytes (place + length part.name + 1) parts))

-- the entry is an address
pub entry_fits : (entry : ℕ) (parts : List SymbolPart) → All IsPart parts → list_any (is_entry entry) parts ≡ true → entry < 2 ^ 64
entry_fits entry [] all some = cc
entry_fits entry (part ∷ parts) all some =
    elim (or_cases (is_entry entry part) (list_any (is_entry entry) parts) some) [
      | inl here ↦
          let same : part.at ≡ entry = eqb-true part.at entry (and_parts (is_function (group_of_part part)) (nat_eq part.at entry) here).1 in
          let fits : part.at < 2 ^ 64 = (All-head IsPart part parts all).address in
          omega arith
      | inr later ↦ entry_fits entry parts (All-tail IsPart part parts all) later
    ]
