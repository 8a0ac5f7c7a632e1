-- Symbols that are read one by one.
use Rattle.std.proofs.Common.{◌≡◌, ℕ, zero, suc, ◌+◌, ◌-◌, ◌*◌, ◌<◌, List, Option, Some, None, Result, Ok, refl, ap, arith}
use Rattle.elf_image.specs.declared.symbols.Reading.{Reading}
use Rattle.elf_image.specs.Rows.{HasRows, rows_fault}
use Rattle.elf_image.specs.Symbols.{wanted_at, name_end, reading_behind, HasSymbols, read_if, symbol_read, read_on, symbols_read}
use Rattle.elf_image.proofs.RowLemmas.{faultless_rows, rows_faultless}

module _ (names bytes : List ℕ) (entry : ℕ) where
  -- one more symbol
  pub reads_next : (count index start : ℕ) (reading next : Reading) → index < count
      → symbol_read names bytes entry reading (start + 24 * index) ≡ Some next
      → symbols_read names bytes entry (count - index) reading (start + 24 * index)
      ≡ symbols_read names bytes entry (count - (index + 1)) next (start + 24 * (index + 1))
  reads_next count index start reading next inside is =
      let one : count - index ≡ suc (count - (index + 1)) = omega arith in
      let place : start + 24 * index + 24 ≡ start + 24 * (index + 1) = omega arith in
      rw (one, is, place) refl

  -- a symbol that was read has its fields and its name
  record IsReadAs (reading : Reading) (at : ℕ) (next : Reading) : Type 0 where
    rows : HasRows bytes at (wanted_at bytes reading at)
    place : ℕ
    name : name_end names reading.place ≡ Some place
    is : reading_behind bytes entry reading at place ≡ next

  split_if : (fault place : Option ℕ) (behind : ℕ → Reading) (next : Reading) → read_if names bytes entry fault place behind ≡ Some next
      → (fault ≡ None) × ((end : ℕ) × ((place ≡ Some end) × (behind end ≡ next)))
  split_if None None behind next is = cc
  split_if None (Some end) behind next is = (refl, (end, (refl, cc)))
  split_if (Some fault) place behind next is = cc

  read_as : (reading : Reading) (at : ℕ) (next : Reading) → symbol_read names bytes entry reading at ≡ Some next → IsReadAs reading at next
  unfolding symbol_read
  read_as reading at next is =
      let parts = split_if (rows_fault bytes at (wanted_at bytes reading at)) (name_end names reading.place)
      (reading_behind bytes entry reading at) next is in
      record {
        rows = rows_faultless bytes at (wanted_at bytes reading at) parts.0;
        place = parts.1.0;
        name = parts.1.1.0;
        is = parts.1.1.1;
      }

  split_on : (read : Option Reading) (at : ℕ) (rest : Reading → Result Reading ℕ) (last : Reading)
      → read_on names bytes entry read at rest ≡ Ok last → (next : Reading) × ((read ≡ Some next) × (rest next ≡ Ok last))
  split_on None at rest last is = cc
  split_on (Some next) at rest last is = (next, (refl, is))

  -- reading to the end shows the symbols
  pub symbols_told : (count : ℕ) (reading : Reading) (at : ℕ) (last : Reading)
      → symbols_read names bytes entry count reading at ≡ Ok last → HasSymbols names bytes entry count reading at last
  symbols_told zero reading at last is = cc
  symbols_told (suc count) reading at last is =
      let parts = split_on (symbol_read names bytes entry reading at) at
      (λ next. symbols_read names bytes entry count next (at + 24)) last is in
      let one : IsReadAs reading at parts.0 = read_as reading at parts.0 parts.1.0 in (
        one.rows,
        (
          one.place,
          (
            one.name,
            symbols_told count (reading_behind bytes entry reading at one.place) (at + 24) last (rw one.is parts.1.1),
          ),
        ),
      )

  -- and symbols that stand there are read to the end
  pub symbols_none : (count : ℕ) (reading : Reading) (at : ℕ) (last : Reading)
      → HasSymbols names bytes entry count reading at last → symbols_read names bytes entry count reading at ≡ Ok last
  unfolding symbol_read
  symbols_none zero reading at last has = ap (λ read. Ok read) has
  symbols_none (suc count) reading at last has =
      let fields : rows_fault bytes at (wanted_at bytes reading at) ≡ None = faultless_rows bytes at (wanted_at bytes reading at) has.0 in
      let name : name_end names reading.place ≡ Some has.1.0 = has.1.1.0 in
      let later : symbols_read names bytes entry count (reading_behind bytes entry reading at has.1.0) (at + 24) ≡ Ok last
      = symbols_none count (reading_behind bytes entry reading at has.1.0) (at + 24) last has.1.1.1 in
      rw (fields, name) later
