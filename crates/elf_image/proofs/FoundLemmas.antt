-- What the headers of a written image say.
use Rattle.std.proofs.Common.{◌≡◌, ℕ, ◌+◌, ◌<◌, ◌^◌, List, ◌++◌, length, IsTrue, refl, subst, arith, length-append}
use Rattle.std.proofs.lemmas.Bool.{eq-eqb, eqb-true}
use Rattle.std.proofs.lemmas.List.Sums.{count_by-le-length}
use Rattle.byte_layout.specs.Stands.{Stands}
use Rattle.byte_layout.proofs.StandsLemmas.{stands_moved}
use Rattle.elf_image.specs.declared.layout.Sizes.{Sizes}
use Rattle.elf_image.specs.declared.rows.Width.TheVariants.{Half, Word, Xword}
use Rattle.elf_image.specs.declared.rows.Wanted.TheVariants.{Is}
use Rattle.elf_image.specs.declared.headers.Section.{Section}
use Rattle.elf_image.specs.declared.parts.ImageParts.{ImageParts}
use Rattle.elf_image.specs.Rows.{number_at, meets, HasRows, rows_bytes, labels_size}
use Rattle.elf_image.specs.Layout.{text_offset, table_offset, values_offset, symbols_offset, strings_offset, labels_offset, sections_offset, machine_in, entry_in, sections_in, program_size, section_at, section_size, sizes_in, info_in}
use Rattle.elf_image.specs.Headers.{ident_rows, header_rows, program_rows, text_flags, table_flags, values_flags, section_rows, null_section, text_section, table_section, values_section, symbols_section, strings_section, labels_section}
use Rattle.elf_image.specs.Groups.{is_local}
use Rattle.elf_image.specs.Symbols.{null_symbol}
use Rattle.elf_image.specs.Parts.{group_of_part}
use Rattle.elf_image.specs.Written.{parts_bytes, symbol_bytes, locals_of, sizes_of, AreParts}
use Rattle.elf_image.proofs.LayoutLemmas.{AreBefore, ends_before}
use Rattle.elf_image.proofs.AllowLemmas.{machine_fits, header_allowed, program_allowed, section_allowed, symbols_small, names_small}
use Rattle.elf_image.proofs.LaidLemmas.{Laid}
use Rattle.elf_image.proofs.PartLemmas.{entry_fits, length_parts}
use Rattle.elf_image.proofs.StageLemmas.{section_size_meets}
use Rattle.elf_image.proofs.WrittenRowLemmas.{written_rows, first_rows, rest_rows}

-- where the headers stand
pub record Fronts (parts : ImageParts) (bytes : List ℕ) : Type 0 where
  pub ident : Stands bytes 0 (rows_bytes ident_rows)
  pub header : Stands bytes 16 (rows_bytes (header_rows (Is parts.machine) (Is parts.entry) (Is (sections_offset (sizes_of parts)))))
  pub text : Stands bytes 64 (rows_bytes (program_rows text_flags text_offset (Is (sizes_of parts).text) (Is (sizes_of parts).text)))
  pub table : Stands bytes 120 (rows_bytes (program_rows table_flags (table_offset (sizes_of parts)) (Is (sizes_of parts).table) (Is (sizes_of parts).table)))
  pub values : Stands bytes 176 (rows_bytes (program_rows values_flags (values_offset (sizes_of parts)) (Is (sizes_of parts).values) (Is (sizes_of parts).values)))

pub fronts : (parts : ImageParts) (bytes : List ℕ) → Laid parts bytes → Fronts parts bytes
fronts parts bytes laid =
    let sizes = sizes_of parts in
    let header = header_rows (Is parts.machine) (Is parts.entry) (Is (sections_offset (sizes_of parts))) in
    let text = program_rows text_flags text_offset (Is sizes.text) (Is sizes.text) in
    let table = program_rows table_flags (table_offset sizes) (Is sizes.table) (Is sizes.table) in
    let values = program_rows values_flags (values_offset sizes) (Is sizes.values) (Is sizes.values) in
    let four = first_rows bytes 0 (ident_rows ++ header ++ text ++ table) values laid.front in
    let three = first_rows bytes 0 (ident_rows ++ header ++ text) table four in
    let two = first_rows bytes 0 (ident_rows ++ header) text three in
    record {
      ident = first_rows bytes 0 ident_rows header two;
      header = rest_rows bytes 0 ident_rows header two;
      text = rest_rows bytes 0 (ident_rows ++ header) text three;
      table = rest_rows bytes 0 (ident_rows ++ header ++ text) table four;
      values = rest_rows bytes 0 (ident_rows ++ header ++ text ++ table) values laid.front;
    }

-- where the section headers stand
pub record Backs (parts : ImageParts) (bytes : List ℕ) : Type 0 where
  pub null : Stands bytes (sections_offset (sizes_of parts)) (rows_bytes (section_rows null_section))
  pub text : Stands bytes (sections_offset (sizes_of parts) + 64) (rows_bytes (section_rows (text_section text_offset (sizes_of parts).text)))
  pub table : Stands bytes (sections_offset (sizes_of parts) + 128) (rows_bytes (section_rows (table_section (table_offset (sizes_of parts)) (sizes_of parts).table)))
  pub values : Stands bytes (sections_offset (sizes_of parts) + 192) (rows_bytes (section_rows (values_section (values_offset (sizes_of parts)) (sizes_of parts).values)))
  pub symbols : Stands bytes (sections_offset (sizes_of parts) + 256)
      (rows_bytes (section_rows (symbols_section (symbols_offset (sizes_of parts)) (Is (sizes_of parts).symbols) (Is (locals_of parts.symbols)))))
  pub strings : Stands bytes (sections_offset (sizes_of parts) + 320) (rows_bytes (section_rows (strings_section (strings_offset (sizes_of parts)) (Is (sizes_of parts).strings))))
  pub labels : Stands bytes (sections_offset (sizes_of parts) + 384) (rows_bytes (section_rows (labels_section (labels_offset (sizes_of parts)) (Is labels_size))))

pub backs : (parts : ImageParts) (bytes : List ℕ) → Laid parts bytes → Backs parts bytes
backs parts bytes laid =
    let sizes = sizes_of parts in
    let at = sections_offset (sizes_of parts) in
    let null = section_rows null_section in
    let text = section_rows (text_section text_offset sizes.text) in
    let table = section_rows (table_section (table_offset sizes) sizes.table) in
    let values = section_rows (values_section (values_offset sizes) sizes.values) in
    let symbols = section_rows (symbols_section (symbols_offset sizes) (Is sizes.symbols) (Is (locals_of parts.symbols))) in
    let strings = section_rows (strings_section (strings_offset sizes) (Is sizes.strings)) in
    let labels = section_rows (labels_section (labels_offset sizes) (Is labels_size)) in
    let six = first_rows bytes at (null ++ text ++ table ++ values ++ symbols ++ strings) labels laid.sections in
    let five = first_rows bytes at (null ++ text ++ table ++ values ++ symbols) strings six in
    let four = first_rows bytes at (null ++ text ++ table ++ values) symbols five in
    let three = first_rows bytes at (null ++ text ++ table) values four in
    let two = first_rows bytes at (null ++ text) table three in
    record {
      null = first_rows bytes at null text two;
      text = rest_rows bytes at null text two;
      table = rest_rows bytes at (null ++ text) table three;
      values = rest_rows bytes at (null ++ text ++ table) values four;
      symbols = rest_rows bytes at (null ++ text ++ table ++ values) symbols five;
      strings = rest_rows bytes at (null ++ text ++ table ++ values ++ symbols) strings six;
      labels = rest_rows bytes at (null ++ text ++ table ++ values ++ symbols ++ strings) labels laid.sections;
    }

-- no part passes 2 ^ 32
pub record AreNear (parts : ImageParts) : Type 0 where
  pub before : AreBefore (sizes_of parts) (sections_offset (sizes_of parts))
  pub short : sections_offset (sizes_of parts) + 448 < 2 ^ 32
  pub locals : locals_of parts.symbols < 2 ^ 32

pub near : (parts : ImageParts) (bytes : List ℕ) → length bytes < 2 ^ 32 → Laid parts bytes → AreNear parts
unfolding symbol_bytes
near parts bytes short laid =
    let before = ends_before (sizes_of parts) in
    let long = laid.long in
    let counted = count_by-le-length (λ part. is_local (group_of_part part)) parts.symbols in
    let whole = length_parts 1 parts.symbols in
    let joined = length-append (rows_bytes null_symbol) (parts_bytes 1 parts.symbols) in
    record { before = before; short = omega arith; locals = omega arith }

-- what is read of the headers is what was written
pub record Found (parts : ImageParts) (bytes : List ℕ) : Type 0 where
  pub machine : machine_in bytes ≡ parts.machine
  pub entry : entry_in bytes ≡ parts.entry
  pub sections : sections_in bytes ≡ sections_offset (sizes_of parts)
  pub sizes : sizes_in bytes ≡ sizes_of parts
  pub info : info_in bytes ≡ locals_of parts.symbols

info_meets : (bytes : List ℕ) (at : ℕ) (section : Section)
    → HasRows bytes at (section_rows section) → IsTrue (meets section.info (number_at bytes (at + 44) Word))
info_meets bytes at section has =
    let P : ℕ → Type 0 = λ place. IsTrue (meets section.info (number_at bytes place Word)) in
    let same : at + 4 + 4 + 8 + 8 + 8 + 8 + 4 ≡ at + 44 = omega arith in
    subst P same has.1.1.1.1.1.1.1.0

program_found : (bytes : List ℕ) (at flags offset size : ℕ)
    → flags < 2 ^ 32 → offset < 2 ^ 32 → size < 2 ^ 32
    → Stands bytes at (rows_bytes (program_rows flags offset (Is size) (Is size))) → program_size bytes at ≡ size
program_found bytes at flags offset size a b c stands =
    let rows = written_rows bytes at (program_rows flags offset (Is size) (Is size)) (program_rows flags offset (Is size) (Is size))
    (program_allowed flags offset size (Is size) (Is size) a b c (eq-eqb size size refl) (eq-eqb size size refl)) stands in
    let P : ℕ → Type 0 = λ place. number_at bytes place Xword ≡ size in
    let same : at + 4 + 4 + 8 + 8 + 8 ≡ at + 32 = omega arith in
    subst P same (eqb-true (number_at bytes (at + 4 + 4 + 8 + 8 + 8) Xword) size rows.1.1.1.1.1.0)

abbrev sizes_from : ℕ → ℕ → ℕ → ℕ → ℕ → Sizes
sizes_from text table values symbols strings = record { text = text; table = table; values = values; symbols = symbols; strings = strings }

made : (a a' b b' c c' d d' e e' : ℕ) → a ≡ a' → b ≡ b' → c ≡ c' → d ≡ d' → e ≡ e' → sizes_from a b c d e ≡ sizes_from a' b' c' d' e'
made a a' b b' c c' d d' e e' one two three four five = rw (one, two, three, four, five) refl

pub found : (parts : ImageParts) (bytes : List ℕ) → AreParts parts → length bytes < 2 ^ 32 → Laid parts bytes → Found parts bytes
found parts bytes are short laid =
    let all = near parts bytes short laid in
    let before = all.before in
    let front = fronts parts bytes laid in
    let back = backs parts bytes laid in
    let sizes = sizes_of parts in
    let fits : sections_offset (sizes_of parts) < 2 ^ 64 = omega arith in
    let rows = written_rows bytes 16 (header_rows (Is parts.machine) (Is parts.entry) (Is (sections_offset sizes)))
    (header_rows (Is parts.machine) (Is parts.entry) (Is (sections_offset sizes)))
    (header_allowed parts.machine parts.entry (sections_offset sizes) (Is parts.machine) (Is parts.entry) (Is (sections_offset sizes))
    (machine_fits parts.machine are.machine) (entry_fits parts.entry parts.symbols are.symbols are.entry) fits
    (eq-eqb parts.machine parts.machine refl) (eq-eqb parts.entry parts.entry refl) (eq-eqb (sections_offset sizes) (sections_offset sizes) refl))
    front.header in
    let sections : sections_in bytes ≡ sections_offset (sizes_of parts)
    = eqb-true (number_at bytes 40 Xword) (sections_offset (sizes_of parts)) rows.1.1.1.1.1.0 in
    let text : program_size bytes 64 ≡ length parts.text
    = program_found bytes 64 text_flags text_offset (length parts.text) (omega arith) (omega arith) (omega arith) front.text in
    let table : program_size bytes 120 ≡ length parts.table
    = program_found bytes 120 table_flags (table_offset (sizes_of parts)) (length parts.table) (omega arith) (omega arith) (omega arith) front.table in
    let values : program_size bytes 176 ≡ length parts.values
    = program_found bytes 176 values_flags (values_offset (sizes_of parts)) (length parts.values) (omega arith) (omega arith) (omega arith) front.values in
    let symbols_is = symbols_section (symbols_offset (sizes_of parts)) (Is (sizes_of parts).symbols) (Is (locals_of parts.symbols)) in
    let symbols_rows = written_rows bytes (section_at bytes 4) (section_rows symbols_is) (section_rows symbols_is)
    (section_allowed symbols_is (Is (sizes_of parts).symbols) (Is (locals_of parts.symbols))
    (symbols_small (symbols_offset (sizes_of parts)) (sizes_of parts).symbols (locals_of parts.symbols) (omega arith) (omega arith) all.locals)
    (eq-eqb (sizes_of parts).symbols (sizes_of parts).symbols refl) (eq-eqb (locals_of parts.symbols) (locals_of parts.symbols) refl))
    (stands_moved bytes (sections_offset (sizes_of parts) + 256) (section_at bytes 4) (rows_bytes (section_rows symbols_is)) (omega arith) back.symbols) in
    let strings_is = strings_section (strings_offset (sizes_of parts)) (Is (sizes_of parts).strings) in
    let strings_rows = written_rows bytes (section_at bytes 5) (section_rows strings_is) (section_rows strings_is)
    (section_allowed strings_is (Is (sizes_of parts).strings) (Is 0)
    (names_small 32 (strings_offset (sizes_of parts)) (sizes_of parts).strings (omega arith) (omega arith) (omega arith))
    (eq-eqb (sizes_of parts).strings (sizes_of parts).strings refl) refl)
    (stands_moved bytes (sections_offset (sizes_of parts) + 320) (section_at bytes 5) (rows_bytes (section_rows strings_is)) (omega arith) back.strings) in
    let symbols : section_size bytes (section_at bytes 4) ≡ (sizes_of parts).symbols
    = eqb-true (section_size bytes (section_at bytes 4)) (sizes_of parts).symbols (section_size_meets bytes (section_at bytes 4) symbols_is symbols_rows) in
    let strings : section_size bytes (section_at bytes 5) ≡ (sizes_of parts).strings
    = eqb-true (section_size bytes (section_at bytes 5)) (sizes_of parts).strings (section_size_meets bytes (section_at bytes 5) strings_is strings_rows) in
    record {
      machine = eqb-true (number_at bytes 18 Half) parts.machine rows.1.0;
      entry = eqb-true (number_at bytes 24 Xword) parts.entry rows.1.1.1.0;
      sections = sections;
      sizes = made (program_size bytes 64) (length parts.text) (program_size bytes 120) (length parts.table)
          (program_size bytes 176) (length parts.values) (section_size bytes (section_at bytes 4)) (sizes_of parts).symbols
          (section_size bytes (section_at bytes 5)) (sizes_of parts).strings text table values symbols strings;
      info = eqb-true (info_in bytes) (locals_of parts.symbols) (info_meets bytes (section_at bytes 4) symbols_is symbols_rows);
    }
