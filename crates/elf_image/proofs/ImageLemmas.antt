-- The facts of an image, and its first fault.
use Rattle.std.proofs.Common.{◌≡◌, ◌∙◌, ℕ, ◌+◌, ◌-◌, ◌%◌, ◌≤◌, List, length, slice_index, None, Result, Ok, Err, refl, ap}
use Rattle.std.specs.Prelude.{replicate}
use Rattle.elf_image.specs.declared.fault.ImageNo.TheVariants.{I1, I2, I3, I4}
use Rattle.elf_image.specs.declared.rows.Wanted.TheVariants.{Any, Is, Machine, Within, Entries, Labels}
use Rattle.elf_image.specs.declared.headers.Section.{Section}
use Rattle.elf_image.specs.declared.symbols.Reading.{Reading}
use Rattle.elf_image.specs.Rows.{HasRows, byte_rows}
use Rattle.elf_image.specs.Layout.{header_size, headers_size, sections_size, text_offset, text_end, table_offset, table_end, values_offset, values_end, symbols_offset, symbols_end, strings_offset, strings_end, labels_offset, labels_end, sections_offset, sections_place, entry_place, labels, entry_in, sections_in, text_header, table_header, values_header, program_size, section_at, sizes_in, info_in, info_place}
use Rattle.elf_image.specs.Headers.{ident_rows, header_rows, program_rows, text_flags, table_flags, values_flags, section_rows, null_section, text_section, table_section, values_section, symbols_section, strings_section, labels_section}
use Rattle.elf_image.specs.Symbols.{null_symbol, first_reading, symbols_read}
use Rattle.elf_image.specs.Image.{HasHeader, HasProgram, HasPrograms, HasSectionsPlace, HasSections, HasZeros, HasGaps, names_in, count_in, symbols_start, ReadsSymbols, EndsWell, HasSymbolTable, IsImage}
use Rattle.elf_image.specs.Faults.{header_fault, program_fault, programs_fault, place_fault, section_fault, loaded_fault, described_fault, sections_fault, zeros_fault, labels_fault, gaps_fault, end_fault, read_fault, null_fault, others_fault, symbols_fault, length_fault, image_fault}
use Rattle.elf_image.proofs.AgreeLemmas.{Agree, both, tested, below, equal, begins, in_header, in_layout, in_field}
use Rattle.elf_image.proofs.SymbolLemmas.{symbols_told, symbols_none}

module _ (bytes : List ℕ) where
  header_agrees : Agree (HasHeader bytes) (header_fault bytes)
  unfolding header_fault
  header_agrees =
      let all = both _ _ (below header_size (length bytes) (I1 (length bytes)))
      (both _ _ (in_field bytes 0 ident_rows (I1 0))
      (in_header bytes 16 (header_rows Machine Any Any))) in
      record {
        told = λ is. (let facts = all.told is in record { long = facts.0; ident = facts.1.0; fields = facts.1.1 });
        none = λ has. all.none (has.long, (has.ident, has.fields));
      }

  program_agrees : (at flags offset : ℕ) → Agree (HasProgram bytes at flags offset) (program_fault bytes at flags offset)
  unfolding program_fault
  program_agrees at flags offset =
      in_layout bytes at (program_rows flags offset (Within offset (length bytes)) (Is (program_size bytes at)))

  programs_agree : Agree (HasPrograms bytes) (programs_fault bytes)
  unfolding programs_fault
  programs_agree =
      let all = both _ _ (below headers_size (length bytes) (I2 (length bytes)))
      (both _ _ (program_agrees text_header text_flags text_offset)
      (both _ _ (program_agrees table_header table_flags (table_offset (sizes_in bytes)))
      (program_agrees values_header values_flags (values_offset (sizes_in bytes))))) in
      record {
        told = λ is.
            (let facts = all.told is in
            record { long = facts.0; text = facts.1.0; table = facts.1.1.0; values = facts.1.1.1 });
        none = λ has. all.none (has.long, (has.text, (has.table, has.values)));
      }

  place_agrees : Agree (HasSectionsPlace bytes) (place_fault bytes)
  unfolding place_fault
  place_agrees =
      let all = both _ _ (equal (sections_in bytes % 8) 0 (I2 sections_place))
      (both _ _ (below (values_end (sizes_in bytes)) (sections_in bytes) (I2 sections_place))
      (below (sections_in bytes + sections_size) (length bytes) (I2 sections_place))) in
      record {
        told = λ is. (let facts = all.told is in record { whole = facts.0; behind = facts.1.0; within = facts.1.1 });
        none = λ has. all.none (has.whole, (has.behind, has.within));
      }

  section_agrees : (at : ℕ) (section : Section) → Agree (HasRows bytes at (section_rows section)) (section_fault bytes at section)
  unfolding section_fault
  section_agrees at section = in_layout bytes at (section_rows section)

  sections_agree : Agree (HasSections bytes) (sections_fault bytes)
  unfolding sections_fault loaded_fault described_fault
  sections_agree =
      let loaded = both _ _ (section_agrees (section_at bytes 0) null_section)
      (both _ _ (section_agrees (section_at bytes 1) (text_section text_offset (sizes_in bytes).text))
      (both _ _ (section_agrees (section_at bytes 2) (table_section (table_offset (sizes_in bytes)) (sizes_in bytes).table))
      (section_agrees (section_at bytes 3) (values_section (values_offset (sizes_in bytes)) (sizes_in bytes).values)))) in
      let described = both _ _ (section_agrees (section_at bytes 4)
      (symbols_section (symbols_offset (sizes_in bytes)) (Entries (symbols_offset (sizes_in bytes)) (sections_in bytes)) Any))
      (both _ _ (section_agrees (section_at bytes 5)
      (strings_section (strings_offset (sizes_in bytes)) (Within (strings_offset (sizes_in bytes)) (sections_in bytes))))
      (section_agrees (section_at bytes 6)
      (labels_section (labels_offset (sizes_in bytes)) (Labels (labels_offset (sizes_in bytes)) (sections_in bytes))))) in
      let all = both _ _ loaded (both _ _ described (equal (sections_in bytes) (sections_offset (sizes_in bytes)) (I2 sections_place))) in
      record {
        told = λ is.
            (let facts = all.told is in
            record {
              null = facts.0.0;
              text = facts.0.1.0;
              table = facts.0.1.1.0;
              values = facts.0.1.1.1;
              symbols = facts.1.0.0;
              strings = facts.1.0.1.0;
              labels = facts.1.0.1.1;
              next = facts.1.1;
            });
        none = λ has.
            all.none
            ((has.null, (has.text, (has.table, has.values))), ((has.symbols, (has.strings, has.labels)), has.next));
      }

  zeros_agree : (from to : ℕ) → Agree (HasZeros bytes from to) (zeros_fault bytes from to)
  unfolding zeros_fault
  zeros_agree from to = in_layout bytes from (byte_rows (replicate (to - from) 0))

  labels_agree : (at : ℕ) → Agree (HasRows bytes at (byte_rows labels)) (labels_fault bytes at)
  unfolding labels_fault
  labels_agree at = in_layout bytes at (byte_rows labels)

  gaps_agree : Agree (HasGaps bytes) (gaps_fault bytes)
  unfolding gaps_fault
  gaps_agree =
      let all = both _ _ (zeros_agree headers_size text_offset)
      (both _ _ (zeros_agree (text_end (sizes_in bytes)) (table_offset (sizes_in bytes)))
      (both _ _ (zeros_agree (table_end (sizes_in bytes)) (values_offset (sizes_in bytes)))
      (both _ _ (zeros_agree (values_end (sizes_in bytes)) (symbols_offset (sizes_in bytes)))
      (both _ _ (zeros_agree (symbols_end (sizes_in bytes)) (strings_offset (sizes_in bytes)))
      (both _ _ (zeros_agree (strings_end (sizes_in bytes)) (labels_offset (sizes_in bytes)))
      (both _ _ (labels_agree (labels_offset (sizes_in bytes)))
      (zeros_agree (labels_end (sizes_in bytes)) (sections_in bytes)))))))) in
      record {
        told = λ is.
            (let facts = all.told is in
            record {
              headers = facts.0;
              text = facts.1.0;
              table = facts.1.1.0;
              values = facts.1.1.1.0;
              symbols = facts.1.1.1.1.0;
              strings = facts.1.1.1.1.1.0;
              labels = facts.1.1.1.1.1.1.0;
              sections = facts.1.1.1.1.1.1.1;
            });
        none = λ has.
            all.none
            (has.headers, (has.text, (has.table, (has.values, (has.symbols, (has.strings, (has.labels, has.sections)))))));
      }

  end_agrees : (last : Reading) → Agree (EndsWell bytes last) (end_fault bytes last)
  unfolding end_fault
  end_agrees last =
      let all = both _ _ (equal (info_in bytes) last.locals (I3 (info_place bytes)))
      (both _ _ (begins 1 (length (names_in bytes)) (slice_index (names_in bytes) 0) 0 (I3 (strings_offset (sizes_in bytes))))
      (both _ _ (below (length (names_in bytes)) last.place (I3 (strings_offset (sizes_in bytes) + last.place)))
      (tested last.entered (I3 entry_place)))) in
      record {
        told = λ is.
            (let facts = all.told is in
            record { locals = facts.0; some = facts.1.0.0; zero = facts.1.0.1; all = facts.1.1.0; entry = facts.1.1.1 });
        none = λ has. all.none (has.locals, ((has.some, has.zero), (has.all, has.entry)));
      }

  -- the symbols are read to an end at which nothing is at fault
  record HasOthers : Type 0 where
    last : Reading
    symbols : ReadsSymbols bytes last
    ends : EndsWell bytes last

  others_from : (read : Result Reading ℕ) → read_fault bytes read ≡ None → (last : Reading) × ((read ≡ Ok last) × (end_fault bytes last ≡ None))
  others_from (Ok last) is = (last, (refl, is))
  others_from (Err at) is = cc

  others_agree : Agree HasOthers (others_fault bytes)
  unfolding others_fault
  others_agree = record {
    told = λ is.
        (let found = others_from (symbols_read (names_in bytes) bytes (entry_in bytes) (count_in bytes) first_reading (symbols_start bytes)) is in
        record {
          last = found.0;
          symbols = symbols_told (names_in bytes) bytes (entry_in bytes) (count_in bytes) first_reading (symbols_start bytes) found.0 found.1.0;
          ends = (end_agrees found.0).told found.1.1;
        });
    none = λ has.
        (let read = symbols_none (names_in bytes) bytes (entry_in bytes) (count_in bytes) first_reading (symbols_start bytes) has.last has.symbols in
        ap (read_fault bytes) read ∙ (end_agrees has.last).none has.ends);
  }

  null_agrees : Agree (HasRows bytes (symbols_offset (sizes_in bytes)) null_symbol) (null_fault bytes)
  unfolding null_fault
  null_agrees = in_field bytes (symbols_offset (sizes_in bytes)) null_symbol (I3 (symbols_offset (sizes_in bytes)))

  symbols_agree : Agree (HasSymbolTable bytes) (symbols_fault bytes)
  unfolding symbols_fault
  symbols_agree =
      let all = both _ _ null_agrees others_agree in
      record {
        told = λ is.
            (let facts = all.told is in
            record { null = facts.0; last = facts.1.last; symbols = facts.1.symbols; ends = facts.1.ends });
        none = λ has. all.none (has.null, record { last = has.last; symbols = has.symbols; ends = has.ends });
      }

  length_agrees : Agree (length bytes ≤ sections_in bytes + sections_size) (length_fault bytes)
  unfolding length_fault
  length_agrees = below (length bytes) (sections_in bytes + sections_size) (I4 (sections_in bytes + sections_size))

  image_agrees : Agree (IsImage bytes) (image_fault bytes)
  unfolding image_fault
  image_agrees =
      let all = both _ _ header_agrees
      (both _ _ programs_agree
      (both _ _ place_agrees
      (both _ _ sections_agree
      (both _ _ gaps_agree
      (both _ _ symbols_agree length_agrees))))) in
      record {
        told = λ is.
            (let facts = all.told is in
            record {
              header = facts.0;
              programs = facts.1.0;
              place = facts.1.1.0;
              sections = facts.1.1.1.0;
              gaps = facts.1.1.1.1.0;
              symbols = facts.1.1.1.1.1.0;
              whole = facts.1.1.1.1.1.1;
            });
        none = λ has.
            all.none
            (has.header, (has.programs, (has.place, (has.sections, (has.gaps, (has.symbols, has.whole))))));
      }

-- bytes without a fault are an image
pub image_told : (bytes : List ℕ) → image_fault bytes ≡ None → IsImage bytes
image_told bytes is = (image_agrees bytes).told is

-- and an image has none
pub image_none : (bytes : List ℕ) → IsImage bytes → image_fault bytes ≡ None
image_none bytes is = (image_agrees bytes).none is
