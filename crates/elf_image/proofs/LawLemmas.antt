-- An image that was written is an image, and tells its parts.
use Rattle.std.proofs.Common.{◌≡◌, ℕ, ◌+◌, ◌-◌, ◌*◌, ◌%◌, ◌<◌, ◌≤◌, ◌^◌, ◌&&◌, true, nat_eq, nat_le, List, [], ◌∷◌, length, take, drop, slice_index, map, filter, None, refl, sym, ◌∙◌, ap, subst, arith, length-append}
use Rattle.std.specs.Prelude.{replicate}
use Rattle.std.specs.List.{flat_map}
use Rattle.std.proofs.lemmas.Bool.{eq-eqb, le-leb, and_from}
use Rattle.byte_layout.specs.Stands.{Stands}
use Rattle.byte_layout.proofs.JoinedLemmas.{aligned_whole}
use Rattle.byte_layout.proofs.StandsLemmas.{stands_all, stands_front, stands_back, stands_moved, stands_is}
use Rattle.elf_image.specs.declared.layout.Sizes.{Sizes}
use Rattle.elf_image.specs.declared.rows.Wanted.TheVariants.{Any, Is, Machine, Within, Entries, Labels}
use Rattle.elf_image.specs.declared.parts.ImageParts.{ImageParts}
use Rattle.elf_image.specs.Rows.{HasRows, rows_bytes, byte_rows, labels_size}
use Rattle.elf_image.specs.Layout.{text_offset, text_end, table_offset, table_end, values_offset, values_end, symbols_offset, symbols_end, strings_offset, strings_end, labels_offset, labels_end, sections_offset, labels, entry_in, sections_in, program_size, section_at, sizes_in}
use Rattle.elf_image.specs.Headers.{ident_rows, header_rows, program_rows, text_flags, table_flags, values_flags, section_rows, null_section, text_section, table_section, values_section, symbols_section, strings_section, labels_section}
use Rattle.elf_image.specs.Symbols.{null_symbol, first_reading, HasSymbols}
use Rattle.elf_image.specs.Image.{HasHeader, HasProgram, HasPrograms, HasSectionsPlace, HasSections, HasZeros, HasGaps, names_in, count_in, symbols_start, ReadsSymbols, HasSymbolTable, IsImage}
use Rattle.elf_image.specs.Written.{parts_bytes, symbol_bytes, name_bytes, string_bytes, locals_of, sizes_of, image_bytes, AreParts}
use Rattle.elf_image.specs.Contents.{symbol_places, lies_outside, symbol_at, outside_in, Tells}
use Rattle.elf_image.proofs.AllowLemmas.{ident_allowed, header_allowed, machine_fits, program_allowed, section_allowed, null_small, loaded_small, symbols_small, names_small}
use Rattle.elf_image.proofs.LaidLemmas.{Laid, laid}
use Rattle.elf_image.proofs.FoundLemmas.{Fronts, fronts, Backs, backs, AreNear, near, Found, found}
use Rattle.elf_image.proofs.PartLemmas.{parts_reading, parts_read, outside_read, parts_end, length_parts, entry_fits}
use Rattle.elf_image.proofs.WrittenRowLemmas.{Allow, written_rows, bytes_stand}

null_allowed : Allow null_symbol null_symbol
null_allowed = (
  refl,
  (
    omega arith,
    (
      refl,
      (
        refl,
        (
          omega arith,
          (
            refl,
            (
              refl,
              (
                omega arith,
                (
                  refl,
                  (
                    refl,
                    (
                      omega arith,
                      (
                        refl,
                        (
                          refl,
                          (
                            omega arith,
                            (
                              refl,
                              (refl, (omega arith, (refl, tt))),
                            ),
                          ),
                        ),
                      ),
                    ),
                  ),
                ),
              ),
            ),
          ),
        ),
      ),
    ),
  ),
)

module _ (parts : ImageParts) (bytes : List ℕ) (are : AreParts parts) (short : length bytes < 2 ^ 32) (is_laid : Laid parts bytes) where
  all_near : AreNear parts
  all_near = near parts bytes short is_laid

  all_found : Found parts bytes
  all_found = found parts bytes are short is_laid

  front : Fronts parts bytes
  front = fronts parts bytes is_laid

  back : Backs parts bytes
  back = backs parts bytes is_laid

  has_header : HasHeader bytes
  has_header =
      let bounds = all_near in
      let before = bounds.before in
      let long = is_laid.long in
      let fits : sections_offset (sizes_of parts) < 2 ^ 64 = omega arith in
      record {
        long = omega arith;
        ident = written_rows bytes 0 ident_rows ident_rows ident_allowed front.ident;
        fields = written_rows bytes 16 (header_rows Machine Any Any)
            (header_rows (Is parts.machine) (Is parts.entry) (Is (sections_offset (sizes_of parts))))
            (header_allowed parts.machine parts.entry (sections_offset (sizes_of parts)) Machine Any Any
            (machine_fits parts.machine are.machine) (entry_fits parts.entry parts.symbols are.symbols are.entry) fits
            are.machine refl refl)
            front.header;
      }

  -- a part that is loaded
  has_program : (at flags offset size : ℕ) → flags < 2 ^ 32 → offset < 2 ^ 32 → size < 2 ^ 32 → offset + size ≤ length bytes
      → program_size bytes at ≡ size → Stands bytes at (rows_bytes (program_rows flags offset (Is size) (Is size)))
      → HasProgram bytes at flags offset
  has_program at flags offset size a b c within read stands =
      written_rows bytes at (program_rows flags offset (Within offset (length bytes)) (Is (program_size bytes at)))
      (program_rows flags offset (Is size) (Is size))
      (program_allowed flags offset size (Within offset (length bytes)) (Is (program_size bytes at)) a b c
      (le-leb (offset + size) (length bytes) within) (eq-eqb size (program_size bytes at) (sym read))) stands

  has_programs : HasPrograms bytes
  has_programs =
      let bounds = all_near in
      let before = bounds.before in
      let long = is_laid.long in
      let is = all_found in
      let T : Sizes → Type 0 = λ sizes. HasProgram bytes 120 table_flags (table_offset sizes) in
      let V : Sizes → Type 0 = λ sizes. HasProgram bytes 176 values_flags (values_offset sizes) in
      record {
        long = omega arith;
        text = has_program 64 text_flags text_offset (length parts.text) (omega arith) (omega arith) (omega arith) (omega arith)
            (ap (λ sizes. sizes.text) is.sizes) front.text;
        table = subst T (sym is.sizes)
            (has_program 120 table_flags (table_offset (sizes_of parts)) (length parts.table) (omega arith) (omega arith) (omega arith) (omega arith)
            (ap (λ sizes. sizes.table) is.sizes) front.table);
        values = subst V (sym is.sizes)
            (has_program 176 values_flags (values_offset (sizes_of parts)) (length parts.values) (omega arith) (omega arith) (omega arith) (omega arith)
            (ap (λ sizes. sizes.values) is.sizes) front.values);
      }

  has_place : HasSectionsPlace bytes
  has_place =
      let bounds = all_near in
      let before = bounds.before in
      let long = is_laid.long in
      let is = all_found in
      let end : values_end (sizes_in bytes) ≡ values_end (sizes_of parts) = ap values_end is.sizes in
      let place = is.sections in
      record {
        whole = ap (λ n. n % 8) is.sections ∙ aligned_whole 8 (labels_end (sizes_of parts)) (omega arith);
        behind = omega arith;
        within = omega arith;
      }

  symbols_size : (sizes_of parts).symbols ≡ 24 + 24 * length parts.symbols
  unfolding symbol_bytes rows_bytes
  symbols_size =
      let rest = length_parts 1 parts.symbols in
      length-append (rows_bytes null_symbol) (parts_bytes 1 parts.symbols) ∙ ap (λ n. 24 + n) rest

  has_sections : HasSections bytes
  has_sections =
      let bounds = all_near in
      let before = bounds.before in
      let long = is_laid.long in
      let is = all_found in
      let place = is.sections in
      let sizes = sizes_of parts in
      let whole = symbols_size in
      let text_is = text_section text_offset sizes.text in
      let table_is = table_section (table_offset sizes) sizes.table in
      let values_is = values_section (values_offset sizes) sizes.values in
      let symbols_is = symbols_section (symbols_offset sizes) (Is sizes.symbols) (Is (locals_of parts.symbols)) in
      let strings_is = strings_section (strings_offset sizes) (Is sizes.strings) in
      let labels_is = labels_section (labels_offset sizes) (Is labels_size) in
      let X : Sizes → Type 0 = λ s. HasRows bytes (section_at bytes 1) (section_rows (text_section text_offset s.text)) in
      let T : Sizes → Type 0 = λ s. HasRows bytes (section_at bytes 2) (section_rows (table_section (table_offset s) s.table)) in
      let V : Sizes → Type 0 = λ s. HasRows bytes (section_at bytes 3) (section_rows (values_section (values_offset s) s.values)) in
      let S : Sizes → Type 0 = λ s.
      HasRows bytes (section_at bytes 4) (section_rows (symbols_section (symbols_offset s) (Entries (symbols_offset s) (sections_in bytes)) Any)) in
      let N : Sizes → Type 0 = λ s.
      HasRows bytes (section_at bytes 5) (section_rows (strings_section (strings_offset s) (Within (strings_offset s) (sections_in bytes)))) in
      let L : Sizes → Type 0 = λ s.
      HasRows bytes (section_at bytes 6) (section_rows (labels_section (labels_offset s) (Labels (labels_offset s) (sections_in bytes)))) in
      let symbols_end_fits : nat_le (symbols_offset (sizes_of parts) + (sizes_of parts).symbols) (sections_in bytes) ≡ true
      = le-leb (symbols_offset (sizes_of parts) + (sizes_of parts).symbols) (sections_in bytes) (omega arith) in
      let some : nat_le 24 (sizes_of parts).symbols ≡ true = le-leb 24 (sizes_of parts).symbols (omega arith) in
      let entries : nat_eq ((sizes_of parts).symbols % 24) 0 ≡ true = eq-eqb ((sizes_of parts).symbols % 24) 0 (omega arith) in
      record {
        null = written_rows bytes (section_at bytes 0) (section_rows null_section) (section_rows null_section)
            (section_allowed null_section (Is 0) (Is 0) null_small refl refl)
            (stands_moved bytes (sections_offset (sizes_of parts)) (section_at bytes 0) (rows_bytes (section_rows null_section)) (omega arith) back.null);
        text = subst X (sym is.sizes)
            (written_rows bytes (section_at bytes 1) (section_rows text_is) (section_rows text_is)
            (section_allowed text_is (Is (length parts.text)) (Is 0)
            (loaded_small 1 6 text_offset (length parts.text) 16 (omega arith) (omega arith) (omega arith) (omega arith) (omega arith))
            (eq-eqb (length parts.text) (length parts.text) refl) refl)
            (stands_moved bytes (sections_offset (sizes_of parts) + 64) (section_at bytes 1) (rows_bytes (section_rows text_is)) (omega arith) back.text));
        table = subst T (sym is.sizes)
            (written_rows bytes (section_at bytes 2) (section_rows table_is) (section_rows table_is)
            (section_allowed table_is (Is (length parts.table)) (Is 0)
            (loaded_small 7 2 (table_offset (sizes_of parts)) (length parts.table) 8 (omega arith) (omega arith) (omega arith) (omega arith) (omega arith))
            (eq-eqb (length parts.table) (length parts.table) refl) refl)
            (stands_moved bytes (sections_offset (sizes_of parts) + 128) (section_at bytes 2) (rows_bytes (section_rows table_is)) (omega arith) back.table));
        values = subst V (sym is.sizes)
            (written_rows bytes (section_at bytes 3) (section_rows values_is) (section_rows values_is)
            (section_allowed values_is (Is (length parts.values)) (Is 0)
            (loaded_small 18 3 (values_offset (sizes_of parts)) (length parts.values) 16 (omega arith) (omega arith) (omega arith) (omega arith) (omega arith))
            (eq-eqb (length parts.values) (length parts.values) refl) refl)
            (stands_moved bytes (sections_offset (sizes_of parts) + 192) (section_at bytes 3) (rows_bytes (section_rows values_is)) (omega arith) back.values));
        symbols = subst S (sym is.sizes)
            (written_rows bytes (section_at bytes 4)
            (section_rows (symbols_section (symbols_offset (sizes_of parts)) (Entries (symbols_offset (sizes_of parts)) (sections_in bytes)) Any))
            (section_rows symbols_is)
            (section_allowed symbols_is (Entries (symbols_offset (sizes_of parts)) (sections_in bytes)) Any
            (symbols_small (symbols_offset (sizes_of parts)) (sizes_of parts).symbols (locals_of parts.symbols) (omega arith) (omega arith) bounds.locals)
            (and_from (nat_le (symbols_offset (sizes_of parts) + (sizes_of parts).symbols) (sections_in bytes) && nat_le 24 (sizes_of parts).symbols)
            (nat_eq ((sizes_of parts).symbols % 24) 0)
            (and_from (nat_le (symbols_offset (sizes_of parts) + (sizes_of parts).symbols) (sections_in bytes)) (nat_le 24 (sizes_of parts).symbols)
            symbols_end_fits some) entries) refl)
            (stands_moved bytes (sections_offset (sizes_of parts) + 256) (section_at bytes 4) (rows_bytes (section_rows symbols_is)) (omega arith) back.symbols));
        strings = subst N (sym is.sizes)
            (written_rows bytes (section_at bytes 5)
            (section_rows (strings_section (strings_offset (sizes_of parts)) (Within (strings_offset (sizes_of parts)) (sections_in bytes))))
            (section_rows strings_is)
            (section_allowed strings_is (Within (strings_offset (sizes_of parts)) (sections_in bytes)) (Is 0)
            (names_small 32 (strings_offset (sizes_of parts)) (sizes_of parts).strings (omega arith) (omega arith) (omega arith))
            (le-leb (strings_offset (sizes_of parts) + (sizes_of parts).strings) (sections_in bytes) (omega arith)) refl)
            (stands_moved bytes (sections_offset (sizes_of parts) + 320) (section_at bytes 5) (rows_bytes (section_rows strings_is)) (omega arith) back.strings));
        labels = subst L (sym is.sizes)
            (written_rows bytes (section_at bytes 6)
            (section_rows (labels_section (labels_offset (sizes_of parts)) (Labels (labels_offset (sizes_of parts)) (sections_in bytes))))
            (section_rows labels_is)
            (section_allowed labels_is (Labels (labels_offset (sizes_of parts)) (sections_in bytes)) (Is 0)
            (names_small 40 (labels_offset (sizes_of parts)) labels_size (omega arith) (omega arith) (omega arith))
            (and_from (nat_le (labels_offset (sizes_of parts) + 50) (sections_in bytes)) true
            (le-leb (labels_offset (sizes_of parts) + 50) (sections_in bytes) (omega arith)) refl) refl)
            (stands_moved bytes (sections_offset (sizes_of parts) + 384) (section_at bytes 6) (rows_bytes (section_rows labels_is)) (omega arith) back.labels));
        next = is.sections ∙ ap sections_offset (sym is.sizes);
      }

  zeros : (from to : ℕ) → Stands bytes from (replicate (to - from) 0) → HasZeros bytes from to
  zeros from to stands = bytes_stand bytes from (replicate (to - from) 0) stands

  has_gaps : HasGaps bytes
  has_gaps =
      let is = all_found in
      let X : Sizes → Type 0 = λ s. HasZeros bytes (text_end s) (table_offset s) in
      let T : Sizes → Type 0 = λ s. HasZeros bytes (table_end s) (values_offset s) in
      let V : Sizes → Type 0 = λ s. HasZeros bytes (values_end s) (symbols_offset s) in
      let S : Sizes → Type 0 = λ s. HasZeros bytes (symbols_end s) (strings_offset s) in
      let N : Sizes → Type 0 = λ s. HasZeros bytes (strings_end s) (labels_offset s) in
      let L : Sizes → Type 0 = λ s. HasRows bytes (labels_offset s) (byte_rows labels) in
      let E : Sizes → Type 0 = λ s. HasZeros bytes (labels_end s) (sections_in bytes) in
      let P : ℕ → Type 0 = λ to. HasZeros bytes (labels_end (sizes_of parts)) to in
      record {
        headers = zeros 232 4096 is_laid.front_gap;
        text = subst X (sym is.sizes) (zeros (text_end (sizes_of parts)) (table_offset (sizes_of parts)) is_laid.text_gap);
        table = subst T (sym is.sizes) (zeros (table_end (sizes_of parts)) (values_offset (sizes_of parts)) is_laid.table_gap);
        values = subst V (sym is.sizes) (zeros (values_end (sizes_of parts)) (symbols_offset (sizes_of parts)) is_laid.values_gap);
        symbols = subst S (sym is.sizes) (zeros (symbols_end (sizes_of parts)) (strings_offset (sizes_of parts)) is_laid.symbols_gap);
        strings = subst N (sym is.sizes) (zeros (strings_end (sizes_of parts)) (labels_offset (sizes_of parts)) is_laid.strings_gap);
        labels = subst L (sym is.sizes) (bytes_stand bytes (labels_offset (sizes_of parts)) labels is_laid.labels);
        sections = subst E (sym is.sizes)
            (subst P (sym is.sections) (zeros (labels_end (sizes_of parts)) (sections_offset (sizes_of parts)) is_laid.labels_gap));
      }

  names_are : names_in bytes ≡ string_bytes parts.symbols
  names_are =
      ap (λ s. take s.strings (drop (strings_offset s) bytes)) all_found.sizes
      ∙ stands_is bytes (string_bytes parts.symbols) (strings_offset (sizes_of parts)) is_laid.strings

  count_is : count_in bytes ≡ length parts.symbols
  count_is =
      let whole = symbols_size in
      let same : (sizes_in bytes).symbols ≡ (sizes_of parts).symbols = ap (λ s. s.symbols) all_found.sizes in
      omega arith

  start_is : symbols_start bytes ≡ symbols_offset (sizes_of parts) + 24
  start_is = ap (λ s. symbols_offset s + 24) all_found.sizes

  null_stands : Stands bytes (symbols_offset (sizes_of parts)) (rows_bytes null_symbol)
  unfolding symbol_bytes
  null_stands =
      stands_front bytes (symbols_offset (sizes_of parts)) (rows_bytes null_symbol) (parts_bytes 1 parts.symbols) is_laid.symbols

  others_stand : Stands bytes (symbols_start bytes) (parts_bytes 1 parts.symbols)
  unfolding symbol_bytes rows_bytes
  others_stand =
      stands_moved bytes (symbols_offset (sizes_of parts) + 24) (symbols_start bytes) (parts_bytes 1 parts.symbols) (sym start_is)
      (stands_back bytes (symbols_offset (sizes_of parts)) (rows_bytes null_symbol) (parts_bytes 1 parts.symbols) is_laid.symbols)

  names_stand : Stands (names_in bytes) 1 (flat_map name_bytes parts.symbols)
  unfolding string_bytes
  names_stand =
      let P : List ℕ → Type 0 = λ names. Stands names 1 (flat_map name_bytes parts.symbols) in
      let all = 0 ∷ flat_map name_bytes parts.symbols in
      subst P (sym names_are)
      (stands_back (0 ∷ flat_map name_bytes parts.symbols) 0 (0 ∷ []) (flat_map name_bytes parts.symbols)
      (stands_all (0 ∷ flat_map name_bytes parts.symbols)))

  names_near : 1 + length (flat_map name_bytes parts.symbols) ≤ 2 ^ 32
  unfolding string_bytes
  names_near =
      let bounds = all_near in
      let before = bounds.before in
      omega arith

  length_all_names : length (names_in bytes) ≡ 1 + length (flat_map name_bytes parts.symbols)
  unfolding string_bytes
  length_all_names = omega (arith, ap length names_are)

  first_name : slice_index (names_in bytes) 0 ≡ 0
  unfolding string_bytes
  first_name = ap (λ names. slice_index names 0) names_are

  all_read : ReadsSymbols bytes (parts_reading (entry_in bytes) first_reading parts.symbols)
  all_read =
      let C : ℕ → Type 0 = λ count.
      HasSymbols (names_in bytes) bytes (entry_in bytes) count first_reading (symbols_start bytes)
      (parts_reading (entry_in bytes) first_reading parts.symbols) in
      subst C (sym count_is)
      (parts_read (names_in bytes) bytes (entry_in bytes) None parts.symbols first_reading (symbols_start bytes)
      (refl, refl) are.symbols are.order others_stand names_stand names_near)

  has_symbols : HasSymbolTable bytes
  has_symbols =
      let is = all_found in
      let ends = parts_end (entry_in bytes) first_reading parts.symbols in
      let N : Sizes → Type 0 = λ s. HasRows bytes (symbols_offset s) null_symbol in
      let longer = length_all_names in
      record {
        null = subst N (sym is.sizes) (written_rows bytes (symbols_offset (sizes_of parts)) null_symbol null_symbol null_allowed null_stands);
        last = parts_reading (entry_in bytes) first_reading parts.symbols;
        symbols = all_read;
        ends = record {
          locals = is.info ∙ sym ends.locals;
          some = omega arith;
          zero = first_name;
          all = omega (arith, ends.place);
          entry = rw (ends.entered, is.entry) are.entry;
        };
      }

  is_image : IsImage bytes
  is_image =
      let long = is_laid.long in
      let place = all_found.sections in
      record {
        header = has_header;
        programs = has_programs;
        place = has_place;
        sections = has_sections;
        gaps = has_gaps;
        symbols = has_symbols;
        whole = omega arith;
      }

  all_told : Tells parts bytes
  unfolding outside_in
  all_told =
      let is = all_found in
      record {
        machine = is.machine;
        entry = is.entry;
        text = ap (λ s. take s.text (drop 4096 bytes)) is.sizes ∙ stands_is bytes parts.text 4096 is_laid.text;
        table = ap (λ s. take s.table (drop (table_offset s) bytes)) is.sizes ∙ stands_is bytes parts.table (table_offset (sizes_of parts)) is_laid.table;
        values = ap (λ s. take s.values (drop (values_offset s) bytes)) is.sizes ∙ stands_is bytes parts.values (values_offset (sizes_of parts)) is_laid.values;
        outside = ap (λ count. map (symbol_at bytes) (filter (lies_outside bytes) (symbol_places count (symbols_start bytes)))) count_is
            ∙ outside_read (names_in bytes) bytes (entry_in bytes) parts.symbols (symbols_start bytes) 1 are.symbols others_stand names_stand names_near;
      }

-- parts that can be written give an image
pub written_image : (parts : ImageParts) (bytes : List ℕ) → AreParts parts → bytes ≡ image_bytes parts → IsImage bytes
written_image parts bytes are is =
    let P : List ℕ → Type 0 = λ all. IsImage all in
    subst P (sym is) (is_image parts (image_bytes parts) are are.short (laid parts))

-- that tells them
pub written_tells : (parts : ImageParts) (bytes : List ℕ) → AreParts parts → bytes ≡ image_bytes parts → Tells parts bytes
written_tells parts bytes are is =
    let P : List ℕ → Type 0 = λ all. Tells parts all in
    subst P (sym is) (all_told parts (image_bytes parts) are are.short (laid parts))
