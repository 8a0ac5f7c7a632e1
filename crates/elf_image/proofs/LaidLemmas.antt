-- Where the parts of a written image stand.
use Rattle.std.proofs.Common.{◌≡◌, ℕ, ◌+◌, ◌-◌, List, [], ◌∷◌, length, refl, arith}
use Rattle.std.specs.Prelude.{replicate}
use Rattle.byte_layout.specs.Stands.{Stands}
use Rattle.byte_layout.specs.Joined.{aligned, joined, places, ends}
use Rattle.byte_layout.proofs.JoinedLemmas.{joined_front, joined_stands, joined_gap, length-joined}
use Rattle.byte_layout.proofs.StandsLemmas.{stands_all}
use Rattle.elf_image.specs.declared.parts.ImageParts.{ImageParts}
use Rattle.elf_image.specs.Rows.{rows_bytes}
use Rattle.elf_image.specs.Layout.{text_end, table_offset, table_end, values_offset, values_end, symbols_offset, symbols_end, strings_offset, strings_end, labels_offset, labels_end, sections_offset, labels}
use Rattle.elf_image.specs.Written.{symbol_bytes, string_bytes, sizes_of, front_rows, all_sections, image_bytes}
use Rattle.elf_image.proofs.WrittenRowLemmas.{length_rows}

pub record Laid (parts : ImageParts) (bytes : List ℕ) : Type 0 where
  pub front : Stands bytes 0 (rows_bytes (front_rows parts))
  pub text : Stands bytes 4096 parts.text
  pub table : Stands bytes (table_offset (sizes_of parts)) parts.table
  pub values : Stands bytes (values_offset (sizes_of parts)) parts.values
  pub symbols : Stands bytes (symbols_offset (sizes_of parts)) (symbol_bytes parts.symbols)
  pub strings : Stands bytes (strings_offset (sizes_of parts)) (string_bytes parts.symbols)
  pub labels : Stands bytes (labels_offset (sizes_of parts)) labels
  pub sections : Stands bytes (sections_offset (sizes_of parts)) (rows_bytes (all_sections parts))
  pub front_gap : Stands bytes 232 (replicate (4096 - 232) 0)
  pub text_gap : Stands bytes (text_end (sizes_of parts)) (replicate (table_offset (sizes_of parts) - text_end (sizes_of parts)) 0)
  pub table_gap : Stands bytes (table_end (sizes_of parts)) (replicate (values_offset (sizes_of parts) - table_end (sizes_of parts)) 0)
  pub values_gap : Stands bytes (values_end (sizes_of parts)) (replicate (symbols_offset (sizes_of parts) - values_end (sizes_of parts)) 0)
  pub symbols_gap : Stands bytes (symbols_end (sizes_of parts)) (replicate (strings_offset (sizes_of parts) - symbols_end (sizes_of parts)) 0)
  pub strings_gap : Stands bytes (strings_end (sizes_of parts)) (replicate (labels_offset (sizes_of parts) - strings_end (sizes_of parts)) 0)
  pub labels_gap : Stands bytes (labels_end (sizes_of parts)) (replicate (sections_offset (sizes_of parts) - labels_end (sizes_of parts)) 0)
  pub long : length bytes ≡ sections_offset (sizes_of parts) + 448

first_page : aligned 4096 232 ≡ 4096
unfolding aligned
first_page = refl

length_labels : length labels ≡ 50
unfolding labels
length_labels = refl

length_front : (parts : ImageParts) → length (rows_bytes (front_rows parts)) ≡ 232
length_front parts = length_rows (front_rows parts)

-- three parts at multiples of 4096, behind headers
record Three (all one two three : List ℕ) (table_at values_at end : ℕ) : Type 0 where
  text : Stands all 4096 one
  table : Stands all table_at two
  values : Stands all values_at three
  front_gap : Stands all 232 (replicate (4096 - 232) 0)
  text_gap : Stands all (4096 + length one) (replicate (table_at - (4096 + length one)) 0)
  table_gap : Stands all (table_at + length two) (replicate (values_at - (table_at + length two)) 0)
  long : length all ≡ end

three : (front text table values : List ℕ) → length front ≡ 232
    → Three (joined 4096 front (text ∷ table ∷ values ∷ [])) text table values
    (aligned 4096 (4096 + length text)) (aligned 4096 (aligned 4096 (4096 + length text) + length table))
    (aligned 4096 (aligned 4096 (4096 + length text) + length table) + length values)
unfolding places ends
three front text table values is =
    record {
      text = rw first_page at (joined_stands 4096 232 front (text ∷ table ∷ values ∷ []) 0 is (omega arith));
      table = rw first_page at (joined_stands 4096 232 front (text ∷ table ∷ values ∷ []) 1 is (omega arith));
      values = rw first_page at (joined_stands 4096 232 front (text ∷ table ∷ values ∷ []) 2 is (omega arith));
      front_gap = rw first_page at (joined_gap 4096 232 front (text ∷ table ∷ values ∷ []) 0 is (omega arith));
      text_gap = rw first_page at (joined_gap 4096 232 front (text ∷ table ∷ values ∷ []) 1 is (omega arith));
      table_gap = rw first_page at (joined_gap 4096 232 front (text ∷ table ∷ values ∷ []) 2 is (omega arith));
      long = rw first_page at (length-joined 4096 232 front (text ∷ table ∷ values ∷ []) is);
    }

-- four parts at multiples of 8, behind those
record Four (all one two three four : List ℕ) (start symbols_at strings_at labels_at sections_at end : ℕ) : Type 0 where
  symbols : Stands all symbols_at one
  strings : Stands all strings_at two
  labels : Stands all labels_at three
  sections : Stands all sections_at four
  values_gap : Stands all start (replicate (symbols_at - start) 0)
  symbols_gap : Stands all (symbols_at + length one) (replicate (strings_at - (symbols_at + length one)) 0)
  strings_gap : Stands all (strings_at + length two) (replicate (labels_at - (strings_at + length two)) 0)
  labels_gap : Stands all (labels_at + length three) (replicate (sections_at - (labels_at + length three)) 0)
  long : length all ≡ end

four : (front symbols strings labels sections : List ℕ) (start : ℕ) → length front ≡ start
    → let symbols_at = aligned 8 start in
    let strings_at = aligned 8 (symbols_at + length symbols) in
    let labels_at = aligned 8 (strings_at + length strings) in
    let sections_at = aligned 8 (labels_at + length labels) in
    Four (joined 8 front (symbols ∷ strings ∷ labels ∷ sections ∷ [])) symbols strings labels sections
    start symbols_at strings_at labels_at sections_at (sections_at + length sections)
unfolding places ends
four front symbols strings labels sections start is =
    record {
      symbols = joined_stands 8 start front (symbols ∷ strings ∷ labels ∷ sections ∷ []) 0 is (omega arith);
      strings = joined_stands 8 start front (symbols ∷ strings ∷ labels ∷ sections ∷ []) 1 is (omega arith);
      labels = joined_stands 8 start front (symbols ∷ strings ∷ labels ∷ sections ∷ []) 2 is (omega arith);
      sections = joined_stands 8 start front (symbols ∷ strings ∷ labels ∷ sections ∷ []) 3 is (omega arith);
      values_gap = joined_gap 8 start front (symbols ∷ strings ∷ labels ∷ sections ∷ []) 0 is (omega arith);
      symbols_gap = joined_gap 8 start front (symbols ∷ strings ∷ labels ∷ sections ∷ []) 1 is (omega arith);
      strings_gap = joined_gap 8 start front (symbols ∷ strings ∷ labels ∷ sections ∷ []) 2 is (omega arith);
      labels_gap = joined_gap 8 start front (symbols ∷ strings ∷ labels ∷ sections ∷ []) 3 is (omega arith);
      long = length-joined 8 start front (symbols ∷ strings ∷ labels ∷ sections ∷ []) is;
    }

pub laid : (parts : ImageParts) → Laid parts (image_bytes parts)
unfolding image_bytes
laid parts =
    let front = rows_bytes (front_rows parts) in
    let inner = joined 4096 front (parts.text ∷ parts.table ∷ parts.values ∷ []) in
    let symbols = symbol_bytes parts.symbols in
    let strings = string_bytes parts.symbols in
    let sections = rows_bytes (all_sections parts) in
    let one = three front parts.text parts.table parts.values (length_front parts) in
    let all = four inner symbols strings labels sections (values_end (sizes_of parts)) one.long in
    let kept : (at : ℕ) (part : List ℕ) → Stands inner at part → Stands (joined 8 inner (symbols ∷ strings ∷ labels ∷ sections ∷ [])) at part
    = λ at part. joined_front 8 at inner part (symbols ∷ strings ∷ labels ∷ sections ∷ []) in
    record {
      front = kept 0 front (joined_front 4096 0 front front (parts.text ∷ parts.table ∷ parts.values ∷ []) (stands_all front));
      text = kept _ _ one.text;
      table = kept _ _ one.table;
      values = kept _ _ one.values;
      symbols = all.symbols;
      strings = all.strings;
      labels = all.labels;
      sections = rw length_labels at all.sections;
      front_gap = kept _ _ one.front_gap;
      text_gap = kept _ _ one.text_gap;
      table_gap = kept _ _ one.table_gap;
      values_gap = all.values_gap;
      symbols_gap = all.symbols_gap;
      strings_gap = all.strings_gap;
      labels_gap = rw length_labels at all.labels_gap;
      long = rw (length_labels, length_rows (all_sections parts)) at all.long;
    }
