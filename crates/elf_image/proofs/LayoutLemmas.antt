-- Each part ends before the next one, and all before the section headers.
use Rattle.std.proofs.Common.{ℕ, ◌<◌, ◌≤◌, ◌^◌, arith}
use Rattle.byte_layout.proofs.JoinedLemmas.{aligned-le, aligned_near}
use Rattle.elf_image.specs.declared.layout.Sizes.{Sizes}
use Rattle.elf_image.specs.Layout.{text_end, table_offset, table_end, values_offset, values_end, symbols_offset, symbols_end, strings_offset, strings_end, labels_offset, labels_end, sections_offset}

pub record AreBefore (sizes : Sizes) (end : ℕ) : Type 0 where
  pub text : text_end sizes ≤ table_offset sizes
  pub table : table_end sizes ≤ values_offset sizes
  pub values : values_end sizes ≤ symbols_offset sizes
  pub symbols : symbols_end sizes ≤ strings_offset sizes
  pub strings : strings_end sizes ≤ labels_offset sizes
  pub labels : labels_end sizes ≤ end

pub ends_before : (sizes : Sizes) → AreBefore sizes (sections_offset sizes)
ends_before sizes = record {
  text = aligned-le 4096 (text_end sizes);
  table = aligned-le 4096 (table_end sizes);
  values = aligned-le 8 (values_end sizes);
  symbols = aligned-le 8 (symbols_end sizes);
  strings = aligned-le 8 (strings_end sizes);
  labels = aligned-le 8 (labels_end sizes);
}

-- the loaded parts end where the values do
pub record AreLoaded (sizes : Sizes) (end : ℕ) : Type 0 where
  pub text : text_end sizes ≤ table_offset sizes
  pub table : table_end sizes ≤ values_offset sizes
  pub values : values_offset sizes ≤ end

pub loaded_before : (sizes : Sizes) → AreLoaded sizes (values_end sizes)
loaded_before sizes = record {
  text = aligned-le 4096 (text_end sizes);
  table = aligned-le 4096 (table_end sizes);
  values = omega arith;
}

-- parts of fewer than 2 ^ 32 bytes each leave the section headers near
pub sections_near : (sizes : Sizes)
    → sizes.text < 2 ^ 32 → sizes.table < 2 ^ 32 → sizes.values < 2 ^ 32 → sizes.symbols < 2 ^ 32 → sizes.strings < 2 ^ 32
    → sections_offset sizes < 2 ^ 63
sections_near sizes a b c d e =
    let one = aligned_near 4096 (text_end sizes) (omega arith) in
    let two = aligned_near 4096 (table_end sizes) (omega arith) in
    let three = aligned_near 8 (values_end sizes) (omega arith) in
    let four = aligned_near 8 (symbols_end sizes) (omega arith) in
    let five = aligned_near 8 (strings_end sizes) (omega arith) in
    let six = aligned_near 8 (labels_end sizes) (omega arith) in
    omega arith
