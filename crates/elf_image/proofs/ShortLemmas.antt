-- How long an image is, and parts that are small enough for one below 2 ^ 32 bytes.
use Rattle.std.proofs.Common.{◌≡◌, ◌+◌, ◌*◌, ◌<◌, ◌≤◌, ◌^◌, List, [], ◌∷◌, length, refl, ◌∙◌, ap, arith, length-append}
use Rattle.std.specs.List.{flat_map, sum_by}
use Rattle.std.proofs.lemmas.List.Sums.{sum_by-cons}
use Rattle.byte_layout.proofs.JoinedLemmas.{aligned_near}
use Rattle.elf_image.specs.declared.parts.SymbolPart.{SymbolPart}
use Rattle.elf_image.specs.declared.parts.ImageParts.{ImageParts}
use Rattle.elf_image.specs.Rows.{rows_bytes}
use Rattle.elf_image.specs.Symbols.{null_symbol}
use Rattle.elf_image.specs.Layout.{text_end, table_end, values_end, symbols_end, strings_end, labels_end, image_length}
use Rattle.elf_image.specs.Written.{parts_bytes, symbol_bytes, name_bytes, string_bytes, sizes_of, image_bytes}
use Rattle.elf_image.proofs.LaidLemmas.{laid}
use Rattle.elf_image.proofs.PartLemmas.{length_parts}

pub length_symbols : (symbols : List SymbolPart) → length (symbol_bytes symbols) ≡ 24 * (1 + length symbols)
unfolding symbol_bytes rows_bytes
length_symbols symbols =
    let rest = length_parts 1 symbols in
    let both : length (symbol_bytes symbols) ≡ 24 + 24 * length symbols
    = length-append (rows_bytes null_symbol) (parts_bytes 1 symbols) ∙ ap (λ n. 24 + n) rest in
    omega arith

sum_names : (symbols : List SymbolPart) → length (flat_map name_bytes symbols) ≡ sum_by (λ symbol. length symbol.name + 1) symbols
sum_names [] = refl
sum_names (symbol ∷ symbols) =
    let rest = sum_names symbols in
    omega (
      arith,
      rest,
      length-append (name_bytes symbol) (flat_map name_bytes symbols),
      length-append symbol.name (0 ∷ []),
      sum_by-cons (λ (one : SymbolPart). length one.name + 1) symbol symbols,
    )

pub sum_strings : (symbols : List SymbolPart) → length (string_bytes symbols) ≡ 1 + sum_by (λ symbol. length symbol.name + 1) symbols
unfolding string_bytes
sum_strings symbols = omega (arith, sum_names symbols)

pub length_image : (parts : ImageParts) → length (image_bytes parts) ≡ image_length (sizes_of parts)
length_image parts = (laid parts).long

length_strings : (symbols : List SymbolPart) → length (string_bytes symbols) ≤ length (flat_map name_bytes symbols) + 1
unfolding string_bytes
length_strings symbols = omega arith

pub short_parts : (parts : ImageParts)
    → length parts.text + length parts.table + length parts.values + 24 * length parts.symbols + length (flat_map name_bytes parts.symbols) < 2 ^ 31
    → length (image_bytes parts) < 2 ^ 32
short_parts parts small =
    let sizes = sizes_of parts in
    let long = (laid parts).long in
    let symbols = length_symbols parts.symbols in
    let strings = length_strings parts.symbols in
    let one = aligned_near 4096 (text_end (sizes_of parts)) (omega arith) in
    let two = aligned_near 4096 (table_end (sizes_of parts)) (omega arith) in
    let three = aligned_near 8 (values_end (sizes_of parts)) (omega arith) in
    let four = aligned_near 8 (symbols_end (sizes_of parts)) (omega arith) in
    let five = aligned_near 8 (strings_end (sizes_of parts)) (omega arith) in
    let six = aligned_near 8 (labels_end (sizes_of parts)) (omega arith) in
    omega arith
