use Rattle.std.proofs.Common.{◌≡◌, ◌+◌, ◌*◌, ◌<◌, ◌^◌, List, length, Some, IsTrue, refl, sym, ◌∙◌, ap, subst, arith, rules}
use Rattle.std.specs.Prelude.{slice_get}
use Rattle.std.specs.List.{list_any}
use Rattle.elf_image.specs.declared.layout.Sizes.{Sizes}
use Rattle.elf_image.specs.declared.parts.SymbolPart.{SymbolPart}
use Rattle.elf_image.specs.declared.parts.ImageParts.{ImageParts}
use Rattle.elf_image.specs.Parts.{is_entry}
use Rattle.elf_image.specs.Written.{symbol_bytes, string_bytes, sizes_of}
use Rattle.link_symbols.specs.Table.{symbols_of, names_length}
use Rattle.link_tests.proofs.PartsLemmas.{made_parts}
use Rattle.link_tests.proofs.symbols_tests.image_of.Goals as goal

pub write-requires : goal.write-requires
write-requires c =
    let functions = c.args.functions.now in
    let values = c.args.values.now in
    let outside = c.args.outside.now in
    let symbols = c.new.result in
    let count = length functions + length values + length outside in
    let sizes : Sizes = record { text = 128; table = 168; values = 40; symbols = 24 * (1 + count); strings = c.names_size-strings.result } in
    let parts : ImageParts = record {
      machine = 62;
      entry = c.in-Some.first.now.at;
      text = c.in_ok-from_slice.field-0;
      table = c.in_ok-from_slice-2.field-0;
      values = c.in_ok-from_slice-3.field-0;
      symbols = c.new.result;
    } in
    let listed : c.new.result ≡ c.in_ok-symbols_of.field-0.items = c.new.ensures in
    let told : c.new.result ≡ symbols_of functions values outside = c.new.ensures ∙ c.in_ok-symbols_of.ensures.symbols in
    let first : slice_get c.args.functions.now 0 ≡ Some c.in-Some.first.now = search rules in
    let entry : IsTrue (list_any (is_entry c.in-Some.first.now.at) c.new.result)
    = rw listed (c.in_ok-symbols_of.ensures.entry 0 c.in-Some.first.now first) in
    let table : length (symbol_bytes c.new.result) ≡ 24 * (1 + count) = ap (λ all. length (symbol_bytes all)) told ∙ c.symbol_laws.ensures.table functions values outside in
    let strings : length (string_bytes c.new.result) ≡ 1 + names_length functions values outside
    = ap (λ all. length (string_bytes all)) told ∙ c.symbol_laws.ensures.strings functions values outside in
    let size = c.names_size-strings.ensures in
    let near = c.if-strings-ge-LIMIT.false in
    let same_strings : length (string_bytes c.new.result) ≡ c.names_size-strings.result = omega (arith, strings, size, near) in
    let text : length c.in_ok-from_slice.field-0 ≡ 128 = ap length c.in_ok-from_slice.ensures in
    let second : length c.in_ok-from_slice-2.field-0 ≡ 168 = ap length c.in_ok-from_slice-2.ensures in
    let third : length c.in_ok-from_slice-3.field-0 ≡ 40 = ap length c.in_ok-from_slice-3.ensures in
    let same : sizes_of parts ≡ sizes = rw (text, second, third, table, same_strings) refl in
    let short = c.if-image_size-ge-LIMIT.false in
    made_parts parts sizes refl (rw listed c.in_ok-symbols_of.ensures.parts) (rw listed c.in_ok-symbols_of.ensures.order) entry
    (c.image_lengths.ensures.image parts) same (omega (arith, c.image_size.ensures, short))
