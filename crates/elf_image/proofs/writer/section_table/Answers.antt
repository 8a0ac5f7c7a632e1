use Rattle.std.proofs.Common.{◌++◌, ◌∙◌, ap}
use Rattle.elf_image.specs.declared.layout.Layout.{Layout}
use Rattle.elf_image.specs.declared.rows.Wanted.TheVariants.{Is}
use Rattle.elf_image.specs.Layout.{table_offset, values_offset, symbols_offset, strings_offset, labels_offset}
use Rattle.elf_image.specs.Headers.{section_rows, null_section, text_section, table_section, values_section, symbols_section, strings_section, labels_section}
use Rattle.elf_image.proofs.WriteLemmas.{rows_first, rows_pushed}
use Rattle.elf_image.proofs.writer.section_table.Goals as goal

pub returns : goal.returns
returns c =
    let sizes = c.args.sizes in
    let null = section_rows null_section in
    let text = section_rows (text_section 4096 sizes.text) in
    let table = section_rows (table_section (table_offset sizes) sizes.table) in
    let values = section_rows (values_section (values_offset sizes) sizes.values) in
    let symbols = section_rows (symbols_section (symbols_offset sizes) (Is sizes.symbols) (Is c.args.locals)) in
    let strings = section_rows (strings_section (strings_offset sizes) (Is sizes.strings)) in
    let labels = section_rows (labels_section (labels_offset sizes) (Is 50)) in
    let table_is = c.table_section-table.ensures ∙ ap (λ (l : Layout). table_section l.table sizes.table) c.requires.layout in
    let values_is = c.values_section-values.ensures ∙ ap (λ (l : Layout). values_section l.values sizes.values) c.requires.layout in
    let symbols_is = c.symbols_section-symbols.ensures
    ∙ ap (λ (l : Layout). symbols_section l.symbols (Is sizes.symbols) (Is c.args.locals)) c.requires.layout in
    let strings_is = c.strings_section-strings.ensures ∙ ap (λ (l : Layout). strings_section l.strings (Is sizes.strings)) c.requires.layout in
    let labels_is = c.labels_section-labels.ensures ∙ ap (λ (l : Layout). labels_section l.labels (Is 50)) c.requires.layout in
    let one = rows_first c.new-bytes.result.items c.push_section.new.bytes.items (section_rows c.null_section.result) null
    c.new-bytes.ensures.items c.in_ok-push_section.ensures (ap section_rows c.null_section.ensures) in
    let two = rows_pushed c.push_section.new.bytes.items c.push_section-2.new.bytes.items null (section_rows c.text_section-text.result) text
    one c.in_ok-push_section-2.ensures (ap section_rows c.text_section-text.ensures) in
    let three = rows_pushed c.push_section-2.new.bytes.items c.push_section-3.new.bytes.items (null ++ text)
    (section_rows c.table_section-table.result) table two c.in_ok-push_section-3.ensures (ap section_rows table_is) in
    let four = rows_pushed c.push_section-3.new.bytes.items c.push_section-4.new.bytes.items (null ++ text ++ table)
    (section_rows c.values_section-values.result) values three c.in_ok-push_section-4.ensures (ap section_rows values_is) in
    let five = rows_pushed c.push_section-4.new.bytes.items c.push_section-5.new.bytes.items (null ++ text ++ table ++ values)
    (section_rows c.symbols_section-symbols.result) symbols four c.in_ok-push_section-5.ensures (ap section_rows symbols_is) in
    let six = rows_pushed c.push_section-5.new.bytes.items c.push_section-6.new.bytes.items (null ++ text ++ table ++ values ++ symbols)
    (section_rows c.strings_section-strings.result) strings five c.in_ok-push_section-6.ensures (ap section_rows strings_is) in
    rows_pushed c.push_section-6.new.bytes.items c.push_section-7.new.bytes.items (null ++ text ++ table ++ values ++ symbols ++ strings)
    (section_rows c.labels_section-labels.result) labels six c.in_ok-push_section-7.ensures (ap section_rows labels_is)
