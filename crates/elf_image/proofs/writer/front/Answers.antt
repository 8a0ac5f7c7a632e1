use Rattle.std.proofs.Common.{◌++◌, ◌∙◌, ap}
use Rattle.elf_image.specs.declared.layout.Layout.{Layout}
use Rattle.elf_image.specs.declared.rows.Wanted.TheVariants.{Is}
use Rattle.elf_image.specs.Layout.{table_offset, values_offset, sections_offset}
use Rattle.elf_image.specs.Headers.{ident_rows, header_rows, program_rows}
use Rattle.elf_image.proofs.WriteLemmas.{rows_first, rows_pushed}
use Rattle.elf_image.proofs.writer.front.Goals as goal

pub returns : goal.returns
returns c =
    let sizes = c.args.sizes in
    let header = header_rows (Is c.args.machine) (Is c.args.entry) (Is (sections_offset sizes)) in
    let text = program_rows 5 4096 (Is sizes.text) (Is sizes.text) in
    let table = program_rows 4 (table_offset sizes) (Is sizes.table) (Is sizes.table) in
    let values = program_rows 6 (values_offset sizes) (Is sizes.values) (Is sizes.values) in
    let header_is = c.header_rows-header.ensures
    ∙ ap (λ machine. header_rows (Is machine) (Is c.args.entry) (Is c.args.layout.sections)) c.from.ensures
    ∙ ap (λ (l : Layout). header_rows (Is c.args.machine) (Is c.args.entry) (Is l.sections)) c.requires.layout in
    let table_is = c.program_rows-table.ensures ∙ ap (λ (l : Layout). program_rows 4 l.table (Is sizes.table) (Is sizes.table)) c.requires.layout in
    let values_is = c.program_rows-values.ensures ∙ ap (λ (l : Layout). program_rows 6 l.values (Is sizes.values) (Is sizes.values)) c.requires.layout in
    let one = rows_first c.new-bytes.result.items c.push_rows.new.bytes.items c.ident_rows.result ident_rows
    c.new-bytes.ensures.items c.in_ok-push_rows.ensures c.ident_rows.ensures in
    let two = rows_pushed c.push_rows.new.bytes.items c.push_rows-2.new.bytes.items ident_rows c.header_rows-header.result header
    one c.in_ok-push_rows-2.ensures header_is in
    let three = rows_pushed c.push_rows-2.new.bytes.items c.push_rows-3.new.bytes.items (ident_rows ++ header) c.program_rows-text.result text
    two c.in_ok-push_rows-3.ensures c.program_rows-text.ensures in
    let four = rows_pushed c.push_rows-3.new.bytes.items c.push_rows-4.new.bytes.items (ident_rows ++ header ++ text) c.program_rows-table.result table
    three c.in_ok-push_rows-4.ensures table_is in
    rows_pushed c.push_rows-4.new.bytes.items c.push_rows-5.new.bytes.items (ident_rows ++ header ++ text ++ table) c.program_rows-values.result values
    four c.in_ok-push_rows-5.ensures values_is
