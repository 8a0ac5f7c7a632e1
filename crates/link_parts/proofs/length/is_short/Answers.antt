use Rattle.std.proofs.Common.{◌+◌, length, arith, ◌∙◌, refl}
use Rattle.link_parts.proofs.LengthLemmas.{counted_is, few_symbols, judged, judged_long}
use Rattle.link_parts.proofs.length.is_short.Goals as goal

pub returns-then-strings-gt-MOST_BYTES : goal.returns-then-strings-gt-MOST_BYTES
returns-then-strings-gt-MOST_BYTES c =
    judged_long c.args.text c.args.table c.args.data_size c.args.functions.now c.args.values.now c.args.outside.now
    c.names_size-strings.result c.names_size-strings.ensures c.if-strings-gt-MOST_BYTES.true

pub image_size-size-requires-clause-symbols : goal.image_size-size-requires-clause-symbols
image_size-size-requires-clause-symbols c =
    omega (
      arith,
      c.names_size-strings.ensures,
      c.if-strings-gt-MOST_BYTES.false,
      few_symbols c.args.functions.now c.args.values.now c.args.outside.now,
    )

pub returns : goal.returns
returns c =
    let functions = c.args.functions.now in
    let values = c.args.values.now in
    let outside = c.args.outside.now in
    let count = 1 + length functions + length values + length outside in
    judged c.args.text c.args.table c.args.data_size functions values outside c.image_size-size.result
    (c.image_size-size.ensures
    ∙ counted_is c.args.text c.args.table c.args.data_size functions values outside count c.names_size-strings.result refl
    c.names_size-strings.ensures c.if-strings-gt-MOST_BYTES.false)
