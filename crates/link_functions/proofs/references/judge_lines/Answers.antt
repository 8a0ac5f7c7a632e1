use Rattle.std.proofs.Common.{◌≡◌, Err, refl, arith, rules}
use Rattle.std.proofs.lemmas.Option.{slice_get_read}
use Rattle.link_names.specs.declared.symbol_no.SymbolNo.TheVariants.{N2}
use Rattle.link_names.proofs.EachLemmas.{none_made, none_more, first_made}
use Rattle.link_functions.specs.References.{line_undefined}
use Rattle.link_functions.proofs.references.judge_lines.Goals as goal

pub loop-line-init : goal.loop-line-init
loop-line-init g c = none_made (line_undefined c.args.names.now c.args.unit c.args.symbols.now c.args.flags) c.args.lines.now

pub loop-line-preserved : goal.loop-line-preserved
loop-line-preserved g c =
    let number = c.loop-line.line-index in
    let here = slice_get_read c.args.lines.now _ number c.line-item.result refl (omega arith) c.line-item.is in
    none_more (line_undefined c.args.names.now c.args.unit c.args.symbols.now c.args.flags) c.args.lines.now number c.line-item.result here
    c.loop-line.invariant c.in_ok-judge_refer.ensures.defined

pub returns-in_err-judge_refer-clause-first : goal.returns-in_err-judge_refer-clause-first
returns-in_err-judge_refer-clause-first g c = λ name same.
    let number = c.loop-line.line-index in
    let here = slice_get_read c.args.lines.now _ number c.line-item.result refl (omega arith) c.line-item.is in
    let told = rw same at c.from_residual.ensures.1 in
    let err : Err c.in_err-judge_refer.field-0.0 ≡ Err (N2 name) = search rules in
    first_made (line_undefined c.args.names.now c.args.unit c.args.symbols.now c.args.flags) c.args.lines.now number c.line-item.result name here
    c.loop-line.invariant (c.in_err-judge_refer.ensures.first name err)
