use Rattle.std.proofs.Common.{◌≡◌, Err, refl, arith, rules}
use Rattle.std.proofs.lemmas.Option.{slice_get_read}
use Rattle.link_names.specs.declared.symbol_no.SymbolNo.TheVariants.{N2}
use Rattle.link_names.proofs.EachLemmas.{none_made, none_more, first_made}
use Rattle.link_functions.specs.References.{part_undefined}
use Rattle.link_functions.proofs.references.judge_parts.Goals as goal

pub loop-part-init : goal.loop-part-init
loop-part-init g c = none_made (part_undefined c.args.names.now c.args.unit c.args.symbols.now) c.args.parts.now

pub loop-part-preserved : goal.loop-part-preserved
loop-part-preserved g c =
    let number = c.loop-part.part-index in
    let here = slice_get_read c.args.parts.now _ number c.part-item.result refl (omega arith) c.part-item.is in
    none_more (part_undefined c.args.names.now c.args.unit c.args.symbols.now) c.args.parts.now number c.part-item.result here
    c.loop-part.invariant (c.in_ok-judge_part.ensures.defined number)

pub returns-in_err-judge_part-clause-first : goal.returns-in_err-judge_part-clause-first
returns-in_err-judge_part-clause-first g c = λ name same.
    let number = c.loop-part.part-index in
    let here = slice_get_read c.args.parts.now _ number c.part-item.result refl (omega arith) c.part-item.is in
    let told = rw same at c.from_residual.ensures.1 in
    let err : Err c.in_err-judge_part.field-0.0 ≡ Err (N2 name) = search rules in
    first_made (part_undefined c.args.names.now c.args.unit c.args.symbols.now) c.args.parts.now number c.part-item.result name here
    c.loop-part.invariant (c.in_err-judge_part.ensures.first number name err)
