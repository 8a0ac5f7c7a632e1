use Rattle.std.proofs.Common.{◌≡◌, Err, length, refl, sym, subst, arith, rules}
use Rattle.std.proofs.lemmas.Option.{slice_get_read}
use Rattle.unit_listing.specs.Kit.{kit_of}
use Rattle.link_functions.specs.Kept.{kept}
use Rattle.link_functions.proofs.PartLemmas.{HasBelow, first_below, has_more, has_none}
use Rattle.link_functions.proofs.laying.lay_functions.Goals as goal

pub loop-number-init : goal.loop-number-init
loop-number-init g c =
    let kit = kit_of g.T.Processor.instructions g.T.Processor.fits g.T.Processor.MACHINE g.T.Processor.QUANTUM g.T.Processor.SHAPE g.T.Target.selection
    g.T.Target.aiming g.T.Target.entry g.T.Target.check g.T.Target.begins in
    let symbols = length c.args.symbols.now in
    let make = kept c.args.names.now c.args.unit c.args.symbols.now in
    subst (HasBelow kit symbols make c.args.functions.now 0) (sym c.new-parts.ensures.items) (has_none kit symbols make c.args.functions.now)

pub loop-number-preserved : goal.loop-number-preserved
loop-number-preserved g c =
    let kit = kit_of g.T.Processor.instructions g.T.Processor.fits g.T.Processor.MACHINE g.T.Processor.QUANTUM g.T.Processor.SHAPE g.T.Target.selection
    g.T.Target.aiming g.T.Target.entry g.T.Target.check g.T.Target.begins in
    let symbols = length c.args.symbols.now in
    let make = kept c.args.names.now c.args.unit c.args.symbols.now in
    let functions = c.args.functions.now in
    let number = c.loop-number.number in
    let function = c.index-functions-number.result in
    let here = slice_get_read functions _ number function refl (omega arith) c.index-functions-number.is in
    has_more kit symbols make functions number function c.loop-number.parts.items c.push_part.new.parts.items here c.loop-number.invariant
    c.in_ok-push_part.ensures.adds

pub returns-in_err-push_part-clause-refused : goal.returns-in_err-push_part-clause-refused
returns-in_err-push_part-clause-refused g c = λ no same real.
    let kit = kit_of g.T.Processor.instructions g.T.Processor.fits g.T.Processor.MACHINE g.T.Processor.QUANTUM g.T.Processor.SHAPE g.T.Target.selection
    g.T.Target.aiming g.T.Target.entry g.T.Target.check g.T.Target.begins in
    let symbols = length c.args.symbols.now in
    let make = kept c.args.names.now c.args.unit c.args.symbols.now in
    let functions = c.args.functions.now in
    let number = c.loop-number.number in
    let function = c.index-functions-number.result in
    let here = slice_get_read functions _ number function refl (omega arith) c.index-functions-number.is in
    let told = rw same at c.from_residual.ensures.1 in
    let err : Err c.in_err-push_part.field-0.0 ≡ Err no = search rules in
    first_below kit make functions symbols number function c.loop-number.parts.items no here c.loop-number.invariant
    (c.in_err-push_part.ensures.refused no err real)
