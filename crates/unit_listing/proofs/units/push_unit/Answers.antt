use Rattle.std.proofs.Common.{◌≡◌, List, Some, ap, sym, ◌∙◌, subst, refl, arith}
use Rattle.std.specs.List.{slice_get}
use Rattle.std.proofs.lemmas.Option.{slice_get_read}
use Rattle.asm_parse.specs.declared.unit.Symbol.{Symbol}
use Rattle.unit_listing.specs.Joined.{Appends, HasAt}
use Rattle.unit_listing.specs.Kit.{kit_of}
use Rattle.unit_listing.specs.Listing.{IsFunctionText}
use Rattle.unit_listing.proofs.JoinedLemmas.{item_more, one_more}
use Rattle.unit_listing.proofs.units.push_unit.Goals as goal

pub loop-func-preserved : goal.loop-func-preserved
loop-func-preserved g c =
    let kit = kit_of g.T.Processor.instructions g.T.Processor.fits g.T.Processor.MACHINE g.T.Processor.QUANTUM g.T.Processor.SHAPE g.T.Target.selection
    g.T.Target.aiming g.T.Target.entry g.T.Target.check g.T.Target.begins in
    let unit = c.args.unit.now in
    let number = c.loop-func.func-index in
    let here : slice_get unit.functions number ≡ Some c.func-item.result =
    ap (λ functions. slice_get functions number) (sym c.as_slice-functions.ensures)
    ∙ slice_get_read c.as_slice-functions.result.now _ number c.func-item.result refl (omega arith) c.func-item.is in
    let more = subst (λ (symbols : List Symbol). Appends (IsFunctionText kit symbols c.func-item.result) c.loop-func.text
    c.push_function.new.text) c.as_slice.ensures c.in_ok-push_function.ensures.text in
    one_more (HasAt (IsFunctionText kit unit.symbols) unit.functions) number c.args.text.now c.loop-func.text c.push_function.new.text
    c.loop-func.invariant
    (item_more (IsFunctionText kit unit.symbols) unit.functions number c.func-item.result c.loop-func.text c.push_function.new.text here more)
