use Rattle.std.proofs.Common.{◌≡◌, Some, Err, sym, subst, refl, arith, rules}
use Rattle.std.specs.List.{slice_get}
use Rattle.std.proofs.lemmas.List.Elements.{All-get_or}
use Rattle.std.proofs.lemmas.Option.{slice_get_read}
use Rattle.asm_parse.specs.Valid.{IsValidUnit}
use Rattle.unit_listing.specs.Joined.{HasAt}
use Rattle.unit_listing.specs.Kit.{kit_of}
use Rattle.unit_listing.specs.Listing.{IsUnitText}
use Rattle.unit_listing.proofs.JoinedLemmas.{item_more, one_more}
use Rattle.unit_listing.proofs.units.push_units.Goals as goal

pub push_unit-requires : goal.push_unit-requires
push_unit-requires g c =
    subst IsValidUnit (sym c.unit-item.is)
    (All-get_or IsValidUnit c.args.units.now c.loop-unit.unit-index c.unit-item.result (omega arith) c.requires.valid)

pub returns-in_err-push_unit-clause-refused : goal.returns-in_err-push_unit-clause-refused
returns-in_err-push_unit-clause-refused g c = λ no same real.
    let number = c.loop-unit.unit-index in
    let told = rw same at c.from_residual.ensures.1 in
    let err : Err c.in_err-push_unit.field-0.0 ≡ Err no = search rules in
    record {
      number = number;
      item = c.unit-item.result;
      here = slice_get_read c.args.units.now _ number c.unit-item.result refl (omega arith) c.unit-item.is;
      before = (c.loop-unit.invariant.0, c.loop-unit.invariant.1);
      refused = c.in_err-push_unit.ensures.refused no err real;
    }

pub loop-unit-preserved : goal.loop-unit-preserved
loop-unit-preserved g c =
    let kit = kit_of g.T.Processor.instructions g.T.Processor.fits g.T.Processor.MACHINE g.T.Processor.QUANTUM g.T.Processor.SHAPE g.T.Target.selection
    g.T.Target.aiming g.T.Target.entry g.T.Target.check g.T.Target.begins in
    let units = c.args.units.now in
    let number = c.loop-unit.unit-index in
    let here : slice_get units number ≡ Some c.unit-item.result =
    slice_get_read units _ number c.unit-item.result refl (omega arith) c.unit-item.is in
    one_more (HasAt (IsUnitText kit) units) number c.args.text.now c.loop-unit.text c.push_unit.new.text c.loop-unit.invariant
    (item_more (IsUnitText kit) units number c.unit-item.result c.loop-unit.text c.push_unit.new.text here c.in_ok-push_unit.ensures.text)
