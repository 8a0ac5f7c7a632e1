use Rattle.std.proofs.Common.{◌≡◌, Err, refl, sym, subst, arith, rules}
use Rattle.std.proofs.lemmas.List.Elements.{All-get_or}
use Rattle.std.proofs.lemmas.Option.{slice_get_read}
use Rattle.asm_parse.specs.Valid.{IsValidUnit}
use Rattle.unit_listing.specs.Kit.{kit_of}
use Rattle.link_functions.proofs.PartLemmas.{HasUnits, first_unit, no_units, units_more}
use Rattle.link_functions.proofs.laying.lay_all.Goals as goal

pub loop-number-init : goal.loop-number-init
loop-number-init g c =
    let kit = kit_of g.T.Processor.instructions g.T.Processor.fits g.T.Processor.MACHINE g.T.Processor.QUANTUM g.T.Processor.SHAPE g.T.Target.selection
    g.T.Target.aiming g.T.Target.entry g.T.Target.check g.T.Target.begins in
    subst (HasUnits kit c.args.names.now c.args.units.now 0) (sym c.new-code.ensures.items) (no_units kit c.args.names.now c.args.units.now)

pub loop-number-preserved : goal.loop-number-preserved
loop-number-preserved g c =
    let kit = kit_of g.T.Processor.instructions g.T.Processor.fits g.T.Processor.MACHINE g.T.Processor.QUANTUM g.T.Processor.SHAPE g.T.Target.selection
    g.T.Target.aiming g.T.Target.entry g.T.Target.check g.T.Target.begins in
    let units = c.args.units.now in
    let number = c.loop-number.number in
    let unit = c.index-units-number.result in
    let here = slice_get_read units _ number unit refl (omega arith) c.index-units-number.is in
    let valid = subst IsValidUnit (sym c.index-units-number.is) (All-get_or IsValidUnit units number unit (omega arith) c.requires.valid) in
    units_more kit c.args.names.now units number unit c.loop-number.code.items c.push_unit.new.code.items here valid
    c.loop-number.invariant c.in_ok-push_unit.ensures.laid

pub returns-in_err-push_unit-clause-refused : goal.returns-in_err-push_unit-clause-refused
returns-in_err-push_unit-clause-refused g c = λ no same real.
    let kit = kit_of g.T.Processor.instructions g.T.Processor.fits g.T.Processor.MACHINE g.T.Processor.QUANTUM g.T.Processor.SHAPE g.T.Target.selection
    g.T.Target.aiming g.T.Target.entry g.T.Target.check g.T.Target.begins in
    let units = c.args.units.now in
    let number = c.loop-number.number in
    let unit = c.index-units-number.result in
    let here = slice_get_read units _ number unit refl (omega arith) c.index-units-number.is in
    let told = rw same at c.from_residual.ensures.1 in
    let err : Err c.in_err-push_unit.field-0.0 ≡ Err no = search rules in
    first_unit kit c.args.names.now units number unit c.loop-number.code.items no here c.loop-number.invariant
    (c.in_err-push_unit.ensures.refused no err real)

pub push_unit-requires : goal.push_unit-requires
push_unit-requires g c =
    subst IsValidUnit (sym c.index-units-number.is)
    (All-get_or IsValidUnit c.args.units.now c.loop-number.number c.index-units-number.result (omega arith) c.requires.valid)
