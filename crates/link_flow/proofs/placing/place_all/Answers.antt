use Rattle.std.proofs.Common.{◌≡◌, Err, map, refl, arith, rules}
use Rattle.std.proofs.lemmas.Option.{slice_get_read}
use Rattle.link_build.specs.Functions.{seen}
use Rattle.unit_listing.specs.Kit.{kit_of}
use Rattle.link_flow.proofs.ListLemmas.{mapped_at}
use Rattle.link_flow.proofs.PlaceLemmas.{first_unplaced, of_unit, one_placed, sound_at}
use Rattle.link_flow.proofs.placing.place_all.Goals as goal

pub place_one-requires-clause-of_unit : goal.place_one-requires-clause-of_unit
place_one-requires-clause-of_unit g c =
    let kit = kit_of g.T.Processor.instructions g.T.Processor.fits g.T.Processor.MACHINE g.T.Processor.QUANTUM g.T.Processor.SHAPE g.T.Target.selection
    g.T.Target.aiming g.T.Target.entry g.T.Target.check g.T.Target.begins in
    let funcs = c.args.funcs.now in
    let number = c.loop-number.number in
    let func = c.index-funcs-number.result in
    let here = mapped_at seen funcs number func (slice_get_read funcs _ number func refl (omega arith) c.index-funcs-number.is) in
    of_unit kit c.requires.sound.0 (seen func) (sound_at kit c.requires.sound.0 (map seen funcs) number (seen func) c.requires.sound.1 here)

pub place_one-requires-clause-known : goal.place_one-requires-clause-known
place_one-requires-clause-known g c =
    let funcs = c.args.funcs.now in
    let number = c.loop-number.number in
    let func = c.index-funcs-number.result in
    let here = mapped_at seen funcs number func (slice_get_read funcs _ number func refl (omega arith) c.index-funcs-number.is) in
    c.loop-number.invariant.known number (seen func) here

pub loop-number-preserved : goal.loop-number-preserved
loop-number-preserved g c =
    let kit = kit_of g.T.Processor.instructions g.T.Processor.fits g.T.Processor.MACHINE g.T.Processor.QUANTUM g.T.Processor.SHAPE g.T.Target.selection
    g.T.Target.aiming g.T.Target.entry g.T.Target.check g.T.Target.begins in
    let funcs = c.args.funcs.now in
    let number = c.loop-number.number in
    let func = c.index-funcs-number.result in
    let here = mapped_at seen funcs number func (slice_get_read funcs _ number func refl (omega arith) c.index-funcs-number.is) in
    one_placed kit c.args.names.now c.args.addresses.now c.requires.sound.0 (map seen funcs) c.requires.sound.1 c.args.at.now number
    (seen func) c.in_ok-code.code c.loop-number.symbols c.place_one.new.symbols c.loop-number.codes.items c.push.new.items.items here
    c.in_ok-code.ensures.unit c.in_ok-code.ensures.found c.in_ok-code.ensures.code c.in_ok-push.ensures c.loop-number.invariant

pub returns-in_err-code-clause-unplaced : goal.returns-in_err-code-clause-unplaced
returns-in_err-code-clause-unplaced g c = λ no same real.
    let kit = kit_of g.T.Processor.instructions g.T.Processor.fits g.T.Processor.MACHINE g.T.Processor.QUANTUM g.T.Processor.SHAPE g.T.Target.selection
    g.T.Target.aiming g.T.Target.entry g.T.Target.check g.T.Target.begins in
    let funcs = c.args.funcs.now in
    let number = c.loop-number.number in
    let func = c.index-funcs-number.result in
    let here = mapped_at seen funcs number func (slice_get_read funcs _ number func refl (omega arith) c.index-funcs-number.is) in
    let told = rw same at c.from_residual.ensures.1 in
    let err : Err c.in_err-code.field-0.0 ≡ Err no = search rules in
    first_unplaced kit c.args.names.now c.args.addresses.now (map seen funcs) c.args.at.now number (seen func) c.loop-number.symbols
    c.loop-number.codes.items no c.requires.near here c.loop-number.invariant (c.in_err-code.ensures.far no err real)
