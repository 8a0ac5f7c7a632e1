use Rattle.std.proofs.Common.{◌+◌, length, map, get_or, sym, ap, ◌∙◌, subst, arith}
use Rattle.std.specs.Prelude.{All}
use Rattle.std.proofs.lemmas.List.{length-map}
use Rattle.asm_parse.specs.Valid.{IsValidUnit}
use Rattle.link_build.specs.Functions.{seen}
use Rattle.link_names.specs.Definitions.{MeansAs, entries_of}
use Rattle.link_values.specs.Values.{values_end}
use Rattle.unit_listing.specs.Kit.{kit_of}
use Rattle.image_link.proofs.StandingLemmas.{near_first, place_there}
use Rattle.image_link.proofs.WritingLemmas.{can_write, known_machine}
use Rattle.image_link.proofs.writing.write_image.Goals as goal

pub bounds-as_slice-number : goal.bounds-as_slice-number
bounds-as_slice-number g c =
    let kit = kit_of g.T.Processor.instructions g.T.Processor.fits g.T.Processor.MACHINE g.T.Processor.QUANTUM g.T.Processor.SHAPE g.T.Target.selection
    g.T.Target.aiming g.T.Target.entry g.T.Target.check g.T.Target.begins in
    place_there kit c.args.build.now c.args.names.now c.args.code.now c.args.fitted c.requires.fit (map seen c.args.funcs.now) c.requires.functions
    c.as_slice.result.now c.as_slice.ensures c.find_entry-number.result
    (omega (arith, c.find_entry-number.ensures.within, length-map c.args.funcs.now seen))

pub overflow_add-entry : goal.overflow_add-entry
overflow_add-entry g c =
    let kit = kit_of g.T.Processor.instructions g.T.Processor.fits g.T.Processor.MACHINE g.T.Processor.QUANTUM g.T.Processor.SHAPE g.T.Target.selection
    g.T.Target.aiming g.T.Target.entry g.T.Target.check g.T.Target.begins in
    let small = near_first kit c.args.build.now c.args.names.now c.args.code.now c.args.fitted c.requires.fit (map seen c.args.funcs.now)
    c.requires.functions c.as_slice.result.now c.as_slice.ensures c.find_entry-number.result
    (omega (arith, c.find_entry-number.ensures.within, length-map c.args.funcs.now seen)) in
    omega (arith, small)

pub value_bytes-requires-clause-valid : goal.value_bytes-requires-clause-valid
value_bytes-requires-clause-valid g c = subst (All IsValidUnit) (sym c.as_slice-units.ensures) c.requires.valid.units

pub value_bytes-requires-clause-named : goal.value_bytes-requires-clause-named
value_bytes-requires-clause-named g c = (
  c.args.build.now.outside,
  subst (λ units. MeansAs c.args.names.now (entries_of units c.args.build.now.outside)) (sym c.as_slice-units.ensures)
      c.requires.fit.resolved.laid.room.named.means,
)

pub write-requires : goal.write-requires
write-requires g c =
    let kit = kit_of g.T.Processor.instructions g.T.Processor.fits g.T.Processor.MACHINE g.T.Processor.QUANTUM g.T.Processor.SHAPE g.T.Target.selection
    g.T.Target.aiming g.T.Target.entry g.T.Target.check g.T.Target.begins in
    can_write kit c.args.build.now c.args.names.now c.args.code.now c.args.fitted c.requires.fit c.MACHINE.result c.MACHINE.ensures
    (4194304 + get_or c.as_slice.result.now c.find_entry-number.result 0) c.find_entry-number.result c.args.standing.text c.new.result
    (omega (arith, c.find_entry-number.ensures.within, ap length c.requires.functions, length-map c.args.funcs.now seen))
    (ap (λ at. 4194304 + get_or at c.find_entry-number.result 0) c.as_slice.ensures)
    c.requires.long
    (ap length c.new.ensures ∙ c.in_ok-values.ensures.length ∙ ap (values_end c.args.names.now) c.as_slice-units.ensures)
    c.image_lengths.ensures.image
    (known_machine _ g.met.T.Processor.architecture)
