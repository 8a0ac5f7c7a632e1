use Rattle.unit_listing.specs.Kit.{kit_of}
use Rattle.image_link.proofs.AssemblyLemmas.{HoldsBelow, all, image, is_assembly, table}
use Rattle.image_link.proofs.laws.linked_is_sound.Goals as goal

pub returns : goal.returns
returns g c = λ build bytes valid linked.
    let kit = kit_of g.T.Processor.instructions g.T.Processor.fits g.T.Processor.MACHINE g.T.Processor.QUANTUM g.T.Processor.SHAPE g.T.Target.selection
    g.T.Target.aiming g.T.Target.entry g.T.Target.check g.T.Target.begins in
    let growth = g.T.Processor.GROWTH in
    let below : HoldsBelow kit growth
    = record {
      sound = c.functions_are_sound.ensures;
      tells = c.laid_lines.ensures.told;
      can_tell = c.linked_are_told.ensures.told;
      few_files = c.linked_are_told.ensures.few;
      place = c.functions_stand.ensures.place;
      end = c.functions_stand.ensures.end;
    } in
    c.assembled_is_sound.ensures (table kit growth below build bytes valid linked) (image kit growth below build bytes valid linked)
    (all kit growth below build bytes valid linked) bytes (is_assembly kit growth below build bytes valid linked)
