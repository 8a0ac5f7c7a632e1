use Rattle.branch_size.specs.Lawful.{quantum_kinds}
use Rattle.obj_rewrite.proofs.BodyLemmas.{frame_laws, pick_laws}
use Rattle.obj_rewrite.proofs.SettledLemmas.{settled}
use Rattle.unit_listing.specs.Kit.{kit_of}
use Rattle.unit_listing.proofs.FunctionLemmas.{KitLaws}
use Rattle.link_lines.proofs.LinkedLemmas.{all_linked, linked}
use Rattle.link_lines.proofs.TellLemmas.{tells}
use Rattle.link_lines.proofs.laws.laid_lines.Given as given
use Rattle.link_lines.proofs.laws.laid_lines.Goals as goal

-- by the target's laws
laws : (g : given.Over) → KitLaws (kit_of g.T.Processor.instructions g.T.Processor.fits g.T.Processor.MACHINE g.T.Processor.QUANTUM g.T.Processor.SHAPE g.T.Target.selection
    g.T.Target.aiming g.T.Target.entry g.T.Target.check g.T.Target.begins)
laws g =
    let set = g.T.Processor.instructions in
    let fits = g.T.Processor.fits in
    let aiming = g.T.Target.aiming in
    let shape = g.T.Processor.SHAPE in
    let machine = g.T.Processor.MACHINE in
    record {
      target = record {
        quantum_kind = quantum_kinds machine g.T.Processor.QUANTUM shape g.T.Processor.GROWTH g.met.T.Processor.architecture;
        lengths = g.met.T.Processor.lengths;
        formed = g.met.T.Target.formed;
        reaches = g.met.T.Target.reaches;
      };
      settled = λ frame. settled set shape g.T.Target.begins g.T.Target.selection frame g.met.T.Target.single g.met.T.Target.known;
      picks = λ frame fine. pick_laws set fits aiming shape g.T.Target.begins g.T.Target.selection machine frame fine
          g.met.T.Target.pickable g.met.T.Target.few_bytes g.met.T.Target.refers g.met.T.Target.ends;
      frames = λ frame fine. frame_laws set fits aiming shape g.T.Target.begins g.T.Target.selection machine frame fine g.T.Target.check
          g.T.Target.entry g.met.T.Target.enters_listed g.met.T.Target.check_pickable g.met.T.Target.stays_around
          g.met.T.Target.few_instructions;
    }

pub returns-clause-linked : goal.returns-clause-linked
returns-clause-linked g c = λ build func entry lines sound small told.
    linked (kit_of g.T.Processor.instructions g.T.Processor.fits g.T.Processor.MACHINE g.T.Processor.QUANTUM g.T.Processor.SHAPE g.T.Target.selection
    g.T.Target.aiming g.T.Target.entry g.T.Target.check g.T.Target.begins) (laws g) build func sound entry lines told small

pub returns-clause-all_linked : goal.returns-clause-all_linked
returns-clause-all_linked g c = λ build funcs entries all sound count small told.
    all_linked (kit_of g.T.Processor.instructions g.T.Processor.fits g.T.Processor.MACHINE g.T.Processor.QUANTUM g.T.Processor.SHAPE g.T.Target.selection
    g.T.Target.aiming g.T.Target.entry g.T.Target.check g.T.Target.begins) (laws g) build funcs entries all sound count small told

pub returns-clause-told : goal.returns-clause-told
returns-clause-told g c = λ build used func entry lines sound told tell.
    tells (kit_of g.T.Processor.instructions g.T.Processor.fits g.T.Processor.MACHINE g.T.Processor.QUANTUM g.T.Processor.SHAPE g.T.Target.selection
    g.T.Target.aiming g.T.Target.entry g.T.Target.check g.T.Target.begins) (laws g) build c.merged_covers.ensures func sound used entry lines told tell
