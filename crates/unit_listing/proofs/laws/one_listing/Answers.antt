use Rattle.asm_target.specs.declared.frame.FrameShape.{FrameShape}
use Rattle.branch_size.specs.Lawful.{quantum_kinds}
use Rattle.obj_rewrite.proofs.BodyLemmas.{frame_laws, pick_laws}
use Rattle.obj_rewrite.proofs.SettledLemmas.{settled}
use Rattle.unit_listing.specs.Kit.{kit_of}
use Rattle.unit_listing.proofs.FunctionLemmas.{KitLaws, first_laid, first_listing, never_laid, never_listing, one_laid, one_listing}
use Rattle.unit_listing.proofs.laws.one_listing.Given as given
use Rattle.unit_listing.proofs.laws.one_listing.Goals as goal

-- by the target's laws
laws : (g : given.Over) → KitLaws (kit_of g.T.Processor.instructions g.T.Processor.fits g.T.Processor.MACHINE g.T.Processor.QUANTUM g.T.Processor.SHAPE g.T.Target.selection
    g.T.Target.aiming g.T.Target.entry g.T.Target.check g.T.Target.begins)
laws g =
    let set = g.T.Processor.instructions in
    let fits = g.T.Processor.fits in
    let aiming = g.T.Target.aiming in
    let shape = g.T.Processor.SHAPE in
    let machine = g.T.Processor.MACHINE in
    record {
      target = record {
        quantum_kind = quantum_kinds machine g.T.Processor.QUANTUM shape g.T.Processor.GROWTH g.met.T.Processor.architecture;
        lengths = g.met.T.Processor.lengths;
        formed = g.met.T.Target.formed;
        reaches = g.met.T.Target.reaches;
      };
      settled = λ frame. settled set shape g.T.Target.begins g.T.Target.selection frame g.met.T.Target.single g.met.T.Target.known;
      picks = λ frame fine. pick_laws set fits aiming shape g.T.Target.begins g.T.Target.selection machine frame fine
          g.met.T.Target.pickable g.met.T.Target.few_bytes g.met.T.Target.refers g.met.T.Target.ends;
      frames = λ frame fine. frame_laws set fits aiming shape g.T.Target.begins g.T.Target.selection machine frame fine g.T.Target.check
          g.T.Target.entry g.met.T.Target.enters_listed g.met.T.Target.check_pickable g.met.T.Target.stays_around
          g.met.T.Target.few_instructions;
    }

pub returns-clause-one : goal.returns-clause-one
returns-clause-one g c = one_listing (kit_of g.T.Processor.instructions g.T.Processor.fits g.T.Processor.MACHINE g.T.Processor.QUANTUM g.T.Processor.SHAPE g.T.Target.selection
    g.T.Target.aiming g.T.Target.entry g.T.Target.check g.T.Target.begins) (laws g)

pub returns-clause-never : goal.returns-clause-never
returns-clause-never g c = never_listing (kit_of g.T.Processor.instructions g.T.Processor.fits g.T.Processor.MACHINE g.T.Processor.QUANTUM g.T.Processor.SHAPE g.T.Target.selection
    g.T.Target.aiming g.T.Target.entry g.T.Target.check g.T.Target.begins) (laws g)

pub returns-clause-first : goal.returns-clause-first
returns-clause-first g c = first_listing (kit_of g.T.Processor.instructions g.T.Processor.fits g.T.Processor.MACHINE g.T.Processor.QUANTUM g.T.Processor.SHAPE g.T.Target.selection
    g.T.Target.aiming g.T.Target.entry g.T.Target.check g.T.Target.begins) (laws g)

pub returns-clause-one_laid : goal.returns-clause-one_laid
returns-clause-one_laid g c = one_laid (kit_of g.T.Processor.instructions g.T.Processor.fits g.T.Processor.MACHINE g.T.Processor.QUANTUM g.T.Processor.SHAPE g.T.Target.selection
    g.T.Target.aiming g.T.Target.entry g.T.Target.check g.T.Target.begins) (laws g)

pub returns-clause-never_laid : goal.returns-clause-never_laid
returns-clause-never_laid g c = never_laid (kit_of g.T.Processor.instructions g.T.Processor.fits g.T.Processor.MACHINE g.T.Processor.QUANTUM g.T.Processor.SHAPE g.T.Target.selection
    g.T.Target.aiming g.T.Target.entry g.T.Target.check g.T.Target.begins) (laws g)

pub returns-clause-first_laid : goal.returns-clause-first_laid
returns-clause-first_laid g c = first_laid (kit_of g.T.Processor.instructions g.T.Processor.fits g.T.Processor.MACHINE g.T.Processor.QUANTUM g.T.Processor.SHAPE g.T.Target.selection
    g.T.Target.aiming g.T.Target.entry g.T.Target.check g.T.Target.begins) (laws g)
