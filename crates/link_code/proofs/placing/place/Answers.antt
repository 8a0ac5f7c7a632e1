use Rattle.std.proofs.Common.{◌≡◌, Err, ap, sym}
use Rattle.branch_size.specs.Lawful.{quantum_kinds}
use Rattle.obj_rewrite.proofs.BodyLemmas.{frame_laws, pick_laws}
use Rattle.obj_rewrite.proofs.SettledLemmas.{settled}
use Rattle.unit_listing.specs.Kit.{kit_of}
use Rattle.unit_listing.proofs.FunctionLemmas.{KitLaws}
use Rattle.link_code.specs.declared.place_no.PlaceNo.TheVariants.{Unreached}
use Rattle.link_code.proofs.ReadyLemmas.{ready}
use Rattle.link_code.proofs.WholeLemmas.{as_many}
use Rattle.link_code.proofs.placing.place.Given as given
use Rattle.link_code.proofs.placing.place.Goals as goal

-- by the target's laws
laws : (g : given.Over) → KitLaws (kit_of g.T.Processor.instructions g.T.Processor.fits g.T.Processor.MACHINE g.T.Processor.QUANTUM g.T.Processor.SHAPE g.T.Target.selection
    g.T.Target.aiming g.T.Target.entry g.T.Target.check g.T.Target.begins)
laws g =
    let set = g.T.Processor.instructions in
    let fits = g.T.Processor.fits in
    let aiming = g.T.Target.aiming in
    let shape = g.T.Processor.SHAPE in
    let machine = g.T.Processor.MACHINE in
    record {
      target = record {
        quantum_kind = quantum_kinds machine g.T.Processor.QUANTUM shape g.T.Processor.GROWTH g.met.T.Processor.architecture;
        lengths = g.met.T.Processor.lengths;
        formed = g.met.T.Target.formed;
        reaches = g.met.T.Target.reaches;
      };
      settled = λ frame. settled set shape g.T.Target.begins g.T.Target.selection frame g.met.T.Target.single g.met.T.Target.known;
      picks = λ frame fine. pick_laws set fits aiming shape g.T.Target.begins g.T.Target.selection machine frame fine
          g.met.T.Target.pickable g.met.T.Target.few_bytes g.met.T.Target.refers g.met.T.Target.ends;
      frames = λ frame fine. frame_laws set fits aiming shape g.T.Target.begins g.T.Target.selection machine frame fine g.T.Target.check
          g.T.Target.entry g.met.T.Target.enters_listed g.met.T.Target.check_pickable g.met.T.Target.stays_around
          g.met.T.Target.few_instructions;
    }

pub place_lines-requires-clause-ready : goal.place_lines-requires-clause-ready
place_lines-requires-clause-ready g c =
    ready (kit_of g.T.Processor.instructions g.T.Processor.fits g.T.Processor.MACHINE g.T.Processor.QUANTUM g.T.Processor.SHAPE g.T.Target.selection
    g.T.Target.aiming g.T.Target.entry g.T.Target.check g.T.Target.begins) (laws g) c.args.site.now c.args.laid.now c.requires.laid

pub list_depths-requires : goal.list_depths-requires
list_depths-requires g c =
    (ready (kit_of g.T.Processor.instructions g.T.Processor.fits g.T.Processor.MACHINE g.T.Processor.QUANTUM g.T.Processor.SHAPE g.T.Target.selection
    g.T.Target.aiming g.T.Target.entry g.T.Target.check g.T.Target.begins) (laws g) c.args.site.now c.args.laid.now c.requires.laid).told

pub returns-in_err-placed-clause-unreached : goal.returns-in_err-placed-clause-unreached
returns-in_err-placed-clause-unreached g c = λ number same.
    let told : Unreached number ≡ c.in_err-placed.field-0.0 = rw same at c.from_residual.ensures.1 in
    c.in_err-placed.ensures.unreached number (ap Err (sym told))

pub returns-clause-as_many : goal.returns-clause-as_many
returns-clause-as_many g c =
    as_many (kit_of g.T.Processor.instructions g.T.Processor.fits g.T.Processor.MACHINE g.T.Processor.QUANTUM g.T.Processor.SHAPE g.T.Target.selection
    g.T.Target.aiming g.T.Target.entry g.T.Target.check g.T.Target.begins) c.args.site.now c.args.laid.now _ _ c.in_ok-placed.ensures.code c.in_ok-depths.ensures
