use Rattle.branch_size.specs.Lawful.{quantum_kinds}
use Rattle.obj_rewrite.proofs.BodyLemmas.{frame_laws, pick_laws}
use Rattle.obj_rewrite.proofs.SettledLemmas.{settled}
use Rattle.unit_listing.specs.Kit.{kit_of}
use Rattle.unit_listing.proofs.FunctionLemmas.{KitLaws}
use Rattle.code_answer.proofs.FarLemmas.{first_far, never_code}
use Rattle.code_answer.proofs.OneLemmas.{one_code, one_depths}
use Rattle.code_answer.proofs.PlaceLemmas.{one_line, one_place}
use Rattle.code_answer.proofs.laws.one_code.Given as given
use Rattle.code_answer.proofs.laws.one_code.Goals as goal

-- by the target's laws
laws : (g : given.Over) → KitLaws (kit_of g.T.Processor.instructions g.T.Processor.fits g.T.Processor.MACHINE g.T.Processor.QUANTUM g.T.Processor.SHAPE g.T.Target.selection
    g.T.Target.aiming g.T.Target.entry g.T.Target.check g.T.Target.begins)
laws g =
    let set = g.T.Processor.instructions in
    let fits = g.T.Processor.fits in
    let aiming = g.T.Target.aiming in
    let shape = g.T.Processor.SHAPE in
    let machine = g.T.Processor.MACHINE in
    record {
      target = record {
        quantum_kind = quantum_kinds machine g.T.Processor.QUANTUM shape g.T.Processor.GROWTH g.met.T.Processor.architecture;
        lengths = g.met.T.Processor.lengths;
        formed = g.met.T.Target.formed;
        reaches = g.met.T.Target.reaches;
      };
      settled = λ frame. settled set shape g.T.Target.begins g.T.Target.selection frame g.met.T.Target.single g.met.T.Target.known;
      picks = λ frame fine. pick_laws set fits aiming shape g.T.Target.begins g.T.Target.selection machine frame fine
          g.met.T.Target.pickable g.met.T.Target.few_bytes g.met.T.Target.refers g.met.T.Target.ends;
      frames = λ frame fine. frame_laws set fits aiming shape g.T.Target.begins g.T.Target.selection machine frame fine g.T.Target.check
          g.T.Target.entry g.met.T.Target.enters_listed g.met.T.Target.check_pickable g.met.T.Target.stays_around
          g.met.T.Target.few_instructions;
    }

pub returns-clause-code : goal.returns-clause-code
returns-clause-code g c = λ site laid other code again same one two.
    let kit = kit_of g.T.Processor.instructions g.T.Processor.fits g.T.Processor.MACHINE g.T.Processor.QUANTUM g.T.Processor.SHAPE g.T.Target.selection
    g.T.Target.aiming g.T.Target.entry g.T.Target.check g.T.Target.begins in
    one_code kit site laid other same code again one two

pub returns-clause-depths : goal.returns-clause-depths
returns-clause-depths g c = λ laid other depths again same one two.
    let kit = kit_of g.T.Processor.instructions g.T.Processor.fits g.T.Processor.MACHINE g.T.Processor.QUANTUM g.T.Processor.SHAPE g.T.Target.selection
    g.T.Target.aiming g.T.Target.entry g.T.Target.check g.T.Target.begins in
    one_depths kit laid other same depths again one two

pub returns-clause-never : goal.returns-clause-never
returns-clause-never g c = λ symbols site laid other code line of same is unreached.
    let kit = kit_of g.T.Processor.instructions g.T.Processor.fits g.T.Processor.MACHINE g.T.Processor.QUANTUM g.T.Processor.SHAPE g.T.Target.selection
    g.T.Target.aiming g.T.Target.entry g.T.Target.check g.T.Target.begins in
    never_code kit (laws g) symbols laid of site other same code line is unreached

pub returns-clause-first : goal.returns-clause-first
returns-clause-first g c = λ symbols site laid other line number of same one two.
    let kit = kit_of g.T.Processor.instructions g.T.Processor.fits g.T.Processor.MACHINE g.T.Processor.QUANTUM g.T.Processor.SHAPE g.T.Target.selection
    g.T.Target.aiming g.T.Target.entry g.T.Target.check g.T.Target.begins in
    first_far kit (laws g) symbols laid of site other same line number one two

pub returns-clause-line : goal.returns-clause-line
returns-clause-line g c = λ laid other number line its same one two.
    let kit = kit_of g.T.Processor.instructions g.T.Processor.fits g.T.Processor.MACHINE g.T.Processor.QUANTUM g.T.Processor.SHAPE g.T.Target.selection
    g.T.Target.aiming g.T.Target.entry g.T.Target.check g.T.Target.begins in
    one_line kit laid other same number line its one two

pub returns-clause-place : goal.returns-clause-place
returns-clause-place g c = λ site laid other code address place its same is one two.
    let kit = kit_of g.T.Processor.instructions g.T.Processor.fits g.T.Processor.MACHINE g.T.Processor.QUANTUM g.T.Processor.SHAPE g.T.Target.selection
    g.T.Target.aiming g.T.Target.entry g.T.Target.check g.T.Target.begins in
    one_place kit g.met.T.Processor.lengths site laid code is other same address place its one two
