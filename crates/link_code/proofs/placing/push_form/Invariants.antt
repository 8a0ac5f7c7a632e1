use Rattle.std.proofs.Common.{◌≡◌, ◌+◌, ◌*◌, ◌≤◌, take}
use Rattle.asm_target.specs.Aiming.{bytes_of}
use Rattle.unit_listing.specs.Joined.{AreJoined}
use Rattle.unit_listing.specs.Kit.{kit_of}
use Rattle.link_code.specs.Code.{IsPart}
use Rattle.link_code.specs.Goals.{goal_of}
use Rattle.link_code.specs.Placed.{AreAdded}
use Rattle.link_code.proofs.placing.push_form.Given as goal

abbrev pub invariant-loop-number : goal.invariant-loop-number
invariant-loop-number g l =
    let kit = kit_of g.T.Processor.instructions g.T.Processor.fits g.T.Processor.MACHINE g.T.Processor.QUANTUM g.T.Processor.SHAPE g.T.Target.selection
    g.T.Target.aiming g.T.Target.entry g.T.Target.check g.T.Target.begins in
    record {
      near : l.at ≤ l.spot.at + 15 * l.number;
      there : l.at ≡ l.spot.at + bytes_of g.T.Processor.instructions (take l.number l.form);
      added : AreAdded g.T.Processor.instructions g.T.Processor.fits
          (AreJoined (IsPart kit (goal_of kit l.site l.laid) l.spot.refer l.spot.back l.spot.at l.form) l.number)
          l.spot.at l.at l.fn.placed.items l.placed.items;
    }
