use Rattle.std.proofs.Common.{◌≡◌, ◌+◌, ◌*◌, ◌≤◌, take}
use Rattle.asm_target.specs.Aiming.{bytes_of}
use Rattle.unit_listing.specs.Joined.{AreJoined, Appends}
use Rattle.unit_listing.specs.Kit.{kit_of}
use Rattle.unit_listing.specs.Lines.{IsShown}
use Rattle.unit_listing.proofs.lines.push_form.Given as goal

abbrev pub invariant-loop-number : goal.invariant-loop-number
invariant-loop-number g l = record {
  near : l.at ≤ l.spot.at + 15 * l.number;
  there : l.at ≡ l.spot.at + bytes_of g.T.Processor.instructions (take l.number l.form);
  joined : Appends (AreJoined (IsShown (kit_of g.T.Processor.instructions g.T.Processor.fits g.T.Processor.MACHINE g.T.Processor.QUANTUM g.T.Processor.SHAPE g.T.Target.selection
      g.T.Target.aiming g.T.Target.entry g.T.Target.check g.T.Target.begins)
      l.symbols l.laid.flags (g.T.Target.check l.laid.body.frame) l.laid.body.code l.laid.sizes l.spot.line l.spot.back l.spot.at l.form)
      l.number) l.fn.text l.text;
}
