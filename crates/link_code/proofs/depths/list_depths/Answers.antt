use Rattle.std.proofs.Common.{◌≡◌, [], length, ap, arith}
use Rattle.unit_listing.specs.Kit.{kit_of}
use Rattle.unit_listing.proofs.JoinedLemmas.{one_more}
use Rattle.link_code.specs.Code.{HasDepth}
use Rattle.link_code.proofs.DepthLemmas.{all_depths}
use Rattle.link_code.proofs.depths.list_depths.Goals as goal

pub loop-number-preserved : goal.loop-number-preserved
loop-number-preserved g c =
    let kit = kit_of g.T.Processor.instructions g.T.Processor.fits g.T.Processor.MACHINE g.T.Processor.QUANTUM g.T.Processor.SHAPE g.T.Target.selection
    g.T.Target.aiming g.T.Target.entry g.T.Target.check g.T.Target.begins in
    one_more (HasDepth kit c.args.laid.now) c.loop-number.number [] c.loop-number.depths.items c.push_depths.new.depths.items
    c.loop-number.invariant c.in_ok-push_depths.ensures

pub returns : goal.returns
returns g c =
    let kit = kit_of g.T.Processor.instructions g.T.Processor.fits g.T.Processor.MACHINE g.T.Processor.QUANTUM g.T.Processor.SHAPE g.T.Target.selection
    g.T.Target.aiming g.T.Target.entry g.T.Target.check g.T.Target.begins in
    let count : c.loop-number.number ≡ length c.args.laid.now.body.code
    = omega (arith, ap length c.as_slice-number-end.ensures) in
    all_depths kit c.args.laid.now c.loop-number.number c.loop-number.depths.items count c.loop-number.invariant
