use Rattle.unit_listing.specs.Kit.{kit_of}
use Rattle.unit_listing.specs.Lines.{IsLine}
use Rattle.unit_listing.proofs.JoinedLemmas.{one_more}
use Rattle.unit_listing.proofs.lines.push_lines.Goals as goal

pub loop-number-preserved : goal.loop-number-preserved
loop-number-preserved g c =
    let kit = kit_of g.T.Processor.instructions g.T.Processor.fits g.T.Processor.MACHINE g.T.Processor.QUANTUM g.T.Processor.SHAPE g.T.Target.selection
    g.T.Target.aiming g.T.Target.entry g.T.Target.check g.T.Target.begins in
    let laid = c.args.laid.now in
    one_more (IsLine kit c.args.symbols.now laid.flags (g.T.Target.check laid.body.frame) laid.body.code laid.sizes) c.loop-number.number
    c.args.text.now c.loop-number.text c.push_line.new.text c.loop-number.invariant c.in_ok-push_line.ensures
