use Rattle.unit_listing.specs.Kit.{kit_of}
use Rattle.unit_listing.proofs.LaidLemmas.{function_text, told}
use Rattle.unit_listing.proofs.units.push_function.Goals as goal

pub push_lines-requires : goal.push_lines-requires
push_lines-requires g c =
    let kit = kit_of g.T.Processor.instructions g.T.Processor.fits g.T.Processor.MACHINE g.T.Processor.QUANTUM g.T.Processor.SHAPE g.T.Target.selection
    g.T.Target.aiming g.T.Target.entry g.T.Target.check g.T.Target.begins in
    told kit c.args.func.now c.in_ok-laid.laid c.in_ok-laid.ensures.laid

pub returns-clause-text : goal.returns-clause-text
returns-clause-text g c =
    let kit = kit_of g.T.Processor.instructions g.T.Processor.fits g.T.Processor.MACHINE g.T.Processor.QUANTUM g.T.Processor.SHAPE g.T.Target.selection
    g.T.Target.aiming g.T.Target.entry g.T.Target.check g.T.Target.begins in
    function_text kit c.args.func.now c.args.symbols.now c.in_ok-laid.laid c.args.text.now c.push_header.new.text c.push_lines.new.text
    c.in_ok-laid.ensures.laid c.in_ok-push_header.ensures c.in_ok-push_lines.ensures
