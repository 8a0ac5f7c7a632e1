use Rattle.std.proofs.Common.{◌≡◌, ℕ}
use Rattle.image_model.specs.Listed.{Listed}
use Rattle.image_rules.specs.Functions.{AreFunctionsOf}
use Rattle.image_rules.specs.Machine.{machine_of}
use Rattle.image_rules.specs.Parts.{count_in}
use Rattle.text_dis.specs.Listing.{functions_text}
use Rattle.text_dis.proofs.image.listing.Given as goal

abbrev pub invariant-loop-index : goal.invariant-loop-index
invariant-loop-index g l =
    let machine = machine_of g.T.Processor.instructions g.T.Processor.fits g.T.Processor.MACHINE g.T.Processor.QUANTUM g.T.Processor.SHAPE
    g.T.Processor.GROWTH g.T.Target.begins in
    (functions : ℕ → Listed g.row.T-Instr.Denot) → AreFunctionsOf machine l.image functions (count_in l.image)
    → l.text ≡ functions_text machine.set l.image functions l.index
