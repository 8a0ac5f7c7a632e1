use Rattle.link_code.specs.Astray.{AreKept, range_of}
use Rattle.link_code.proofs.astray.find_astray.Given as goal

abbrev pub invariant-loop-number : goal.invariant-loop-number
invariant-loop-number g l = AreKept g.T.Processor.instructions (range_of l.text) l.symbols l.code l.number
