use Rattle.std.proofs.Common.{◌≡◌, ◌++◌, length}
use Rattle.std.specs.Prelude.{All}
use Rattle.std.specs.List.{flat_map}
use Rattle.asm_target_sample.proofs.run.read_all.Given as goal

abbrev pub invariant-loop-instr : goal.invariant-loop-instr
invariant-loop-instr g l = record {
  fit : All g.T.Processor.fits l.code.items;
  whole : l.bytes ≡ flat_map g.T.Processor.instructions.spelling l.code.items ++ l.rest;
}

abbrev pub decreases-loop-instr : goal.decreases-loop-instr
decreases-loop-instr g l = length l.rest
