use Rattle.std.proofs.Common.{◌≡◌, take}
use Rattle.std.specs.List.{flat_map}
use Rattle.asm_target_sample.proofs.run.spell_all.Given as goal

abbrev pub invariant-loop-instr : goal.invariant-loop-instr
invariant-loop-instr g l =
    l.bytes.items ≡ flat_map g.T.Processor.instructions.spelling (take l.instr-index l.code)
