use Rattle.std.proofs.Common.{◌≡◌, drop}
use Rattle.goasm_base.specs.MemSink.{first_paired}
use Rattle.goasm_base.proofs.mem_sink.first_paired.Given as goal

abbrev pub invariant-loop-listed : goal.invariant-loop-listed
invariant-loop-listed l = first_paired (drop l.listed-index l.pairs) l.number ≡ first_paired l.pairs l.number
