use Rattle.std.proofs.Common.{drop}
use Rattle.goasm_run.specs.Sources.{seen}
use Rattle.goasm_run.proofs.SourceLemmas.{LexedUpTo}
use Rattle.goasm_run.proofs.sources.lexed.Given as goal

abbrev pub invariant-loop-part : goal.invariant-loop-part
invariant-loop-part l = LexedUpTo l.names l.parts (drop l.part-index l.parts) (seen l.done)
