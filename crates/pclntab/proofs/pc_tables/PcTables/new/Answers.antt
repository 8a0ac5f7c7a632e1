use Rattle.pclntab.proofs.PcLemmas.{none_kept}
use Rattle.pclntab.proofs.pc_tables.PcTables.new.Goals as goal

pub invariant_of-result : goal.invariant_of-result
invariant_of-result c index = none_kept c.args.bytes.now c.args.quantum 1024 index
