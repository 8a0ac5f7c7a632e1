use Rattle.asm_target.proofs.RunLemmas as lemmas
use Rattle.asm_target.proofs.laws.runs_append.Goals as goal

pub returns : goal.returns
returns g c = lemmas.runs_append g.T.Processor.instructions
