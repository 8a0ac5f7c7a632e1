use Rattle.asm_target.proofs.RunLemmas.{leads_cut, leads_joined}
use Rattle.asm_target.proofs.laws.runs_cut.Goals as goal

pub returns : goal.returns
returns c = λ effects m n before after. (
  λ run. leads_cut effects m n before after run,
  λ parts. leads_joined effects m n before parts.0 after parts.1 parts.2,
)
