use Rattle.asm_target.proofs.BreachLemmas.{same_breach, unsound}
use Rattle.asm_target.proofs.laws.one_breach.Goals as goal

pub returns-clause-one : goal.returns-clause-one
returns-clause-one c = same_breach

pub returns-clause-unsound : goal.returns-clause-unsound
returns-clause-unsound c = unsound
