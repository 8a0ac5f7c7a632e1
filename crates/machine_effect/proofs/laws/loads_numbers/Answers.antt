use Rattle.machine_effect.proofs.StepLemmas.{loads, numbers_low, word_low}
use Rattle.machine_effect.proofs.laws.loads_numbers.Goals as goal

pub returns-clause-loads : goal.returns-clause-loads
returns-clause-loads c = loads

pub returns-clause-low : goal.returns-clause-low
returns-clause-low c = numbers_low

pub returns-clause-word : goal.returns-clause-word
returns-clause-word c = word_low
