use Rattle.machine_effect.proofs.StepLemmas.{copy_gives, sum_gives, difference_gives}
use Rattle.machine_effect.proofs.laws.word_values.Goals as goal

pub returns-clause-copy : goal.returns-clause-copy
returns-clause-copy c = copy_gives

pub returns-clause-sum : goal.returns-clause-sum
returns-clause-sum c = sum_gives

pub returns-clause-difference : goal.returns-clause-difference
returns-clause-difference c = difference_gives
