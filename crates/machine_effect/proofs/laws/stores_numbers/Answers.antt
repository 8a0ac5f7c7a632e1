use Rattle.machine_effect.proofs.StepLemmas.{leaves_missed, number_stays}
use Rattle.machine_effect.proofs.StateLemmas.{number_at-put, length-bytes_of}
use Rattle.machine_effect.proofs.laws.stores_numbers.Goals as goal

pub returns-clause-missed : goal.returns-clause-missed
returns-clause-missed c = leaves_missed

pub returns-clause-number : goal.returns-clause-number
returns-clause-number c = number_stays

pub returns-clause-put : goal.returns-clause-put
returns-clause-put c = number_at-put

pub returns-clause-length : goal.returns-clause-length
returns-clause-length c = length-bytes_of
