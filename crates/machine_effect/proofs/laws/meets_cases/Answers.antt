use Rattle.std.proofs.Common.{refl}
use lib.Count.{ones_in, count_leading_zeros, count_trailing_zeros}
use Rattle.machine_effect.specs.Memory.{number_of, bytes_of}
use Rattle.machine_effect.specs.Operations.{operate}
use Rattle.machine_effect.specs.Values.{holds_by}
use Rattle.machine_effect.specs.FlagsAfter.{flags_by}
use Rattle.machine_effect.proofs.laws.meets_cases.Goals as goal

pub returns-clause-operations : goal.returns-clause-operations
unfolding operate number_of bytes_of ones_in count_leading_zeros count_trailing_zeros
returns-clause-operations c = refl

pub returns-clause-flags : goal.returns-clause-flags
unfolding flags_by ones_in
returns-clause-flags c = refl

pub returns-clause-conditions : goal.returns-clause-conditions
unfolding holds_by
returns-clause-conditions c = refl
