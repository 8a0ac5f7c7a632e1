use Rattle.std.proofs.Common.{refl}
use Rattle.machine_effect.specs.Flow.{flow_of}
use Rattle.asm_target.specs.DepthChange.{depth_change, ends_sequence}
use Rattle.asm_target.specs.FlowFunction.{start_of, sequence_at, outgoing}
use Rattle.asm_target.specs.FlowRules.{breaks}
use Rattle.asm_target.proofs.laws.meets_cases.Goals as goal

pub returns-clause-moves : goal.returns-clause-moves
unfolding depth_change ends_sequence flow_of
returns-clause-moves c = refl

pub returns-clause-sequences : goal.returns-clause-sequences
unfolding depth_change ends_sequence flow_of
returns-clause-sequences c = refl

pub returns-clause-unlike : goal.returns-clause-unlike
unfolding depth_change ends_sequence flow_of
returns-clause-unlike c = refl

pub returns-clause-first : goal.returns-clause-first
unfolding depth_change ends_sequence flow_of
returns-clause-first c = refl

pub returns-clause-stack : goal.returns-clause-stack
unfolding breaks outgoing sequence_at start_of depth_change ends_sequence
returns-clause-stack c = refl

pub returns-clause-linked : goal.returns-clause-linked
unfolding breaks outgoing sequence_at start_of depth_change ends_sequence
returns-clause-linked c = refl
