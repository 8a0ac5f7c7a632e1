use Rattle.std.proofs.Common.{ap}
use Rattle.machine_effect.specs.Flow.{flow_of}
use Rattle.machine_effect.specs.Steps.{FlowTells}
use Rattle.machine_effect.proofs.StateLemmas.{flow_tells}
use Rattle.machine_effect.proofs.flow.effect_flow.Goals as goal

pub returns-clause-next : goal.returns-clause-next
unfolding flow_of
returns-clause-next c = ap (λ flow. flow.next) c.read_flow.ensures

told : (c : goal.After-read_flow) → FlowTells c.args.effect.now c.args.shape.now c.read_flow.result
told c = rw c.read_flow.ensures (flow_tells c.args.effect.now c.args.shape.now)

pub returns-clause-keep : goal.returns-clause-keep
returns-clause-keep c = (told c).keep

pub returns-clause-by : goal.returns-clause-by
returns-clause-by c = (told c).by

pub returns-clause-link_kept : goal.returns-clause-link_kept
returns-clause-link_kept c = (told c).link_kept

pub returns-clause-link_unstored : goal.returns-clause-link_unstored
returns-clause-link_unstored c = (told c).link_unstored

pub returns-clause-link_stored : goal.returns-clause-link_stored
returns-clause-link_stored c = (told c).link_stored

pub returns-clause-link_saved : goal.returns-clause-link_saved
returns-clause-link_saved c = (told c).link_saved
