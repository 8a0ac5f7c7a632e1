use Rattle.amd64_table.proofs.MoveLemmas.{flow_moves, moves_near}
use Rattle.std.proofs.Common.{sym, ◌∙◌}
use Rattle.amd64_table.proofs.effects.effect.Goals as goal

pub returns-clause-sp : goal.returns-clause-sp
returns-clause-sp c listed = rw c.effect_at.ensures (flow_moves c.args.instr.now c.args.end listed)

pub returns-clause-near : goal.returns-clause-near
returns-clause-near c listed k is =
    let moved = rw c.effect_at.ensures at is in
    moves_near c.args.instr.now listed k (sym (flow_moves c.args.instr.now c.args.end listed) ∙ moved)
