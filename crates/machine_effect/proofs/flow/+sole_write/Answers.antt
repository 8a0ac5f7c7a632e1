use Rattle.std.proofs.Common.{sym, ◌∙◌}
use Rattle.machine_effect.proofs.FlowLemmas.{sole_again, sole_once}
use Rattle.machine_effect.proofs.flow.+sole_write.Goals as goal

pub returns-then-is_written : goal.returns-then-is_written
returns-then-is_written t c =
    sole_again c.args.register c.args.writes.now _ c.in-len1-up.len_at_least c.if-number-register.true
    (sym c.is_written.ensures ∙ c.if-is_written.true)

pub returns-else-is_written : goal.returns-else-is_written
returns-else-is_written t c =
    sole_once c.args.register c.args.writes.now _ c.in-len1-up.len_at_least c.if-number-register.true
    (sym c.is_written.ensures ∙ c.if-is_written.false)
