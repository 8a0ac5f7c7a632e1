use Rattle.std.proofs.Common.{◌∙◌}
use Rattle.amd64_select.proofs.amd64.Amd64Processor.read.Goals as goal

pub returns-clause-only : goal.returns-clause-only
returns-clause-only c i n first = c.with_len.ensures ∙ c.read.ensures.only i n first
