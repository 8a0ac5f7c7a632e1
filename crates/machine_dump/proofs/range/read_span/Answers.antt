use Rattle.machine_dump.proofs.FormLemmas.{short_line}
use Rattle.machine_dump.proofs.range.read_span.Goals as goal

pub returns-then-text-lt20 : goal.returns-then-text-lt20
returns-then-text-lt20 c = short_line c.args.text.now c.if-text-lt20.true
