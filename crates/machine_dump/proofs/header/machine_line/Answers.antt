use Rattle.machine_dump.specs.Lines.{lines_of}
use Rattle.machine_dump.proofs.HeaderLemmas.{machine_missing}
use Rattle.machine_dump.proofs.header.machine_line.Goals as goal

pub returns-in_default-clause-exact : goal.returns-in_default-clause-exact
returns-in_default-clause-exact c = machine_missing (lines_of c.args.bytes.now) (c.split_line.ensures.none c.in_default.is)
