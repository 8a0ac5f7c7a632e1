use Rattle.machine_dump.specs.Lines.{lines_of}
use Rattle.machine_dump.proofs.HeaderLemmas.{field_missing}
use Rattle.machine_dump.proofs.header.field_line.Goals as goal

pub returns-in_default-clause-exact : goal.returns-in_default-clause-exact
returns-in_default-clause-exact c =
    field_missing c.args.name.now (lines_of c.args.bytes.now) c.args.number (c.split_line.ensures.none c.in_default.is)
