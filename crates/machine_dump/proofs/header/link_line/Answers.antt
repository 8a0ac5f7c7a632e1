use Rattle.machine_dump.specs.Lines.{lines_of}
use Rattle.machine_dump.proofs.HeaderLemmas.{link_missing}
use Rattle.machine_dump.proofs.header.link_line.Goals as goal

pub returns-in_default-clause-exact : goal.returns-in_default-clause-exact
returns-in_default-clause-exact c =
    link_missing c.args.machine (lines_of c.args.bytes.now) (c.split_line.ensures.none c.in_default.is)
