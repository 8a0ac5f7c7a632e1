use Rattle.machine_dump.proofs.LineLemmas.{split_here, split_none}
use Rattle.machine_dump.proofs.line.split_line.Goals as goal

pub returns-in-Some-clause-line : goal.returns-in-Some-clause-line
returns-in-Some-clause-line c = rw c.behind.ensures ((split_here c.args.bytes.now c.in-Some.place c.in-Some.ensures.0 c.in-Some.ensures.1).0)

pub returns-in-Some-clause-ended : goal.returns-in-Some-clause-ended
returns-in-Some-clause-ended c = rw c.behind.ensures ((split_here c.args.bytes.now c.in-Some.place c.in-Some.ensures.0 c.in-Some.ensures.1).1)

pub returns-in-None-clause-none : goal.returns-in-None-clause-none
returns-in-None-clause-none c is = (split_none c.args.bytes.now c.in-None.ensures).0

pub returns-in-None-clause-unended : goal.returns-in-None-clause-unended
returns-in-None-clause-unended c is = (split_none c.args.bytes.now c.in-None.ensures).1
