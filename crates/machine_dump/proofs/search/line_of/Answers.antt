use Rattle.machine_dump.proofs.WindowLemmas.{found_line, found_word}
use Rattle.machine_dump.proofs.search.line_of.Goals as goal

pub returns-clause-low : goal.returns-clause-low
returns-clause-low c =
    rw c.behind.ensures (found_line c.args.body.now c.args.at c.args.window c.requires.window c.requires.body c.requires.narrow)

pub returns-clause-word : goal.returns-clause-word
returns-clause-word c =
    rw c.behind.ensures (found_word c.args.body.now c.args.at c.args.window c.requires.window c.requires.body c.requires.narrow)
