use Rattle.std.proofs.Common.{◌+◌, ◌-◌, ◌/◌, arith}
use Rattle.machine_dump.proofs.WindowLemmas.{look_some, look_none, without_newline}
use Rattle.machine_dump.proofs.search.half.Goals as goal

pub beside-requires-clause-line : goal.beside-requires-clause-line
beside-requires-clause-line c =
    let found = (rw c.behind.ensures at c.in-Some.ensures) in
    (look_some c.args.body.now c.args.window.from ((c.args.window.high - c.args.window.from) / 2) c.in-Some.place
    (omega (arith, c.requires.window.most, c.requires.window.room)) found.0 found.1).2

pub returns-in-None-clause-window : goal.returns-in-None-clause-window
returns-in-None-clause-window c =
    without_newline c.args.body.now c.args.at c.args.window c.requires.window
    (c.args.window.from + (c.args.window.high - c.args.window.from) / 2) (omega arith) (omega (arith, c.requires.wide))
    (look_none c.args.body.now c.args.window.from ((c.args.window.high - c.args.window.from) / 2)
    (omega (arith, c.requires.window.most, c.requires.window.room)) (rw c.behind.ensures at c.in-None.ensures))
