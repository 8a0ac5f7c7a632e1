use Rattle.std.proofs.Common.{arith}
use Rattle.machine_dump.proofs.MarkLemmas.{mark_window, last_window}
use Rattle.machine_dump.proofs.marks.window_from.Goals as goal

pub returns-then-number-lt-MARKS : goal.returns-then-number-lt-MARKS
returns-then-number-lt-MARKS c =
    rw c.place_of.ensures
    (mark_window c.args.body.now c.args.starts.now c.requires.marks c.requires.some c.args.at c.args.number
    (omega (arith, c.if-number-lt-MARKS.true)) c.requires.low (c.requires.high (omega (arith, c.if-number-lt-MARKS.true))))

pub returns : goal.returns
returns c =
    rw c.place_of-2.ensures
    (last_window c.args.body.now c.args.starts.now c.requires.marks c.requires.some c.args.at c.args.number c.requires.inside c.requires.body
    c.requires.low)
