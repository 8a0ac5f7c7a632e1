use Rattle.std.proofs.Common.{◌≡◌, ◌+◌, ◌-◌, ◌/◌, arith}
use Rattle.machine_dump.proofs.MarkLemmas.{mark_roomy}
use Rattle.machine_dump.proofs.marks.last_low.Goals as goal

pub address-requires : goal.address-requires
address-requires c =
    rw c.behind.ensures
    (mark_roomy c.args.body.now c.args.starts.now c.requires.marks c.requires.some (c.loop-low.low + (c.loop-low.high - c.loop-low.low) / 2)
    (omega (arith, c.loop-low.invariant.order, c.loop-low.invariant.most)) c.requires.body)

pub returns-clause-high : goal.returns-clause-high
returns-clause-high c few =
    let same : c.loop-low.high ≡ c.loop-low.low + 1 = omega (arith, c.loop-low.invariant.order, c.loop-low-test.false) in
    (rw same at c.loop-low.invariant.high) few
