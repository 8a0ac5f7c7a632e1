use Rattle.std.proofs.Common.{arith}
use Rattle.image_check.proofs.CodeLemmas.{code_next, ends_ascend, left_of}
use Rattle.image_check.proofs.reading.read_code.Goals as goal

-- src/reading.rt:43:19
pub overflow_cast-size : goal.overflow_cast-size
overflow_cast-size g c =
    let within = left_of c.args.own.now c.behind.result.now c.loop-found.size c.in-Some.found.1
    c.behind.ensures c.in-Some.ensures.within c.loop-found.invariant.1 in
    omega (arith, within, c.requires.short)

pub loop-found-smaller : goal.loop-found-smaller
loop-found-smaller g c =
    let within = left_of c.args.own.now c.behind.result.now c.loop-found.size c.in-Some.found.1
    c.behind.ensures c.in-Some.ensures.within c.loop-found.invariant.1 in
    omega (arith, within, c.in-Some.ensures.len.least)

pub loop-found-preserved : goal.loop-found-preserved
loop-found-preserved g c =
    let within = left_of c.args.own.now c.behind.result.now c.loop-found.size c.in-Some.found.1
    c.behind.ensures c.in-Some.ensures.within c.loop-found.invariant.1 in
    let more = code_next g.T.Processor.instructions g.T.Processor.fits c.args.own.now c.behind.result.now c.args.entry
    c.loop-found.code.items c.push.new.self.items c.loop-found.ends.items c.push-in-Some.new.self.items c.loop-found.size
    c.in-Some.found.1 c.in-Some.found.0 c.loop-found.invariant.0 c.behind.ensures c.in-Some.ensures.some
    c.in_ok-push.ensures.items c.in_ok-push-2.ensures.items in
    (more, within)

pub returns-clause-rising : goal.returns-clause-rising
returns-clause-rising g c = ends_ascend g.T.Processor.instructions g.T.Processor.fits g.T.Processor.QUANTUM g.met.T.Processor.lengths
    c.args.own.now c.args.entry c.loop-found.code.items c.loop-found.ends.items c.loop-found.size c.loop-found.invariant.0
