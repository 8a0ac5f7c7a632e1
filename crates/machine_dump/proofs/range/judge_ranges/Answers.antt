use Rattle.std.proofs.Common.{◌≡◌, length, arith}
use Rattle.std.proofs.lemmas.Bool.Decides.{nat_tests}
use Rattle.machine_dump.proofs.JudgeLemmas.{reached_none, reached_next, reached_fault, reached_all}
use Rattle.machine_dump.proofs.range.judge_ranges.Goals as goal

pub loop-rest-init : goal.loop-rest-init
loop-rest-init c = reached_none c.args.body.now

pub returns-in-Err-clause-exact : goal.returns-in-Err-clause-exact
returns-in-Err-clause-exact c =
    reached_fault _ _ _ _ _ _ _ c.loop-rest.invariant c.in-Some.ensures.line c.in-Err.ensures.exact

pub loop-rest-preserved : goal.loop-rest-preserved
loop-rest-preserved c =
    reached_next _ _ _ _ _ _ _ c.loop-rest.invariant c.in-Some.ensures.line c.in-Some.ensures.ended c.in-Some.ensures.size
    c.in-Ok.ensures.exact c.in-Ok.ensures.end

pub returns-clause-exact : goal.returns-clause-exact
returns-clause-exact c =
    let all : length c.loop-rest.rest.now ≡ 0 = grind (arith, nat_tests) in
    (reached_all _ _ _ _ c.loop-rest.invariant all).0

pub returns-clause-body : goal.returns-clause-body
returns-clause-body c =
    let all : length c.loop-rest.rest.now ≡ 0 = grind (arith, nat_tests) in
    (reached_all _ _ _ _ c.loop-rest.invariant all).1
