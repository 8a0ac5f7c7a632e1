use Rattle.std.proofs.Common.{◌≡◌, ◌++◌, ◌∷◌, [], rules}
use Rattle.pcvalue.specs.Steps.{reading_of, point_of}
use Rattle.pcvalue.proofs.SpreadLemmas.{spread_next, stopped}
use Rattle.pcvalue.proofs.cover.values_from.Goals as goal

pub returns-in_default : goal.returns-in_default
returns-in_default c =
    stopped c.args.quantum c.loop-end.end-index 0 c.args.ends.now c.loop-end.step c.loop-end.values.items _
    c.loop-end-test.true c.in_default.not-Another c.loop-end.invariant

pub loop-end-preserved : goal.loop-end-preserved
loop-end-preserved c =
    let items : c.push.new.self.items ≡ c.loop-end.values.items ++ c.in-Another.cursor.run.value ∷ [] = search rules in
    spread_next c.args.quantum c.loop-end.end-index 0 c.args.ends.now (point_of c.in-Another.cursor)
    (reading_of c.behind_stretch-step.result) c.loop-end.values.items c.push.new.self.items _
    c.loop-end-test.true (rw c.in-Another.is at c.loop-end.invariant) items c.behind_stretch-step.ensures
