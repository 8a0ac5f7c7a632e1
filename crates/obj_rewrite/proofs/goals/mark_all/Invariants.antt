use Rattle.std.proofs.Common.{◌≡◌, ℕ, ◌<◌, ◌||◌, length, drop, false, get_or}
use Rattle.obj_rewrite.specs.Words as words
use Rattle.obj_rewrite.proofs.goals.mark_all.Given as goal

abbrev pub invariant-loop-stmt : goal.invariant-loop-stmt
invariant-loop-stmt l =
    (number : ℕ) → number < length l.fn.goals
    → (get_or l.goals number false || words.is_goal (drop l.stmt-index l.stmts) number)
    ≡ (get_or l.fn.goals number false || words.is_goal l.stmts number)
