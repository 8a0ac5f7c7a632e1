use Rattle.std.proofs.Common.{◌≡◌, ℕ, ◌<◌, ◌||◌, length, drop, false, get_or}
use Rattle.std.specs.List.{list_any}
use Rattle.obj_rewrite.specs.Words as words
use Rattle.obj_rewrite.proofs.goals.mark_labels.Given as goal

abbrev pub invariant-loop-operand : goal.invariant-loop-operand
invariant-loop-operand l =
    (number : ℕ) → number < length l.fn.goals
    → (get_or l.goals number false || list_any (words.is_label number) (drop l.operand-index l.operands))
    ≡ (get_or l.fn.goals number false || list_any (words.is_label number) l.operands)
