use Rattle.std.proofs.Common.{◌≡◌, ℕ, List, Some, take}
use Rattle.goasm.proofs.words.words.Given as goal

abbrev pub invariant-loop-number : goal.invariant-loop-number
invariant-loop-number g l =
    (words : List (List ℕ)) → g.A.Arguments.list l.arguments ≡ Some words → l.list.items ≡ take l.number words
