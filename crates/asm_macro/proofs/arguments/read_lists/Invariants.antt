use Rattle.std.proofs.Common.{◌≡◌, length}
use Rattle.asm_macro.specs.Arguments.{arguments_from}
use Rattle.asm_macro.proofs.ArgumentLemmas.{arguments_with}
use Rattle.asm_macro.proofs.arguments.read_lists.Given as goal

abbrev pub invariant-loop-placed : goal.invariant-loop-placed
invariant-loop-placed l = arguments_with l.nest l.lists.items l.list.items l.pending ≡ arguments_from 0 l.initial.pending

abbrev pub decreases-loop-placed : goal.decreases-loop-placed
decreases-loop-placed l = length l.pending
