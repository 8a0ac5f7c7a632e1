use Rattle.std.proofs.Common.{◌≡◌, ◌++◌, vec_len}
use Rattle.asm_macro.proofs.pending.Pending.push_all.Given as goal

abbrev pub invariant-loop-placed : goal.invariant-loop-placed
invariant-loop-placed l = l.tokens.items ++ l.self ≡ l.initial.tokens.items ++ l.initial.self

abbrev pub decreases-loop-placed : goal.decreases-loop-placed
decreases-loop-placed l = vec_len l.tokens
