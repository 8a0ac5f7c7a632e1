use Rattle.std.proofs.Common.{◌≡◌, ◌++◌, length}
use Rattle.asm_grammar.specs.Texts.{unescaped, bytes_of}
use Rattle.asm_grammar.proofs.texts.bytes_of.Given as goal

abbrev pub invariant-loop-rest : goal.invariant-loop-rest
invariant-loop-rest l = l.bytes.items ++ unescaped 0 l.rest ≡ bytes_of l.text

abbrev pub decreases-loop-rest : goal.decreases-loop-rest
decreases-loop-rest l = length l.rest
