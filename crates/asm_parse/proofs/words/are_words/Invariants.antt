use Rattle.std.proofs.Common.{◌≡◌, ℕ, Bool, List, drop}
use Rattle.asm_parse.specs.Words.{are_words, Tells}
use Rattle.asm_parse.proofs.words.are_words.Given as goal

abbrev pub invariant-loop-operand : goal.invariant-loop-operand
invariant-loop-operand g l = (word : List ℕ → Bool) → Tells (λ name answer. g.W.Fn.post l.is_word (name, tt) answer) word
    → are_words word (drop l.operand-index l.operands) ≡ are_words word l.operands
