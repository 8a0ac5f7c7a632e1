use Rattle.std.proofs.Common.{◌≡◌, ℕ, Bool, List, drop}
use Rattle.asm_parse.specs.Words.{Tells}
use Rattle.asm_parse.specs.Resolve.{has_unknown}
use Rattle.asm_parse.proofs.resolve.has_unknown.Given as goal

abbrev pub invariant-loop-draft : goal.invariant-loop-draft
invariant-loop-draft g l = (word : List ℕ → Bool) → Tells (λ name answer. g.W.Fn.post l.is_word (name, tt) answer) word → has_unknown word l.body (drop l.draft-index l.drafts) ≡ has_unknown word l.body l.drafts
