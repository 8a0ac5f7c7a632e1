use Rattle.std.proofs.Common.{◌≡◌, ◌≤◌, drop}
use Rattle.asm_directive.specs.Directives.{words_in, head_by}
use Rattle.asm_directive.specs.Views.{names_of}
use Rattle.asm_directive.proofs.HeadLemmas.{head_from}
use Rattle.asm_directive.proofs.forms.head_from.Given as goal

abbrev pub invariant-loop-at : goal.invariant-loop-at
invariant-loop-at l = record {
  count : l.count ≤ l.at;
  rest : head_from l.wants_name l.count (names_of l.places) (drop l.at l.tokens) ≡ head_by (words_in l.tokens);
}
