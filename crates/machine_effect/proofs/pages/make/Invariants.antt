use Rattle.std.proofs.Common.{ℕ, ◌<◌, ◌≤◌}
use Rattle.machine_effect.specs.Pages.{HasPage, HasLowPages, SameBytes}
use Rattle.machine_effect.proofs.pages.make.Given as goal

abbrev pub invariant-loop-number : goal.invariant-loop-number
invariant-loop-number l = record {
  same : SameBytes l.initial.pages l.pages;
  low : HasLowPages l.initial.pages → HasLowPages l.pages;
  made : (n : ℕ) → l.first ≤ n → n < l.number → HasPage l.pages n;
}
