use Rattle.std.proofs.Common.{◌≡◌, ℕ, ◌+◌, ◌-◌, ◌*◌, ◌^◌, ◌<◌, ◌≤◌, None}
use Rattle.machine_effect.specs.Page.{page_size}
use Rattle.machine_effect.specs.Pages.{byte_in}
use Rattle.machine_effect.proofs.pages.first_from.Given as goal

abbrev pub invariant-loop-found : goal.invariant-loop-found
invariant-loop-found l = record {
  from_on : l.from ≤ page_size * l.number + l.place;
  within : l.place < page_size;
  low : l.number ≤ 2 ^ 52;
  none : (q : ℕ) → l.from ≤ q → q < page_size * l.number + l.place → byte_in l.pages q ≡ None;
}

abbrev pub decreases-loop-found : goal.decreases-loop-found
decreases-loop-found l = 2 ^ 52 - l.number
