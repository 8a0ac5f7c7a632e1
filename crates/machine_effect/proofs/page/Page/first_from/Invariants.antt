use Rattle.std.proofs.Common.{◌≡◌, ℕ, ◌<◌, ◌≤◌, None}
use Rattle.machine_effect.specs.Page.{at_place}
use Rattle.machine_effect.proofs.page.Page.first_from.Given as goal

abbrev pub invariant-loop-k : goal.invariant-loop-k
invariant-loop-k l = (k : ℕ) → l.place ≤ k → k < l.k → at_place l.self.places.items k ≡ None
