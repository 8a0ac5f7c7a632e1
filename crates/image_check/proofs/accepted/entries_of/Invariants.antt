use Rattle.std.proofs.Common.{◌≡◌, ℕ, ◌<◌, length, slice_index}
use Rattle.image_rules.specs.Parts.{offset_in}
use Rattle.image_check.proofs.accepted.entries_of.Given as goal

abbrev pub invariant-loop-index : goal.invariant-loop-index
invariant-loop-index l = record {
  count : length l.entries.items ≡ l.index;
  each : (number : ℕ) → number < l.index → slice_index l.entries.items number ≡ offset_in l.image number;
}
