use Rattle.std.proofs.Common.{◌<◌, ◌≤◌, ◌-◌, drop, slice_index}
use Rattle.machine_dump.specs.Search.{address_of}
use Rattle.machine_dump.proofs.marks.last_low.Given as goal

abbrev pub invariant-loop-low : goal.invariant-loop-low
invariant-loop-low l = record {
  order : l.low < l.high;
  most : l.high ≤ 4096;
  low : address_of (drop (slice_index l.starts l.low) l.body) ≤ l.at;
  high : l.high < 4096 → l.at < address_of (drop (slice_index l.starts l.high) l.body);
}

abbrev pub decreases-loop-low : goal.decreases-loop-low
decreases-loop-low l = l.high - l.low
