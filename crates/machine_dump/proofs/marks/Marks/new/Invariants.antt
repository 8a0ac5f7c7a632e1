use Rattle.std.proofs.Common.{◌≡◌, length}
use Rattle.machine_dump.proofs.MarkLemmas.{AreMarked}
use Rattle.machine_dump.proofs.marks.Marks.new.Given as goal

abbrev pub invariant-loop-index : goal.invariant-loop-index
invariant-loop-index l = record {
  marks : AreMarked l.body l.starts l.index;
  count : length l.starts ≡ 4096;
}
