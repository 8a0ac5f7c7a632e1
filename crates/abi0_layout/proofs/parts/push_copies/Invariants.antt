use Rattle.std.proofs.Common.{◌≡◌, ◌-◌, ◌++◌, map, drop}
use Rattle.std.specs.List.{AllByRecursion}
use Rattle.abi0_layout.specs.Parts.{within, EndsBy}
use Rattle.abi0_layout.specs.Layouts.{most_bytes}
use Rattle.abi0_layout.proofs.parts.push_copies.Given as goal

abbrev pub invariant-loop-part : goal.invariant-loop-part
invariant-loop-part l = record {
  so_far : l.to.items ++ map (within l.place.name.now l.place.off) (drop l.part-index l.parts)
      ≡ l.fn.to.items ++ map (within l.place.name.now l.place.off) l.parts;
  within : AllByRecursion (EndsBy (most_bytes - l.place.off)) (drop l.part-index l.parts);
}
