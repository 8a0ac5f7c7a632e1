use Rattle.std.proofs.Common.{◌≡◌, ◌-◌, ◌++◌, map}
use Rattle.abi0_layout.specs.Parts.{within, elements}
use Rattle.abi0_layout.proofs.parts.push_elements.Given as goal

abbrev pub invariant-loop-index : goal.invariant-loop-index
invariant-loop-index l =
    l.to.items ++ map (within l.place.name.now l.place.off) (elements (l.count - l.index) l.index l.size l.parts)
    ≡ l.fn.to.items ++ map (within l.place.name.now l.place.off) (elements l.count 0 l.size l.parts)
