use Rattle.std.proofs.Common.{◌++◌, drop}
use Rattle.link_places.specs.Addresses.{TellsAs}
use Rattle.link_values.specs.Kept.{placed}
use Rattle.link_values.proofs.bytes.places_by_meaning.Given as goal

abbrev pub invariant-loop-number : goal.invariant-loop-number
invariant-loop-number l = TellsAs (l.places ++ placed (drop l.number l.kept) (drop l.number l.at)) (placed l.kept l.at)
