use Rattle.std.proofs.Common.{◌≡◌, length}
use Rattle.std.specs.Prelude.{All}
use Rattle.link_values.specs.Values.{unit_writes, writes_of}
use Rattle.link_values.specs.Written.{IsInside, written_over}
use Rattle.link_values.proofs.EachLemmas.{Rest}
use Rattle.link_values.proofs.writing.write_units.Given as goal

abbrev pub invariant-loop-number : goal.invariant-loop-number
invariant-loop-number l = record {
  written : written_over l.bytes (Rest (unit_writes l.names l.places l.addresses) l.units l.number)
      ≡ written_over l.initial.bytes (writes_of l.names l.places l.addresses l.units);
  inside : All (IsInside (length l.bytes)) (Rest (unit_writes l.names l.places l.addresses) l.units l.number);
}
