use Rattle.std.proofs.Common.{◌≡◌, length}
use Rattle.std.specs.Prelude.{All}
use Rattle.link_names.specs.Definitions.{each}
use Rattle.link_values.specs.Values.{part_writes}
use Rattle.link_values.specs.Written.{IsInside, written_over}
use Rattle.link_values.proofs.EachLemmas.{Rest}
use Rattle.link_values.proofs.writing.write_parts.Given as goal

abbrev pub invariant-loop-part : goal.invariant-loop-part
invariant-loop-part l = record {
  written : written_over l.bytes (Rest (part_writes l.names l.places l.addresses l.unit l.symbols) l.parts l.part-index)
      ≡ written_over l.initial.bytes (each (part_writes l.names l.places l.addresses l.unit l.symbols) l.parts);
  inside : All (IsInside (length l.bytes)) (Rest (part_writes l.names l.places l.addresses l.unit l.symbols) l.parts l.part-index);
}
