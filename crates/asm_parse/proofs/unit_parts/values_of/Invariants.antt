use Rattle.std.proofs.Common.{◌≡◌, length, map, take}
use Rattle.std.specs.Prelude.{All}
use Rattle.asm_parse.specs.Parse.{value_of}
use Rattle.asm_parse.specs.Valid.{IsValidData}
use Rattle.asm_parse.proofs.unit_parts.values_of.Given as goal

abbrev pub invariant-loop-data : goal.invariant-loop-data
invariant-loop-data l = record {
  exact : l.values.items ≡ map (value_of l.symbols) (take l.data-index l.placed);
  valid : All (IsValidData (length l.symbols)) l.values.items;
}
