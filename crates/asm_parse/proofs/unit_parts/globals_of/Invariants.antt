use Rattle.std.proofs.Common.{◌≡◌, length, map, take}
use Rattle.std.specs.Prelude.{All}
use Rattle.asm_parse.specs.Parse.{global_of}
use Rattle.asm_parse.specs.Valid.{IsValidGlobal}
use Rattle.asm_parse.proofs.unit_parts.globals_of.Given as goal

abbrev pub invariant-loop-global : goal.invariant-loop-global
invariant-loop-global l = record {
  exact : l.globals.items ≡ map (global_of l.symbols) (take l.global-index l.placed);
  valid : All (IsValidGlobal (length l.symbols)) l.globals.items;
}
