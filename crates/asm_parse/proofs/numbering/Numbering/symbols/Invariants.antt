use Rattle.std.proofs.Common.{◌≡◌, ◌-◌, ◌≤◌, map, take, length, vec_len}
use Rattle.std.specs.Prelude.{All}
use Rattle.asm_parse.specs.Numbering.{key_seen}
use Rattle.asm_parse.specs.Parse.{symbol_of}
use Rattle.asm_parse.specs.Valid.{IsValidSymbol}
use Rattle.asm_parse.proofs.numbering.Numbering.symbols.Given as goal

abbrev pub invariant-loop-key : goal.invariant-loop-key
invariant-loop-key l = record {
  within : vec_len l.symbols ≤ length l.self-inside.names.keys;
  items : l.symbols.items ≡ map symbol_of (take (vec_len l.symbols) (map key_seen l.self-inside.names.keys));
  valid : All IsValidSymbol l.symbols.items;
}

abbrev pub decreases-loop-key : goal.decreases-loop-key
decreases-loop-key l = length l.self-inside.names.keys - vec_len l.symbols
