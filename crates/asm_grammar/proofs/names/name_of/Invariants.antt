use Rattle.std.proofs.Common.{◌≡◌, ◌++◌, take}
use Rattle.std.specs.Prelude.{filter_map}
use Rattle.asm_grammar.specs.Names.{package_of, name_byte}
use Rattle.asm_grammar.proofs.names.name_of.Given as goal

abbrev pub invariant-loop-byte : goal.invariant-loop-byte
invariant-loop-byte l = l.bytes.items ≡ package_of l.word ++ filter_map name_byte (take l.byte-index l.word)
