use Rattle.std.proofs.Common.{[], ◌∷◌}
use Rattle.elf_image.specs.Written.{name_bytes}
use Rattle.byte_layout.proofs.PushedLemmas.{Pushed}
use Rattle.elf_image.proofs.write_symbols.string_bytes.Given as goal

abbrev pub invariant-loop-part : goal.invariant-loop-part
invariant-loop-part l = Pushed name_bytes (0 ∷ []) l.bytes.items l.symbols l.part-index
