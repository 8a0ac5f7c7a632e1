use Rattle.elf_image.proofs.WriteLemmas.{HasSymbolsTo}
use Rattle.elf_image.proofs.write_symbols.symbol_bytes.Given as goal

abbrev pub invariant-loop-part : goal.invariant-loop-part
invariant-loop-part l = HasSymbolsTo l.symbols l.bytes.items l.place l.part-index
