use Rattle.std.proofs.Common.{◌≡◌, ◌+◌, ◌-◌, ◌*◌, ◌≤◌}
use Rattle.elf_image.specs.Symbols.{symbols_read, first_reading}
use Rattle.elf_image.proofs.symbols.read_symbols.Given as goal

abbrev pub invariant-loop-index : goal.invariant-loop-index
invariant-loop-index l = record {
  rest : symbols_read l.names l.bytes l.entry (l.count - l.index) l.reading (l.start + 24 * l.index)
      ≡ symbols_read l.names l.bytes l.entry l.count first_reading l.start;
  locals : l.reading.locals ≤ l.index + 1;
}
