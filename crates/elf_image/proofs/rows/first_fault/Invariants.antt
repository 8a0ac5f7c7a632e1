use Rattle.std.proofs.Common.{◌≡◌, ◌+◌, drop}
use Rattle.elf_image.specs.Rows.{rows_fault, rows_size}
use Rattle.elf_image.proofs.rows.first_fault.Given as goal

abbrev pub invariant-loop-row : goal.invariant-loop-row
invariant-loop-row l = record {
  fault : rows_fault l.bytes l.place (drop l.row-index l.rows) ≡ rows_fault l.bytes l.fn.at l.rows;
  room : l.place + rows_size (drop l.row-index l.rows) ≡ l.fn.at + rows_size l.rows;
}
