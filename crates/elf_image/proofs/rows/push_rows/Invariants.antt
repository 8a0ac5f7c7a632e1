use Rattle.elf_image.specs.Rows.{row_bytes}
use Rattle.byte_layout.proofs.PushedLemmas.{Pushed}
use Rattle.elf_image.proofs.rows.push_rows.Given as goal

abbrev pub invariant-loop-row : goal.invariant-loop-row
invariant-loop-row l = Pushed row_bytes l.fn.bytes.items l.bytes.items l.rows l.row-index
