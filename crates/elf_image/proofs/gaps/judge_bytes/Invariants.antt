use Rattle.std.proofs.Common.{◌≡◌, ◌+◌, drop}
use Rattle.elf_image.specs.Rows.{rows_fault, byte_rows}
use Rattle.elf_image.proofs.gaps.judge_bytes.Given as goal

abbrev pub invariant-loop-index : goal.invariant-loop-index
invariant-loop-index l =
    rows_fault l.bytes (l.at + l.index) (byte_rows (drop l.index l.wanted)) ≡ rows_fault l.bytes l.at (byte_rows l.wanted)
