use Rattle.std.proofs.Common.{◌≡◌, ◌-◌}
use Rattle.std.specs.Prelude.{replicate}
use Rattle.elf_image.specs.Rows.{rows_fault, byte_rows}
use Rattle.elf_image.proofs.gaps.judge_zeros.Given as goal

abbrev pub invariant-loop-at : goal.invariant-loop-at
invariant-loop-at l =
    rows_fault l.bytes l.at (byte_rows (replicate (l.to - l.at) 0))
    ≡ rows_fault l.bytes l.from (byte_rows (replicate (l.to - l.from) 0))
