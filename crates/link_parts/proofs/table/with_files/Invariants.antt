use Rattle.std.proofs.Common.{◌≡◌, ◌+◌, ◌^◌, length, take, min}
use Rattle.std.specs.Prelude.{sum_by}
use Rattle.link_parts.proofs.table.with_files.Given as goal

abbrev pub invariant-loop-file : goal.invariant-loop-file
invariant-loop-file l = l.total ≡ min (l.size + sum_by (λ file. length file + 1) (take l.file-index l.files)) (2 ^ 32)
