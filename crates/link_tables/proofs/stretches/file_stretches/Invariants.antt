use Rattle.std.proofs.Common.{◌≡◌, map, take}
use Rattle.link_tables.specs.Rows.{file_stretch}
use Rattle.link_tables.proofs.stretches.file_stretches.Given as goal

abbrev pub invariant-loop-row : goal.invariant-loop-row
invariant-loop-row l = record {
  same : l.files ≡ l.initial.files;
  told : l.stretches.items ≡ map (file_stretch l.initial.files.build l.initial.files.used) (take l.row-index l.rows);
}
