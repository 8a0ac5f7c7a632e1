use Rattle.std.proofs.Common.{◌≡◌, map, take}
use Rattle.link_tables.specs.Rows.{depth_stretch}
use Rattle.link_tables.proofs.stretches.depth_stretches.Given as goal

abbrev pub invariant-loop-row : goal.invariant-loop-row
invariant-loop-row l = l.stretches.items ≡ map depth_stretch (take l.row-index l.rows)
