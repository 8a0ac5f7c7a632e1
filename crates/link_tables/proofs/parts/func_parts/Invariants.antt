use Rattle.std.proofs.Common.{◌≡◌, map, take}
use Rattle.link_tables.specs.Table.{part_of}
use Rattle.link_tables.proofs.parts.func_parts.Given as goal

abbrev pub invariant-loop-func : goal.invariant-loop-func
invariant-loop-func g l = record {
  same : l.files ≡ l.initial.files;
  told : l.parts.items ≡ map (part_of l.initial.files.build l.initial.files.used) (take l.func-index l.funcs);
}
