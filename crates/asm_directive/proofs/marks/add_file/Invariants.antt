use Rattle.std.proofs.Common.{◌≡◌, ◌++◌, map, drop}
use Rattle.std.specs.List.{flat_map}
use Rattle.asm_directive.specs.LineNames.{names_by}
use Rattle.asm_directive.specs.Views.{statement_of}
use Rattle.asm_directive.proofs.marks.add_file.Given as goal

abbrev pub invariant-loop-statement : goal.invariant-loop-statement
invariant-loop-statement l =
    l.names.items ++ flat_map names_by (map statement_of (drop l.statement-index l.statement-items))
    ≡ l.initial.names.items ++ flat_map names_by (map statement_of l.statement-items)
