use Rattle.std.proofs.Common.{◌≡◌, drop}
use Rattle.asm_macro.specs.BuiltIn.{with_rows}
use Rattle.asm_macro.specs.Views.{definitions_of}
use Rattle.asm_macro.proofs.built_in.define_rows.Given as goal

abbrev pub invariant-loop-row : goal.invariant-loop-row
invariant-loop-row l =
    with_rows l.file l.pos (definitions_of l.macros) (drop l.row-index l.rows) ≡ with_rows l.file l.pos (definitions_of l.initial.macros) l.rows
