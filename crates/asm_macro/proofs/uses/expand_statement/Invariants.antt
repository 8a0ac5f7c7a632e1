use Rattle.std.proofs.Common.{◌≡◌}
use Rattle.asm_macro.specs.Uses.{run, expand_statement}
use Rattle.asm_macro.specs.Views.{definitions_of, work_of}
use Rattle.asm_macro.proofs.uses.expand_statement.Given as goal

abbrev pub invariant-loop-pending : goal.invariant-loop-pending
invariant-loop-pending l =
    run l.produced.uses (definitions_of l.macros) l.pos l.found l.pending (work_of l.produced)
    ≡ expand_statement (definitions_of l.macros) l.pos l.initial.pending (work_of l.initial.produced)

abbrev pub decreases-loop-pending : goal.decreases-loop-pending
decreases-loop-pending l = l.produced.uses
