use Rattle.std.proofs.Common.{◌≡◌}
use Rattle.asm_macro.specs.Files.{read_file}
use Rattle.asm_macro.specs.Views.{context_of, place_of, state_of}
use Rattle.asm_macro.proofs.FileLemmas.{rest_of_file}
use Rattle.asm_macro.proofs.files.+read_file.Given as goal

abbrev pub decreases-read_file : goal.decreases-read_file
decreases-read_file l = l.levels

abbrev pub invariant-loop-statement : goal.invariant-loop-statement
invariant-loop-statement l =
    rest_of_file l.levels (context_of l.environment) l.statement-items l.statement-index (place_of l.position) (state_of l.progress)
    ≡ read_file l.levels (context_of l.environment) l.tokens (state_of l.initial.progress)
