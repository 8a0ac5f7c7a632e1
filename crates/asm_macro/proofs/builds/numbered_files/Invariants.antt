use Rattle.std.proofs.Common.{◌≡◌, ◌+◌, drop}
use Rattle.asm_macro.specs.Builds.{numbered}
use Rattle.asm_macro.proofs.NumberLemmas.{numbered_with}
use Rattle.asm_directive.specs.Views.{names_of}
use Rattle.asm_macro.proofs.builds.numbered_files.Given as goal

abbrev pub invariant-loop-name : goal.invariant-loop-name
invariant-loop-name l = record {
  count : l.number ≡ l.greatest + l.name-index;
  rest : numbered_with (l.number + 1) (names_of l.files) (drop l.name-index l.names) ≡ numbered (l.greatest + 1) l.names;
}
