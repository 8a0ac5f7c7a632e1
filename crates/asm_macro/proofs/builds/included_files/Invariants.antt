use Rattle.std.proofs.Common.{◌≡◌, drop}
use Rattle.asm_directive.specs.Names.{nothing}
use Rattle.asm_macro.specs.Builds.{included}
use Rattle.asm_macro.specs.Views.{files_in}
use Rattle.asm_macro.proofs.builds.included_files.Given as goal

abbrev pub invariant-loop-name : goal.invariant-loop-name
invariant-loop-name l = included (files_in l.files) (drop l.name-index l.includes) ≡ included nothing l.includes
