use Rattle.std.proofs.Common.{◌≡◌, drop}
use Rattle.asm_directive.specs.Names.{nothing}
use Rattle.asm_macro.specs.Builds.{defined}
use Rattle.asm_macro.specs.Views.{macros_in}
use Rattle.asm_macro.proofs.builds.given_macros.Given as goal

abbrev pub invariant-loop-name : goal.invariant-loop-name
invariant-loop-name l = defined (macros_in l.macros) (drop l.name-index l.defines) ≡ defined nothing l.defines
