use Rattle.std.proofs.Common.{ℕ, List, Option, ap}
use Rattle.asm_macro.specs.declared.macros.Macro.{Macro}
use Rattle.asm_directive.specs.Names.{Names}
use Rattle.asm_macro.specs.Views.{definitions_of, macros_in, own_first}
use Rattle.asm_macro.proofs.macros.Macros.new.Goals as goal

pub returns : goal.returns
unfolding definitions_of
returns c = ap (λ (own : Names (Option Macro)). (λ (name : List ℕ). own_first (own name) (macros_in c.args.given.now name))) c.new.ensures
