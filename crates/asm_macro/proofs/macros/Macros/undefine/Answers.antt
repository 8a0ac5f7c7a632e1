use Rattle.std.proofs.Common.{ℕ, List, Option, None, ap, ◌∙◌}
use Rattle.asm_macro.specs.declared.macros.Macro.{Macro}
use Rattle.asm_directive.specs.Names.{Names}
use Rattle.asm_directive.specs.Views.{names_of}
use Rattle.asm_macro.specs.Views.{definitions_of, macros_in, own_first}
use Rattle.asm_macro.proofs.MacroNameLemmas.{own_put}
use Rattle.asm_macro.proofs.macros.Macros.undefine.Goals as goal

pub returns : goal.returns
unfolding definitions_of
returns c =
    ap (λ (own : Names (Option Macro)). (λ (name : List ℕ). own_first (own name) (macros_in c.args.self.now.given.now name))) c.in_ok-put.ensures
    ∙ own_put (names_of c.args.self.now.own) (macros_in c.args.self.now.given.now) c.args.name.now None
