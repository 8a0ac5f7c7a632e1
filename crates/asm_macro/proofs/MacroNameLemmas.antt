-- Macros by their names.
use std.Path.{fun_ext}
use Rattle.std.proofs.Common.{◌≡◌, ℕ, Bool, true, false, cond, List, Option, Some, refl, bytes_eq}
use Rattle.std.specs.Option.{option_map}
use Rattle.asm_macro.specs.declared.macros.Macro.{Macro}
use Rattle.asm_directive.specs.Names.{Names, with_name}
use Rattle.asm_macro.specs.Definitions.{Definition, Definitions}
use Rattle.asm_macro.specs.Views.{definition_of, own_first}

chosen : {S T : Type 0} (f : S → T) (same : Bool) (one two : Option S)
    → option_map f (cond same one two) ≡ cond same (option_map f one) (option_map f two)
chosen f true one two = refl
chosen f false one two = refl

-- a function of all values
pub map_name : {S T : Type 0} (f : S → T) (names : Names S) (name : List ℕ) (value : Option S)
    → (λ other. option_map f (with_name names name value other)) ≡ with_name (λ other. option_map f (names other)) name (option_map f value)
unfolding with_name
map_name f names name value = fun_ext (λ other. chosen f (bytes_eq name other) value (names other))

own_chosen : (same : Bool) (value own : Option (Option Macro)) (given : Option Definition)
    → own_first (cond same value own) given ≡ cond same (own_first value given) (own_first own given)
own_chosen true value own given = refl
own_chosen false value own given = refl

-- a name that a source defines or undefines
pub own_put : (own : Names (Option Macro)) (given : Definitions) (name : List ℕ) (value : Option Macro)
    → (λ other. own_first (with_name own name (Some value) other) (given other))
    ≡ with_name (λ other. own_first (own other) (given other)) name (option_map definition_of value)
unfolding with_name
own_put own given name value = fun_ext (λ other. own_chosen (bytes_eq name other) (Some value) (own other) (given other))
