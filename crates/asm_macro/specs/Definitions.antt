-- Macros.
use Rattle.std.specs.Prelude.{List, Option, None, if◌then◌else◌}
use Rattle.asm_lex.specs.declared.token.Token.{Token}
use Rattle.asm_macro.specs.declared.built_in.BuiltIn.{BuiltIn}
use Rattle.asm_directive.specs.Names.{Names}
use Rattle.asm_directive.specs.Tokens.{is_word}
use Rattle.asm_directive.specs.Directives.{Parameters, Named}

pub record Definition : Type 0 where
  -- of a macro that takes arguments
  pub parameters : Option Parameters
  pub body : List Token
  -- the built-in file that defines it, where one does
  pub origin : Option BuiltIn

-- the macro that a `#define` makes
abbrev pub definition_by : Named → Definition
definition_by named = record { parameters = named.parameters; body = named.body; origin = None }

-- the macros in force, by name
abbrev pub Definitions : Type 0
Definitions = Names Definition

-- the macro that a token names
unfoldable pub in_force : Definitions → Token → Option Definition
in_force definitions token = if is_word token then definitions token.text else None
