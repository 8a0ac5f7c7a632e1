-- How the code's values are seen.
use Rattle.std.specs.Prelude.{◌≡◌, List, Option, Some, None}
use Rattle.std.specs.Option.{option_map}
use Rattle.std.specs.Borrow.{Bor}
use Rattle.asm_lex.specs.declared.token.Token.{Token}
use Rattle.asm_macro.specs.declared.placed.Placed.{Placed}
use Rattle.asm_macro.specs.declared.macros.Macro.{Macro}
use Rattle.asm_macro.specs.declared.macros.Macros.{Macros}
use Rattle.asm_macro.specs.declared.arguments.Arguments as declared_arguments
use Rattle.asm_macro.specs.declared.work.Produced.{Produced}
use Rattle.asm_macro.specs.declared.work.Met as declared_met
use Rattle.asm_macro.specs.declared.files.Position.{Position}
use Rattle.asm_macro.specs.declared.files.Environment.{Environment}
use Rattle.asm_macro.specs.declared.files.Included.{Included}
use Rattle.asm_macro.specs.declared.files.Progress.{Progress}
use Rattle.asm_macro.specs.declared.built_in.BuiltIn.{BuiltIn}
use Rattle.asm_macro.specs.declared.built_in.BuiltIn.TheVariants.{Textflag, Funcdata}
use Rattle.asm_macro.specs.declared.built_in.Row.{Row}
use Rattle.asm_macro.specs.declared.built_in.Rows.{Rows}
use Rattle.asm_directive.specs.declared.names.NameMap.{NameMap}
use Rattle.asm_directive.specs.Names.{Names}
use Rattle.asm_directive.specs.Views.{names_of, parameters_if}
use Rattle.asm_macro.specs.Definitions.{Definition, Definitions}
use Rattle.asm_macro.specs.Arguments.{Arguments}
use Rattle.asm_macro.specs.Uses.{Work, Front, Ended, Met}
use Rattle.asm_macro.specs.BuiltIn.{textflag, funcdata}
use Rattle.asm_macro.specs.Files.{Context, State, Place}

abbrev pub definition_of : Macro → Definition
definition_of macro = record { parameters = parameters_if macro.parameters; body = macro.body.now; origin = macro.origin }

-- the macros that a map has
abbrev pub macros_in : NameMap Macro → Definitions
macros_in macros name = option_map definition_of (names_of macros name)

-- a name's own macro, or none where it is undefined, before a given one
abbrev pub own_first : Option (Option Macro) → Option Definition → Option Definition
own_first None given = given
own_first (Some own) given = option_map definition_of own

unfoldable pub definitions_of : Macros → Definitions
definitions_of macros name = own_first (names_of macros.own name) (macros_in macros.given.now name)

abbrev pub arguments_of : declared_arguments.Arguments → List Placed → Arguments
arguments_of arguments rest = record { lists = arguments.lists.items; levels = arguments.levels; rest = rest }

abbrev pub taken_as : Option declared_arguments.Arguments → List Placed → Option Arguments
taken_as None rest = None
taken_as (Some arguments) rest = Some (arguments_of arguments rest)

abbrev pub work_of : Produced → Work
work_of produced = record { out = produced.out.items; room = produced.room; uses = produced.uses }

abbrev pub front_of : Option declared_met.Met → List Placed → Work → Front
front_of None pending work = Ended work
front_of (Some met) pending work = Met met.name (definition_of met.definition.now) pending work

abbrev pub rows_in : Rows → BuiltIn → List Row
rows_in rows Textflag = rows.textflag.items
rows_in rows Funcdata = rows.funcdata.items

abbrev pub AreBuiltIn : Rows → Type 0
AreBuiltIn rows = (rows.textflag.items ≡ textflag) × (rows.funcdata.items ≡ funcdata)

abbrev pub place_of : Position → Place
place_of position = record { mapping = position.mapping; conditions = position.conditions.items }

abbrev pub state_of : Progress → State
state_of progress = record { definitions = definitions_of progress.macros; work = work_of progress.produced }

abbrev pub entered_of : Option (Bor (List Token)) → Option (List Token)
entered_of entered = option_map (λ tokens. tokens.now) entered

abbrev pub file_in : Option Included → Option (List Token)
file_in file = option_map (λ included. included.tokens.now) file

-- the files that a map has
abbrev pub files_in : NameMap Included → Names (List Token)
files_in files name = file_in (names_of files name)

unfoldable pub context_of : Environment → Context
context_of environment = record { includes = files_in environment.includes; files = names_of environment.files }
