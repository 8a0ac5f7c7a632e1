-- The arguments of a use: what stands between the commas of the brackets behind its name. A comma inside further
-- brackets separates nothing, and no list goes past the end of a statement.
use Rattle.std.specs.Prelude.{ℕ, Bool, true, false, List, [], ◌∷◌, ◌+◌, ◌-◌, ◌==◌, ◌&&◌, ◌||◌, length, Option, Some, None, if◌then◌else◌}
use Rattle.std.specs.List.{onto_first}
use Rattle.std.specs.Option.{option_map}
use Rattle.asm_macro.specs.declared.placed.Placed.{Placed}
use Rattle.asm_macro.specs.declared.arguments.Part.{Part}
use Rattle.asm_macro.specs.declared.arguments.Part.TheVariants.{End, Close, Comma, Inside}
use Rattle.asm_directive.specs.Tokens.{is_end, is_sign, opening, closing, comma}
use Rattle.asm_directive.specs.Directives.{Parameters}

pub record Arguments : Type 0 where
  pub lists : List (List Placed)
  -- how many levels may nest behind them
  pub levels : ℕ
  -- what stands behind them
  pub rest : List Placed

-- what a token is inside this many further brackets: a statement's end, the end of the list, a comma, or a part of an
-- argument, with how many brackets are open behind it
unfoldable pub part_of : ℕ → Placed → Part
part_of nest placed =
    if is_end placed.token then End
    else (if is_sign closing placed.token then (if nest == 0 then Close else Inside (nest - 1))
    else (if is_sign opening placed.token then Inside (nest + 1)
    else (if nest == 0 && is_sign comma placed.token then Comma
    else Inside nest)))

-- an empty argument before the others
abbrev pub with_empty : Arguments → Arguments
with_empty arguments = record { lists = [] ∷ arguments.lists; levels = arguments.levels; rest = arguments.rest }

-- a token before those of the first argument
abbrev pub with_front : Placed → Arguments → Arguments
with_front placed arguments =
    record { lists = onto_first placed arguments.lists; levels = arguments.levels; rest = arguments.rest }

-- the parts between commas, up to the bracket that closes the list, inside this many further brackets
unfoldable pub arguments_from : ℕ → List Placed → Option Arguments
arguments_from nest [] = None
arguments_from nest (placed ∷ rest) =
    elim (part_of nest placed) [
      | End ↦ None
      | Close ↦ Some (record { lists = [] ∷ []; levels = placed.levels; rest = rest })
      | Comma ↦ option_map with_empty (arguments_from nest rest)
      | Inside deeper ↦ option_map (with_front placed) (arguments_from deeper rest)
    ]

-- those behind a name; `None` where no list stands there, or one that is open
unfoldable pub arguments_behind : List Placed → Option Arguments
arguments_behind [] = None
arguments_behind (placed ∷ rest) = if is_sign opening placed.token then arguments_from 0 rest else None

-- what a use of a macro takes: a macro without parameters takes nothing
abbrev pub taken_by : Option Parameters → Placed → List Placed → Option Arguments
taken_by None name rest = Some (record { lists = []; levels = name.levels; rest = rest })
taken_by (Some parameters) name rest = arguments_behind rest

-- one argument that is empty
abbrev pub is_blank : List (List Placed) → Bool
is_blank [] = false
is_blank ([] ∷ []) = true
is_blank ([] ∷ list ∷ lists) = false
is_blank ((placed ∷ list) ∷ lists) = false

-- as many arguments as parameters. Empty brackets are no argument of a macro that takes none, and an empty one of a
-- macro that takes one
abbrev pub fit : Option Parameters → List (List Placed) → Bool
fit None lists = true
fit (Some parameters) lists = length lists == parameters.count || (parameters.count == 0 && is_blank lists)
