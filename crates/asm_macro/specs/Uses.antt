-- Uses of macros. The tokens of a use stand in place of its name and arguments, and what stands there is read again,
-- one level deeper. All of them have the use's position.
use Rattle.std.specs.Prelude.{ℕ, zero, suc, List, [], ◌∷◌, ◌++◌, ◌-◌, ◌==◌, map, slice_index_or, Option, Some, None, Result, Ok, Err, if◌then◌else◌}
use Rattle.goasm_base.specs.declared.pos.Pos.{Pos}
use Rattle.asm_lex.specs.declared.token.Token.{Token}
use Rattle.asm_macro.specs.declared.placed.Placed.{Placed}
use Rattle.asm_macro.specs.declared.refusal.MacroNo.{MacroNo}
use Rattle.asm_macro.specs.declared.cause.Cause.{Cause}
use Rattle.asm_macro.specs.declared.cause.Cause.TheVariants.{ArgumentCount, MissingArguments, Nesting, TooMany}
use Rattle.asm_macro.specs.Refusals.{lower, refusal}
use Rattle.asm_directive.specs.Tokens.{is_word}
use Rattle.asm_directive.specs.Directives.{Parameters}
use Rattle.asm_macro.specs.Definitions.{Definition, Definitions, in_force}
use Rattle.asm_macro.specs.Arguments.{Arguments, taken_by, fit}

-- what is made, and what may still be
pub record Work : Type 0 where
  -- the tokens of the result so far
  pub out : List Token
  -- how many tokens more the results may have
  pub room : ℕ
  -- how many uses more there may be
  pub uses : ℕ

-- a token with this position and so many levels left
unfoldable pub placed_at : Pos → ℕ → Token → Placed
placed_at pos levels token = record { token = record token { pos = pos }; levels = levels }

-- which parameter a token of a body names
abbrev pub parameter_in : Option Parameters → Token → Option ℕ
parameter_in None token = None
parameter_in (Some parameters) token = if is_word token then parameters.place token.text else None

-- what stands for a token of a body: an argument's tokens for the name of a parameter
abbrev pub tokens_for : Pos → ℕ → List (List Placed) → Token → Option ℕ → List Placed
tokens_for pos levels lists token None = placed_at pos levels token ∷ []
tokens_for pos levels lists token (Some place) = map (λ placed. placed_at pos levels placed.token) (slice_index_or lists place [])

-- a body with its arguments put in
unfoldable pub substitution : Pos → ℕ → Option Parameters → List (List Placed) → List Token → List Placed
substitution pos levels parameters lists [] = []
substitution pos levels parameters lists (token ∷ body) =
    tokens_for pos levels lists token (parameter_in parameters token) ++ substitution pos levels parameters lists body

-- what is to be read behind a use, and the lowest cause that was found
pub record Read : Type 0 where
  pub pending : List Placed
  pub found : Option Cause

abbrev pub with_cause : Option Cause → Cause → List Placed → Read
with_cause found cause pending = record { pending = pending; found = Some (lower found cause) }

-- without its arguments a use stands for nothing, and reading goes on behind its name; with too many or too few, or
-- where no level is left, reading goes on behind the arguments
abbrev pub use_with : Option Cause → Definition → Placed → List Placed → Option Arguments → Read
use_with found definition name rest None = with_cause found MissingArguments rest
use_with found definition name rest (Some arguments) =
    if fit definition.parameters arguments.lists
    then (if arguments.levels == 0 then with_cause found Nesting arguments.rest
    else record {
      pending = substitution name.token.pos (arguments.levels - 1) definition.parameters arguments.lists definition.body ++ arguments.rest;
      found = found;
    })
    else with_cause found ArgumentCount arguments.rest

unfoldable pub use_of : Option Cause → Definition → Placed → List Placed → Read
use_of found definition name rest = use_with found definition name rest (taken_by definition.parameters name rest)

-- the cause at the use that passes the limit, of which only the nesting is judged
abbrev pub limit_cause_at : ℕ → Cause
limit_cause_at levels = if levels == 0 then Nesting else TooMany

abbrev pub limit_cause_with : Placed → Option Arguments → Cause
limit_cause_with name None = limit_cause_at name.levels
limit_cause_with name (Some arguments) = limit_cause_at arguments.levels

unfoldable pub limit_cause : Definition → Placed → List Placed → Cause
limit_cause definition name rest = limit_cause_with name (taken_by definition.parameters name rest)

-- up to a use: the tokens before it are put out
pub data Front : Type 0 where
  Ended : Work → Front
  Full : Front
  Met : Placed → Definition → List Placed → Work → Front

abbrev pub put : Work → Token → Option Work
put work token =
    if work.room == 0 then None
    else Some (record { out = work.out ++ token ∷ []; room = work.room - 1; uses = work.uses })

unfoldable pub front : Definitions → List Placed → Work → Front
front definitions [] work = Ended work
front definitions (placed ∷ rest) work =
    elim (in_force definitions placed.token) [
      | Some definition ↦ Met placed definition rest work
      | None ↦ elim (put work placed.token) [
        | None ↦ Full
        | Some next ↦ front definitions rest next
      ]
    ]

-- a statement that came to its end is refused where something in it was found
abbrev pub ended : Pos → Option Cause → Work → Result Work MacroNo
ended pos None work = Ok work
ended pos (Some cause) work = Err (refusal cause pos)

abbrev pub with_uses : Work → ℕ → Work
with_uses work uses = record { out = work.out; room = work.room; uses = uses }

-- the uses of a statement, from left to right, while there may be this many. It ends at the token or the use that
-- passes a limit
unfoldable pub run : ℕ → Definitions → Pos → Option Cause → List Placed → Work → Result Work MacroNo
run zero definitions pos found pending work =
    elim (front definitions pending work) [
      | Ended next ↦ ended pos found next
      | Full ↦ Err (refusal (lower found TooMany) pos)
      | Met name definition rest next ↦ Err (refusal (lower found (limit_cause definition name rest)) pos)
    ]
run (suc left) definitions pos found pending work =
    elim (front definitions pending work) [
      | Ended next ↦ ended pos found next
      | Full ↦ Err (refusal (lower found TooMany) pos)
      | Met name definition rest next ↦
          let read = use_of found definition name rest in
          run left definitions pos read.found read.pending (with_uses next left)
    ]

-- a statement's tokens, expanded
abbrev pub expand_statement : Definitions → Pos → List Placed → Work → Result Work MacroNo
expand_statement definitions pos pending work = run work.uses definitions pos None pending work
