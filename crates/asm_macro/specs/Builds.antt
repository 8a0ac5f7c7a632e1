-- A build: the macros that it defines before all sources, its files, and what comes of it.
use Rattle.std.specs.Prelude.{ℕ, List, [], ◌∷◌, ◌++◌, ◌+◌, ◌-◌, map, max, length, take, bytes_eq, Some, None, is_some, Result, Ok, Err, if◌then◌else◌}
use Rattle.std.specs.List.{position_from}
use Rattle.goasm_base.specs.declared.pos.Pos.{Pos}
use Rattle.asm_lex.specs.declared.token.Token.{Token}
use Rattle.asm_lex.specs.declared.token.Tokens.{Tokens}
use Rattle.asm_macro.specs.declared.refusal.MacroNo.{MacroNo}
use Rattle.asm_macro.specs.declared.refusal.MacroNo.TheVariants.{M6}
use Rattle.asm_macro.specs.declared.limits.Limits.{Limits}
use Rattle.asm_directive.specs.Names.{Names, nothing, with_name}
use Rattle.asm_macro.specs.Definitions.{Definition, Definitions}
use Rattle.asm_macro.specs.Refusals.{◌>>=◌}
use Rattle.asm_macro.specs.Files.{Context, State, read_file}
use Rattle.asm_directive.specs.LineNames.{line_names_of}

-- the greatest number of a file, and of those before it
abbrev pub greatest : ℕ → List ℕ → ℕ
greatest most [] = most
greatest most (file ∷ files) = greatest (max most file) files

unfoldable pub greatest_file : List Tokens → List (List ℕ × Tokens) → List (List ℕ × Tokens) → ℕ
greatest_file sources includes defines =
    greatest 0 (map (λ tokens. tokens.file) sources ++ (map (λ include. include.1.file) includes ++ map (λ define. define.1.file) defines))

-- names get numbers that count on from this one
unfoldable pub numbered : ℕ → List (List ℕ) → Names ℕ
numbered number names name = position_from (λ other. bytes_eq other name) number names

-- of several files of one name the first counts
unfoldable pub included : Names (List Token) → List (List ℕ × Tokens) → Names (List Token)
included files [] = files
included files (include ∷ includes) =
    included (if is_some (files include.0) then files else with_name files include.0 (Some include.1.list)) includes

-- a value's body is all of it but its end
abbrev pub value_definition : Tokens → Definition
value_definition tokens =
    record { parameters = None; body = take (length tokens.list - 1) tokens.list; origin = None }

abbrev pub first_pos : ℕ → List Token → Pos
first_pos file [] = record { file = file; line = 1 }
first_pos file (token ∷ tokens) = token.pos

-- each name is defined once
unfoldable pub defined : Definitions → List (List ℕ × Tokens) → Result Definitions MacroNo
defined definitions [] = Ok definitions
defined definitions (define ∷ defines) =
    if is_some (definitions define.0) then Err (M6 (first_pos define.1.file define.1.list))
    else defined (with_name definitions define.0 (Some (value_definition define.1))) defines

abbrev pub start_state : Definitions → ℕ → ℕ → State
start_state definitions room uses = record { definitions = definitions; work = record { out = []; room = room; uses = uses } }

-- the sources one after the other, each with the macros that the build defines, where so many tokens and uses are left
unfoldable pub expand_sources : ℕ → Context → Definitions → ℕ → ℕ → List Tokens → Result (List Tokens) MacroNo
expand_sources nesting context definitions room uses [] = Ok []
expand_sources nesting context definitions room uses (tokens ∷ sources) = do
  state ← read_file nesting context tokens.list (start_state definitions room uses)
  others ← expand_sources nesting context definitions state.work.room state.work.uses sources
  Ok (record { file = tokens.file; list = state.work.out } ∷ others)

abbrev pub context_for : List Tokens → List (List ℕ × Tokens) → List (List ℕ × Tokens) → Context
context_for sources includes defines = record {
  includes = included nothing includes;
  files = numbered (greatest_file sources includes defines + 1) (line_names_of sources includes);
}

-- what comes of a build under these limits: the tokens of each source, or the first refusal
unfoldable pub expansion : Limits → List Tokens → List (List ℕ × Tokens) → List (List ℕ × Tokens) → Result (List Tokens) MacroNo
expansion limits sources includes defines = do
  definitions ← defined nothing defines
  expand_sources limits.nesting (context_for sources includes defines) definitions limits.tokens limits.uses sources

-- 4,000,000 tokens and as many uses, nested 100 deep
abbrev pub limits : Limits
limits = record { tokens = 4000000; uses = 4000000; nesting = 100 }

-- the list of results, or a refusal
pub data Outcome : Type 0 where
  Done : List Tokens → Outcome
  Refused : MacroNo → Outcome

abbrev pub outcome : Result (List Tokens) MacroNo → Outcome
outcome (Ok all) = Done all
outcome (Err fault) = Refused fault

unfoldable pub outcome_of : List Tokens → List (List ℕ × Tokens) → List (List ℕ × Tokens) → Outcome
outcome_of sources includes defines = outcome (expansion limits sources includes defines)
