-- The statements of a file, one after the other, with the macros in force.
use Rattle.std.specs.Prelude.{ℕ, zero, suc, Bool, true, false, List, [], ◌∷◌, ◌-◌, ◌==◌, not, map, length, slice_index_or, Option, Some, None, is_some, Result, Ok, Err, if◌then◌else◌}
use Rattle.std.specs.List.{before_first}
use Rattle.goasm_base.specs.declared.pos.Pos.{Pos}
use Rattle.asm_lex.specs.declared.token.Token.{Token}
use Rattle.asm_macro.specs.declared.placed.Placed.{Placed}
use Rattle.asm_macro.specs.declared.refusal.MacroNo.{MacroNo}
use Rattle.asm_macro.specs.declared.refusal.MacroNo.TheVariants.{M1, M4, M5, M6, M7}
use Rattle.asm_directive.specs.declared.keyword.Keyword.{Keyword}
use Rattle.asm_directive.specs.declared.keyword.Keyword.TheVariants as keywords
use Rattle.asm_macro.specs.declared.built_in.BuiltIn.{BuiltIn}
use Rattle.asm_macro.specs.declared.mapping.Mapping.{Mapping}
use Rattle.asm_macro.specs.declared.condition.Condition.{Condition}
use Rattle.asm_directive.specs.Names.{Names, with_name}
use Rattle.asm_directive.specs.Tokens.{is_newline}
use Rattle.asm_macro.specs.Definitions.{Definitions, definition_by}
use Rattle.asm_macro.specs.Refusals.{◌>>=◌}
use Rattle.asm_macro.specs.Uses.{Work, placed_at, expand_statement, with_uses}
use Rattle.asm_directive.specs.Statements.{Statement, statements_of, rest_of}
use Rattle.asm_directive.specs.Directives.{keyword_of, name_in, quoted_in, LineMark, mark_in, Named, definition_in}
use Rattle.asm_macro.specs.Conditions.{is_taken, counted_condition, uncounted_condition, conditions_after_else, conditions_after_endif}
use Rattle.asm_macro.specs.Positions.{mapped_pos, mapping_from}
use Rattle.asm_macro.specs.BuiltIn.{built_in_named, rows_of, with_rows}

-- what stays the same through a build
pub record Context : Type 0 where
  -- the files that may be included, by name
  pub includes : Names (List Token)
  -- the numbers of the files that `#line` names
  pub files : Names ℕ

pub record State : Type 0 where
  pub definitions : Definitions
  pub work : Work

-- what holds at a place in a file
pub record Place : Type 0 where
  pub mapping : Option Mapping
  pub conditions : List Condition

abbrev pub top : Place
top = record { mapping = None; conditions = [] }

-- what a statement leaves, and the file to be read next, where it includes one
pub record Step : Type 0 where
  pub place : Place
  pub state : State
  pub entered : Option (List Token)

abbrev pub step_at : Place → State → Result Step MacroNo
step_at place state = Ok (record { place = place; state = state; entered = None })

abbrev pub with_conditions : Place → List Condition → Place
with_conditions place conditions = record { mapping = place.mapping; conditions = conditions }

abbrev pub with_definitions : State → Definitions → State
with_definitions state definitions = record { definitions = definitions; work = state.work }

-- `#define`: a name that is defined is refused
unfoldable pub define : Pos → Option Named → State → Result State MacroNo
define pos None state = Err (M5 pos)
define pos (Some named) state =
    if is_some (state.definitions named.name) then Err (M6 pos)
    else Ok (with_definitions state (with_name state.definitions named.name (Some (definition_by named))))

-- `#undef`: the name may be undefined already
unfoldable pub undefine : Pos → Option (List ℕ) → State → Result State MacroNo
undefine pos None state = Err (M5 pos)
undefine pos (Some name) state = Ok (with_definitions state (with_name state.definitions name None))

-- a use of a file, which counts as one of a macro
abbrev pub count_use : ℕ → Pos → State → Result State MacroNo
count_use levels pos state =
    if levels == 0 then Err (M4 pos)
    else (if state.work.uses == 0 then Err (M7 pos)
    else Ok (record { definitions = state.definitions; work = with_uses state.work (state.work.uses - 1) }))

unfoldable pub include_built_in : ℕ → Pos → State → Option BuiltIn → Result State MacroNo
include_built_in levels pos state None = Err (M1 pos)
include_built_in levels pos state (Some file) = do
  counted ← count_use levels pos state
  definitions ← with_rows file pos counted.definitions (rows_of file)
  Ok (with_definitions counted definitions)

-- what an inclusion leaves, and the file to be read next, if any
pub record Inclusion : Type 0 where
  pub state : State
  pub entered : Option (List Token)

unfoldable pub include_named : ℕ → Pos → List ℕ → State → Option (List Token) → Result Inclusion MacroNo
include_named levels pos name state (Some tokens) = do
  counted ← count_use levels pos state
  Ok (record { state = counted; entered = Some tokens })
include_named levels pos name state None = do
  defined ← include_built_in levels pos state (built_in_named name)
  Ok (record { state = defined; entered = None })

-- `#include`: a file of the build, or else a built-in one
unfoldable pub include : Context → ℕ → Pos → Option (List ℕ) → State → Result Inclusion MacroNo
include context levels pos None state = Err (M5 pos)
include context levels pos (Some name) state = include_named levels pos name state (context.includes name)

-- `#ifdef` and `#ifndef`
unfoldable pub open_condition : Bool → Pos → Option (List ℕ) → Definitions → Place → Result Place MacroNo
open_condition wanted pos None definitions place = Err (M5 pos)
open_condition wanted pos (Some name) definitions place =
    Ok (with_conditions place (counted_condition pos (if wanted then is_some (definitions name) else not (is_some (definitions name))) ∷ place.conditions))

-- the place with the conditions that are open behind a `#else` or an `#endif`, where one may stand there
abbrev pub balanced_place : Pos → Place → Option (List Condition) → Result Place MacroNo
balanced_place pos place None = Err (M5 pos)
balanced_place pos place (Some conditions) = Ok (with_conditions place conditions)

abbrev pub mapped_place : Place → ℕ → ℕ → Option ℕ → Place
mapped_place place number line None = place
mapped_place place number line (Some file) = record { mapping = Some (mapping_from file number line); conditions = place.conditions }

-- `#line`: each file that it names has a number
unfoldable pub mark : Context → Pos → ℕ → Option LineMark → Place → Result Place MacroNo
mark context pos line None place = Err (M5 pos)
mark context pos line (Some said) place = Ok (mapped_place place said.number line (context.files said.name))

abbrev pub is_empty : List Token → Bool
is_empty tokens = length tokens == 0

-- a directive where statements count
unfoldable pub execute : Context → ℕ → Pos → ℕ → List Token → Place → State → Keyword → Result Step MacroNo
execute context levels pos line words place state keywords.Define = do
  after ← define pos (definition_in words) state
  step_at place after
execute context levels pos line words place state keywords.Undef = do
  after ← undefine pos (name_in words) state
  step_at place after
execute context levels pos line words place state keywords.Include = do
  inclusion ← include context levels pos (quoted_in words) state
  Ok (record { place = place; state = inclusion.state; entered = inclusion.entered })
execute context levels pos line words place state keywords.Ifdef = do
  after ← open_condition true pos (name_in words) state.definitions place
  step_at after state
execute context levels pos line words place state keywords.Ifndef = do
  after ← open_condition false pos (name_in words) state.definitions place
  step_at after state
execute context levels pos line words place state keywords.Else = do
  after ← balanced_place pos place (conditions_after_else (is_empty words) place.conditions)
  step_at after state
execute context levels pos line words place state keywords.Endif = do
  after ← balanced_place pos place (conditions_after_endif (is_empty words) place.conditions)
  step_at after state
execute context levels pos line words place state keywords.Line = do
  after ← mark context pos line (mark_in words) place
  step_at after state
execute context levels pos line words place state keywords.Other = Err (M5 pos)

-- a directive in a branch that isn't taken: only conditions are counted, by their first words
unfoldable pub skip : Pos → List Token → Place → Keyword → Result Place MacroNo
skip pos words place keywords.Define = Ok place
skip pos words place keywords.Undef = Ok place
skip pos words place keywords.Include = Ok place
skip pos words place keywords.Ifdef = Ok (with_conditions place (uncounted_condition pos ∷ place.conditions))
skip pos words place keywords.Ifndef = Ok (with_conditions place (uncounted_condition pos ∷ place.conditions))
skip pos words place keywords.Else = balanced_place pos place (conditions_after_else (is_empty words) place.conditions)
skip pos words place keywords.Endif = balanced_place pos place (conditions_after_endif (is_empty words) place.conditions)
skip pos words place keywords.Line = Ok place
skip pos words place keywords.Other = Ok place

-- a directive, by its first word and those behind it
unfoldable pub read_directive : Context → ℕ → Pos → ℕ → List Token → Place → State → Keyword → Result Step MacroNo
read_directive context levels pos line words place state keyword =
    if is_taken place.conditions then execute context levels pos line words place state keyword
    else (skip pos words place keyword >>= λ after. step_at after state)

-- a statement's tokens, each with its position
abbrev pub placed_in : Option Mapping → ℕ → List Token → List Placed
placed_in mapping levels tokens = map (λ token. placed_at (mapped_pos mapping token.pos) levels token) tokens

unfoldable pub read_plain : ℕ → Pos → List Token → Place → State → Result Step MacroNo
read_plain levels pos tokens place state =
    if is_taken place.conditions
    then (expand_statement state.definitions pos (placed_in place.mapping levels tokens) state.work
    >>= λ work. step_at place (record { definitions = state.definitions; work = work }))
    else step_at place state

-- the line on which tokens end
abbrev pub end_line : Token → List Token → ℕ
end_line first tokens = (slice_index_or tokens (length tokens - 1) first).pos.line

unfoldable pub read_statement : Context → ℕ → Bool → List Token → Place → State → Result Step MacroNo
read_statement context levels is_directive [] place state = step_at place state
read_statement context levels true (first ∷ tokens) place state =
    let words = before_first is_newline tokens in
    read_directive context levels (mapped_pos place.mapping first.pos) (end_line first (first ∷ tokens)) (rest_of words) place state (keyword_of words)
read_statement context levels false (first ∷ tokens) place state =
    read_plain levels (mapped_pos place.mapping first.pos) (first ∷ tokens) place state

-- a file ends with no condition open
abbrev pub end_file : List Condition → State → Result State MacroNo
end_file [] state = Ok state
end_file (condition ∷ conditions) state = Err (M5 condition.pos)

-- how a file is read that a statement includes
abbrev pub Inner : Type 0
Inner = List Token → State → Result State MacroNo

abbrev pub read_entered : Inner → Option (List Token) → State → Result State MacroNo
read_entered inner None state = Ok state
read_entered inner (Some tokens) state = inner tokens state

-- the statements of a file, one after the other
unfoldable pub read_statements : Inner → Context → ℕ → List Statement → Place → State → Result State MacroNo
read_statements inner context levels [] place state = end_file place.conditions state
read_statements inner context levels (statement ∷ statements) place state = do
  step ← read_statement context levels statement.directive statement.tokens place state
  after ← read_entered inner step.entered step.state
  read_statements inner context levels statements step.place after

-- a file with so many levels left below it; where none is left nothing can be included
unfoldable pub read_file : ℕ → Context → List Token → State → Result State MacroNo
read_file zero context tokens state = read_statements (λ tokens state. Ok state) context zero (statements_of tokens) top state
read_file (suc levels) context tokens state =
    read_statements (read_file levels context) context (suc levels) (statements_of tokens) top state
