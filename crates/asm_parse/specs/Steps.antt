-- How a statement is judged and kept.
use Rattle.std.specs.Prelude.{ℕ, Bool, true, false, not, ◌&&◌, ◌||◌, List, [], ◌∷◌, Option, Some, None, Result, Ok, Err, is_some, if◌then◌else◌}
use Rattle.asm_lex.specs.declared.token.Token.{Token}
use Rattle.goasm_base.specs.declared.pos.Pos.{Pos}
use Rattle.asm_grammar.specs.declared.cause.Cause.{Cause}
use Rattle.asm_grammar.specs.declared.cause.Cause.TheVariants.{DuplicateLabel, DataOrder, OutsideText}
use Rattle.asm_grammar.specs.declared.statement.Statement.{Statement}
use Rattle.asm_grammar.specs.declared.statement.Form.{Form}
use Rattle.asm_grammar.specs.declared.statement.Form.TheVariants.{Empty, Lock, Text, Data, Global, Code}
use Rattle.asm_grammar.specs.Causes.{lower}
use Rattle.asm_grammar.specs.Reader.{Reading}
use Rattle.asm_grammar.specs.Statements as grammar
use Rattle.asm_parse.specs.declared.ahead.Opening.{Opening}
use Rattle.asm_parse.specs.declared.ahead.Opening.TheVariants as openings
use Rattle.asm_parse.specs.declared.ahead.Outlook.{Outlook}
use Rattle.asm_parse.specs.declared.parse_no.ParseNo.{ParseNo}
use Rattle.asm_parse.specs.declared.parse_no.ParseNo.TheVariants.{P1}
use Rattle.asm_parse.specs.declared.step.Read.{Read}
use Rattle.asm_parse.specs.Refusals.{◌>>=◌, refusal}
use Rattle.asm_parse.specs.Ahead.{outlook_of}
use Rattle.asm_parse.specs.Words.{are_words}
use Rattle.asm_parse.specs.Lines.{are_new}
use Rattle.asm_parse.specs.Progress.{State, with_labels, with_lock, begun, with_code, with_data, is_above, with_global}

abbrev pub read_or_refused : Pos → Option (Statement × Reading) → Result Read ParseNo
read_or_refused pos None = Err (P1 pos)
read_or_refused pos (Some read) = Ok (record { statement = read.0; found = read.1.found })

unfoldable pub read : Pos → List Token → Result Read ParseNo
read pos tokens = read_or_refused pos (grammar.statement (record { rest = tokens; found = None }))

abbrev pub serves_label : Opening → Bool
serves_label openings.Lock = true
serves_label openings.Code = true
serves_label _ = false

abbrev pub serves_lock : Opening → Bool
serves_lock openings.Code = true
serves_lock _ = false

abbrev pub is_lock : Form → Bool
is_lock Lock = true
is_lock _ = false

abbrev pub are_none : List (List ℕ) → Bool
are_none [] = true
are_none (label ∷ labels) = false

-- labels stand in a function and before one of its statements, and so does a LOCK that stands in one
abbrev pub has_place : Bool → Outlook → Statement → Bool
has_place inside outlook statement =
    (are_none statement.labels || (inside && serves_label outlook.here))
    && (not (is_lock statement.form) || not inside || serves_lock outlook.behind)

abbrev pub fits : State → Outlook → Statement → Bool
fits state outlook statement = has_place (is_some state.head) outlook statement

abbrev pub names_words : (List ℕ → Bool) → Form → Bool
names_words word (Code line) = are_words word line.operands
names_words word _ = true

abbrev pub found_if : Bool → Cause → Option Cause → Option Cause
found_if true cause found = Some (lower found cause)
found_if false cause found = found

abbrev pub kept_form : State → Pos → Form → State
kept_form state pos Empty = state
kept_form state pos Lock = with_lock state
kept_form state pos (Text line) = begun state pos line
kept_form state pos (Data line) = with_data state pos line
kept_form state pos (Global line) = with_global state pos line
kept_form state pos (Code line) = with_code state pos line

abbrev pub form_cause : State → Form → Option Cause → Option Cause
form_cause state Lock found = found_if (not (is_some state.head)) OutsideText found
form_cause state (Data line) found = found_if (not (is_above state line)) DataOrder found
form_cause state (Code line) found = found_if (not (is_some state.head)) OutsideText found
form_cause state _ found = found

abbrev pub kept : State → Pos → Statement → State
kept state pos statement = kept_form (with_labels state statement.labels) pos statement.form

-- the lowest of what is refused of a statement that has a form
abbrev pub cause_of : State → Statement → Option Cause → Option Cause
cause_of state statement found =
    form_cause (with_labels state statement.labels) statement.form (found_if (not (are_new state.lines statement.labels)) DuplicateLabel found)

abbrev pub unless_refused : Pos → Option Cause → State → Result State ParseNo
unless_refused pos None state = Ok state
unless_refused pos (Some cause) state = Err (refusal cause pos)

abbrev pub judged : (List ℕ → Bool) → State → Outlook → Pos → Read → Result State ParseNo
judged word state outlook pos read =
    if fits state outlook read.statement && names_words word read.statement.form
    then unless_refused pos (cause_of state read.statement read.found) (kept state pos read.statement)
    else Err (P1 pos)

-- a statement has the place of its first token
unfoldable pub step : (List ℕ → Bool) → State → Outlook → List Token → Result State ParseNo
step word state outlook [] = Ok state
step word state outlook (token ∷ tokens) = read token.pos (token ∷ tokens) >>= judged word state outlook token.pos

-- statements in their order, up to the first that is refused
unfoldable pub steps : (List ℕ → Bool) → State → List (List Token) → Result State ParseNo
steps word state [] = Ok state
steps word state (statement ∷ others) =
    step word state (outlook_of statement others) statement >>= λ next. steps word next others
