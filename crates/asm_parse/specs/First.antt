-- What is refused in a source, by facts about each statement and about those that stand before and behind it, and which
-- refusal is the first: by statements, and at one statement the one with the lowest number. What names stand for is
-- judged only where nothing else is refused.
use Rattle.std.specs.Prelude.{◌≡◌, ◌⊎◌, ℕ, suc, ◌+◌, Bool, true, false, not, ◌&&◌, ◌||◌, nat_le, bytes_eq, List, [], ◌∷◌, ◌++◌, length, map, fold, Option, Some, None, is_none}
use Rattle.std.specs.List.{list_any, filter_map, flat_map, after_last}
use Rattle.std.specs.Option.{option_map, option_or, option_to_list}
use Rattle.goasm_base.specs.Refusals as refusals
use Rattle.goasm_base.specs.declared.pos.Pos.{Pos}
use Rattle.asm_lex.specs.declared.token.Token.{Token}
use Rattle.asm_grammar.specs.declared.draft.Draft.{Draft}
use Rattle.asm_grammar.specs.declared.draft.Draft.TheVariants.{Away}
use Rattle.asm_grammar.specs.declared.directive.DataLine.{DataLine}
use Rattle.asm_grammar.specs.declared.statement.Statement.{Statement}
use Rattle.asm_grammar.specs.declared.statement.Form.{Form}
use Rattle.asm_grammar.specs.declared.statement.Form.TheVariants.{Lock, Text, Data, Code}
use Rattle.asm_grammar.specs.Reader.{Reading}
use Rattle.asm_grammar.specs.Statements as grammar
use Rattle.asm_parse.specs.declared.ahead.Outlook.{Outlook}
use Rattle.asm_parse.specs.declared.lines.Body.{Body}
use Rattle.asm_parse.specs.declared.lines.Line.{Line}
use Rattle.asm_parse.specs.declared.parse_no.ParseNo.{ParseNo}
use Rattle.asm_parse.specs.declared.parse_no.ParseNo.TheVariants.{P1, P2, P3, P4, P5, P6, P7, P8, P9, P10, Memory}
use Rattle.asm_parse.specs.declared.step.Read.{Read}
use Rattle.asm_parse.specs.Refusals.{refusal}
use Rattle.asm_parse.specs.Ahead.{outlook_of}
use Rattle.asm_parse.specs.Numbering.{Key, is_same}
use Rattle.asm_parse.specs.Progress.{State, nothing_yet, key_of, ended}
use Rattle.asm_parse.specs.Steps.{names_words, has_place, kept}
use Rattle.asm_parse.specs.Resolve.{reached, has_unknown}
use Rattle.asm_parse.specs.Parse.{statements_of}

-- A refusal, and the number of its statement
pub record Refused : Type 0 where
  pub place : ℕ
  pub no : ParseNo

-- the number that a refusal is printed with; want of memory is none, and has the last one
abbrev pub number : ParseNo → ℕ
number (P1 pos) = 1
number (P2 pos) = 2
number (P3 pos) = 3
number (P4 pos) = 4
number (P5 pos) = 5
number (P6 pos) = 6
number (P7 pos) = 7
number (P8 pos) = 8
number (P9 pos) = 9
number (P10 pos) = 10
number Memory = 11

abbrev pub place_of : Refused → ℕ
place_of refused = refused.place

abbrev pub number_of : Refused → ℕ
number_of refused = number refused.no

abbrev pub first_of : List Refused → Option Refused
first_of all = refusals.first_of place_of number_of all

abbrev pub read_in : Option (Statement × Reading) → Option Read
read_in None = None
read_in (Some found) = Some (record { statement = found.0; found = found.1.found })

-- what a statement says, where it has a form
unfoldable pub said : List Token → Option Read
said tokens = read_in (grammar.statement (record { rest = tokens; found = None }))

-- The facts of a statement.

abbrev pub is_text : Form → Bool
is_text (Text line) = true
is_text _ = false

abbrev pub begins_in : Option Read → Bool
begins_in None = false
begins_in (Some read) = is_text read.statement.form

-- a function begins
abbrev pub begins : List Token → Bool
begins tokens = begins_in (said tokens)

abbrev pub labels_in : Option Read → List (List ℕ)
labels_in None = []
labels_in (Some read) = read.statement.labels

abbrev pub labels_of : List Token → List (List ℕ)
labels_of tokens = labels_in (said tokens)

abbrev pub data_of : Form → Option DataLine
data_of (Data line) = Some line
data_of _ = None

abbrev pub data_in : Option Read → Option DataLine
data_in None = None
data_in (Some read) = data_of read.statement.form

abbrev pub data_at : List Token → Option DataLine
data_at tokens = data_in (said tokens)

abbrev pub is_code : Form → Bool
is_code Lock = true
is_code (Code line) = true
is_code _ = false

-- The facts of what stands before it.

abbrev pub is_inside : List (List Token) → Bool
is_inside front = list_any begins front

-- the labels of the function so far
abbrev pub labels_before : List (List Token) → List (List ℕ)
labels_before front = flat_map labels_of (after_last begins front)

-- a label stands among others, or before itself
abbrev pub repeats : List (List ℕ) → List (List ℕ) → Bool
repeats others [] = false
repeats others (label ∷ labels) = list_any (bytes_eq label) others || repeats (others ++ label ∷ []) labels

-- this `DATA` is of the symbol and doesn't stand below that offset
abbrev pub reaches : Key → ℕ → DataLine → Bool
reaches key off line = is_same key (key_of line.symbol) && nat_le off line.off

abbrev pub is_reached : List (List Token) → Key → ℕ → Bool
is_reached front key off = list_any (reaches key off) (filter_map data_at front)

abbrev pub is_disordered : List (List Token) → Form → Bool
is_disordered front (Data line) = is_reached front (key_of line.symbol) line.off
is_disordered front _ = false

-- What is refused of a statement.

abbrev pub when : Bool → ParseNo → List ParseNo
when true refused = refused ∷ []
when false refused = []

abbrev pub refused_in : (List ℕ → Bool) → List (List Token) → Outlook → Pos → Option Read → List ParseNo
refused_in word front outlook pos None = P1 pos ∷ []
refused_in word front outlook pos (Some read) =
    when (not (has_place (is_inside front) outlook read.statement)) (P1 pos)
    ++ (when (not (names_words word read.statement.form)) (P1 pos)
    ++ (when (repeats (labels_before front) read.statement.labels) (P2 pos)
    ++ (option_to_list (option_map (λ cause. refusal cause pos) read.found)
    ++ (when (is_disordered front read.statement.form) (P6 pos)
    ++ when (is_code read.statement.form && not (is_inside front)) (P9 pos)))))

-- a statement has the place of its first token; an empty one says nothing
abbrev pub refused_at : (List ℕ → Bool) → List (List Token) → List Token → List (List Token) → List ParseNo
refused_at word front [] behind = []
refused_at word front (token ∷ tokens) behind =
    refused_in word front (outlook_of (token ∷ tokens) behind) token.pos (said (token ∷ tokens))

abbrev pub placed : ℕ → ParseNo → Refused
placed place refused = record { place = place; no = refused }

-- all that is refused of statements, behind those before them
unfoldable pub refused_from : (List ℕ → Bool) → List (List Token) → List (List Token) → List Refused
refused_from word front [] = []
refused_from word front (statement ∷ behind) =
    map (placed (length front)) (refused_at word front statement behind) ++ refused_from word (front ++ statement ∷ []) behind

-- What is refused of names, once all statements are read.

abbrev pub kept_in : State → Pos → Option Read → State
kept_in state pos None = state
kept_in state pos (Some read) = kept state pos read.statement

abbrev pub kept_at : State → List Token → State
kept_at state [] = state
kept_at state (token ∷ tokens) = kept_in state token.pos (said (token ∷ tokens))

-- the functions that statements say, refused or not
unfoldable pub bodies_of : List (List Token) → List Body
bodies_of statements = (ended (fold kept_at nothing_yet statements)).bodies

-- an `n(PC)` leads to no statement
abbrev pub is_lost : Body → Line → Draft → Bool
is_lost body line (Away away) = is_none (reached body line away)
is_lost body line _ = false

abbrev pub unnamed_at : (List ℕ → Bool) → Body → Line → List ParseNo
unnamed_at word body line =
    when (has_unknown word body line.code.operands) (P3 line.pos)
    ++ when (list_any (is_lost body line) line.code.operands) (P8 line.pos)

unfoldable pub unnamed_from : (List ℕ → Bool) → Body → ℕ → List Line → List Refused
unnamed_from word body place [] = []
unnamed_from word body place (line ∷ lines) =
    map (placed place) (unnamed_at word body line) ++ unnamed_from word body (suc place) lines

-- all of them, by their functions
unfoldable pub unnamed_in : (List ℕ → Bool) → ℕ → List Body → List Refused
unnamed_in word place [] = []
unnamed_in word place (body ∷ bodies) =
    unnamed_from word body place body.lines ++ unnamed_in word (place + length body.lines) bodies

-- The first refusal.

abbrev pub first_in : (List ℕ → Bool) → List (List Token) → Option Refused
first_in word statements = option_or (first_of (refused_from word [] statements)) (first_of (unnamed_in word 0 (bodies_of statements)))

abbrev pub no_of : Refused → ParseNo
no_of refused = refused.no

abbrev pub refusal_of : (List ℕ → Bool) → List Token → Option ParseNo
refusal_of word tokens = option_map no_of (first_in word (statements_of tokens))

-- this is what is refused, and none of the others comes before it
pub record IsFirstOf (all : List Refused) (found : ParseNo) : Type 0 where
  pub refused : Refused
  pub is : refused.no ≡ found
  pub first : refusals.IsFirst place_of number_of all refused

-- all that is refused of the statements of a source, and of its names
abbrev pub of_statements : (List ℕ → Bool) → List Token → List Refused
of_statements word tokens = refused_from word [] (statements_of tokens)

abbrev pub of_names : (List ℕ → Bool) → List Token → List Refused
of_names word tokens = unnamed_in word 0 (bodies_of (statements_of tokens))

abbrev pub IsFirstRefusal : (List ℕ → Bool) → List Token → ParseNo → Type 0
IsFirstRefusal word tokens found = IsFirstOf (of_statements word tokens) found ⊎ ((of_statements word tokens ≡ []) × IsFirstOf (of_names word tokens) found)
