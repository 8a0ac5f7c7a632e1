-- The statements of a file, one after the other.
use Rattle.std.proofs.Common.{◌≡◌, ℕ, zero, suc, ◌-◌, ◌+◌, ◌<◌, ◌≤◌, List, [], ◌∷◌, map, drop, length, get_or, Some, None, Result, Ok, Err, refl, sym, ap, ◌∙◌, add-one, drop-cons, arith}
use Rattle.std.proofs.lemmas.List.{drop_all}
use Rattle.asm_lex.specs.declared.token.Token.{Token}
use Rattle.asm_macro.specs.declared.refusal.MacroNo.{MacroNo}
use Rattle.asm_macro.specs.declared.condition.Condition.{Condition}
use Rattle.asm_directive.specs.declared.statements.Statement as declared
use Rattle.asm_directive.specs.Statements.{statements_of}
use Rattle.asm_macro.specs.Files.{Context, State, Place, Step, top, read_statement, end_file, read_statements, read_file}
use Rattle.asm_directive.specs.Views.{statement_of}

-- how a file is read that is included where so many levels are left
pub next_file : ℕ → Context → List Token → State → Result State MacroNo
next_file zero context tokens state = Ok state
next_file (suc levels) context tokens state = read_file levels context tokens state

pub file_walks : (levels : ℕ) (context : Context) (tokens : List Token) (state : State)
    → read_file levels context tokens state ≡ read_statements (next_file levels context) context levels (statements_of tokens) top state
unfolding read_file next_file
file_walks zero context tokens state = refl
file_walks (suc levels) context tokens state = refl

pub next_below : (levels : ℕ) (context : Context) (tokens : List Token) (state : State) → 0 < levels
    → next_file levels context tokens state ≡ read_file (levels - 1) context tokens state
unfolding next_file
next_below zero context tokens state some = absurd (omega arith)
next_below (suc levels) context tokens state some =
    let less : suc levels - 1 ≡ levels = omega arith in rw less refl

pub next_none : (levels : ℕ) (context : Context) (tokens : List Token) (state : State) → levels ≡ 0
    → next_file levels context tokens state ≡ Ok state
unfolding next_file
next_none zero context tokens state none = refl
next_none (suc levels) context tokens state none = absurd (omega arith)

-- what is left of a file
abbrev pub rest_of_file : ℕ → Context → List declared.Statement → ℕ → Place → State → Result State MacroNo
rest_of_file levels context statements index place state =
    read_statements (next_file levels context) context levels (map statement_of (drop index statements)) place state

opened : (levels : ℕ) (context : Context) (statements : List declared.Statement) (index : ℕ) (place : Place) (state : State) (statement : declared.Statement)
    → index < length statements → statement ≡ get_or statements index statement
    → rest_of_file levels context statements index place state
    ≡ read_statements (next_file levels context) context levels (statement_of statement ∷ map statement_of (drop (index + 1) statements)) place state
opened levels context statements index place state statement inside is =
    let first : drop index statements ≡ statement ∷ drop (index + 1) statements
    = drop-cons statements index statement inside ∙ ap (λ here. here ∷ drop (suc index) statements) (sym is) ∙ ap (λ next. statement ∷ drop next statements) (sym (add-one index)) in
    ap (λ rest. read_statements (next_file levels context) context levels (map statement_of rest) place state) first

pub file_refused : (levels : ℕ) (context : Context) (statements : List declared.Statement) (index : ℕ) (place : Place) (state : State) (statement : declared.Statement) (fault : MacroNo)
    → index < length statements → statement ≡ get_or statements index statement
    → read_statement context levels statement.directive statement.tokens.now place state ≡ Err fault
    → rest_of_file levels context statements index place state ≡ Err fault
unfolding read_statements
file_refused levels context statements index place state statement fault inside is reads =
    opened levels context statements index place state statement inside is ∙ rw (reads, read_statements) refl

pub file_next : (levels : ℕ) (context : Context) (statements : List declared.Statement) (index : ℕ) (place : Place) (state : State) (statement : declared.Statement) (step : Step)
    → index < length statements → statement ≡ get_or statements index statement
    → read_statement context levels statement.directive statement.tokens.now place state ≡ Ok step → step.entered ≡ None
    → rest_of_file levels context statements index place state ≡ rest_of_file levels context statements (index + 1) step.place step.state
unfolding read_statements
file_next levels context statements index place state statement step inside is reads none =
    opened levels context statements index place state statement inside is ∙ rw (reads, read_statements, none) refl

pub file_entered : (levels : ℕ) (context : Context) (statements : List declared.Statement) (index : ℕ) (place : Place) (state : State) (statement : declared.Statement) (step : Step) (tokens : List Token) (left : State)
    → index < length statements → statement ≡ get_or statements index statement
    → read_statement context levels statement.directive statement.tokens.now place state ≡ Ok step → step.entered ≡ Some tokens
    → next_file levels context tokens step.state ≡ Ok left
    → rest_of_file levels context statements index place state ≡ rest_of_file levels context statements (index + 1) step.place left
unfolding read_statements
file_entered levels context statements index place state statement step tokens left inside is reads some next =
    opened levels context statements index place state statement inside is ∙ rw (reads, read_statements, some, next) refl

pub file_refused_below : (levels : ℕ) (context : Context) (statements : List declared.Statement) (index : ℕ) (place : Place) (state : State) (statement : declared.Statement) (step : Step) (tokens : List Token) (fault : MacroNo)
    → index < length statements → statement ≡ get_or statements index statement
    → read_statement context levels statement.directive statement.tokens.now place state ≡ Ok step → step.entered ≡ Some tokens
    → next_file levels context tokens step.state ≡ Err fault
    → rest_of_file levels context statements index place state ≡ Err fault
unfolding read_statements
file_refused_below levels context statements index place state statement step tokens fault inside is reads some next =
    opened levels context statements index place state statement inside is ∙ rw (reads, read_statements, some, next) refl

pub file_ends : (levels : ℕ) (context : Context) (statements : List declared.Statement) (index : ℕ) (place : Place) (state : State)
    → length statements ≤ index → rest_of_file levels context statements index place state ≡ end_file place.conditions state
unfolding read_statements
file_ends levels context statements index place state spent = rw (drop_all index statements spent) refl

pub file_begins : (levels : ℕ) (context : Context) (tokens : List Token) (statements items : List declared.Statement) (conditions : List Condition) (state : State)
    → statements ≡ items → map statement_of items ≡ statements_of tokens → conditions ≡ []
    → rest_of_file levels context statements 0 (record { mapping = None; conditions = conditions }) state ≡ read_file levels context tokens state
file_begins levels context tokens statements items conditions state same made none =
    rw (same, none, made) (sym (file_walks levels context tokens state))
