-- What the names of a function stand for, once all of the source is read.
use Rattle.std.specs.Prelude.{ℕ, ℤ, Bool, false, not, ◌+◌, ◌-◌, ◌^◌, ◌==◌, ◌&&◌, nat_lt, nat_le, List, length, slice_get, Option, Some, None, Result, Ok, Err, is_none, unsigned_abs, int_lt, pos, if◌then◌else◌}
use Rattle.std.specs.List.{list_any}
use Rattle.goasm_base.specs.declared.pos.Pos.{Pos}
use Rattle.goasm_base.specs.declared.statement.Operand.{Operand}
use Rattle.goasm_base.specs.declared.statement.Operand.TheVariants as operands
use Rattle.goasm_base.specs.declared.statement.Stmt.{Stmt}
use Rattle.goasm_base.specs.declared.statement.Function.{Function}
use Rattle.asm_grammar.specs.declared.draft.Draft.{Draft}
use Rattle.asm_grammar.specs.declared.draft.Draft.TheVariants.{Imm, Bare, Mem, Symbol, Arg, Auto, Away, Pair, Shifted}
use Rattle.asm_grammar.specs.declared.draft.SymbolName.{SymbolName}
use Rattle.asm_grammar.specs.Names.{name_of}
use Rattle.asm_parse.specs.declared.lines.Body.{Body}
use Rattle.asm_parse.specs.declared.lines.Line.{Line}
use Rattle.asm_parse.specs.declared.lines.Slot.{Slot}
use Rattle.asm_parse.specs.declared.parse_no.ParseNo.{ParseNo}
use Rattle.asm_parse.specs.declared.parse_no.ParseNo.TheVariants.{P3, P8}
use Rattle.asm_parse.specs.Numbering.{Key, number_of, place_of}
use Rattle.asm_parse.specs.Progress.{key_of}
use Rattle.asm_parse.specs.Lines.{is_aside}
use Rattle.asm_parse.specs.Refusals.{◌>>=◌, traversed}

-- the number of a symbol: each one that is named was numbered
abbrev pub symbol_number : List Key → SymbolName → ℕ
symbol_number symbols symbol = place_of symbols (key_of symbol)

-- a statement of the function, where there is one with this number
abbrev pub statement_at : Body → Option ℕ → Option ℕ
statement_at body None = None
statement_at body (Some index) = if nat_lt index (length body.lines) then Some index else None

abbrev pub goal_at : Body → Option ℕ → Option ℕ
goal_at body None = None
goal_at body (Some number) = statement_at body (slice_get body.goals number)

-- the statement before which a label of the function stands
abbrev pub goal_of : Body → List ℕ → Option ℕ
goal_of body name = goal_at body (number_of body.labels (name, false))

abbrev pub target : ℕ → ℤ → Option ℕ
target place away =
    if int_lt away (pos 0) then (if nat_le (unsigned_abs away) place then Some (place - unsigned_abs away) else None)
    else (if nat_lt (place + unsigned_abs away) (2 ^ 64) then Some (place + unsigned_abs away) else None)

abbrev pub goal_between : Option Slot → Option Slot → Option ℕ
goal_between (Some own) (Some other) = if own.start == other.start then other.goal else None
goal_between _ _ = None

abbrev pub goal_from : Body → ℕ → Option ℕ → Option ℕ
goal_from body place None = None
goal_from body place (Some other) = goal_between (slice_get body.slots place) (slice_get body.slots other)

-- the statement that begins so many places away, where no PCDATA and no FUNCDATA stands between
abbrev pub goal_away : Body → ℕ → ℤ → Option ℕ
goal_away body place away = goal_from body place (target place away)

-- the statement so many source instructions away. A statement is no distance away from itself, but from a LOCK before it;
-- from a PCDATA or FUNCDATA every way passes that
abbrev pub reached : Body → Line → ℤ → Option ℕ
reached body line away =
    if unsigned_abs away == 0 then (if line.lock then None else statement_at body (Some line.index))
    else (if is_aside line.code.op then None
    else statement_at body (goal_away body line.place away))

abbrev pub is_unknown : (List ℕ → Bool) → Body → Draft → Bool
is_unknown word body (Bare name) = not (word name) && is_none (goal_of body name)
is_unknown word body _ = false

abbrev pub has_unknown : (List ℕ → Bool) → Body → List Draft → Bool
has_unknown word body drafts = list_any (is_unknown word body) drafts

abbrev pub labelled : Pos → Option ℕ → Result Operand ParseNo
labelled place None = Err (P3 place)
labelled place (Some statement) = Ok (operands.Label statement)

-- a word of the target, also where a label has its name
abbrev pub bare : (List ℕ → Bool) → Body → Pos → List ℕ → Result Operand ParseNo
bare word body place name = if word name then Ok (operands.Word name) else labelled place (goal_of body name)

abbrev pub away_to : Pos → Option ℕ → Result Operand ParseNo
away_to place None = Err (P8 place)
away_to place (Some statement) = Ok (operands.Label statement)

abbrev pub operand_of : (List ℕ → Bool) → List Key → Body → Line → Draft → Result Operand ParseNo
operand_of word symbols body line (Imm value) = Ok (operands.Imm value)
operand_of word symbols body line (Bare name) = bare word body line.pos name
operand_of word symbols body line (Mem off base index) = Ok (operands.Mem off base index)
operand_of word symbols body line (Symbol symbol off address) = Ok (operands.Sym (symbol_number symbols symbol) off address)
operand_of word symbols body line (Arg name off address) = Ok (operands.Arg (name_of name) off address)
operand_of word symbols body line (Auto off address) = Ok (operands.Auto off address)
operand_of word symbols body line (Away away) = away_to line.pos (reached body line away)
operand_of word symbols body line (Pair first second) = Ok (operands.Pair first second)
operand_of word symbols body line (Shifted reg kind amount) = Ok (operands.Shifted reg kind amount)

-- a name that stands for nothing comes before a way that leads nowhere
unfoldable pub statement_of : (List ℕ → Bool) → List Key → Body → Line → Result Stmt ParseNo
statement_of word symbols body line =
    if has_unknown word body line.code.operands then Err (P3 line.pos) else (do
      given ← traversed (operand_of word symbols body line) line.code.operands
      Ok (record { pos = line.pos; lock = line.lock; op = line.code.op; suffix = line.code.suffix; operands = given }))

unfoldable pub function_of : (List ℕ → Bool) → List Key → Body → Result Function ParseNo
function_of word symbols body = do
  given ← traversed (statement_of word symbols body) body.lines
  Ok (record { sym = symbol_number symbols body.head.symbol; flags = body.head.flags; locals = body.head.locals; args = body.head.args; pos = body.pos; stmts = given })
