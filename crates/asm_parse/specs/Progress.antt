-- What was read of a source, up to some statement.
use Rattle.std.specs.Prelude.{ℕ, Bool, true, false, ◌==◌, ◌&&◌, nat_lt, nat_eq, List, [], ◌∷◌, ◌++◌, fold, drop, slice_index, Option, Some, None, if◌then◌else◌}
use Rattle.std.specs.Map.{lookup}
use Rattle.indexmap.specs.IndexMap.{insert_entry}
use Rattle.goasm_base.specs.declared.pos.Pos.{Pos}
use Rattle.asm_grammar.specs.declared.draft.Draft.{Draft}
use Rattle.asm_grammar.specs.declared.draft.Draft.TheVariants.{Symbol}
use Rattle.asm_grammar.specs.declared.draft.SymbolName.{SymbolName}
use Rattle.asm_grammar.specs.declared.statement.CodeLine.{CodeLine}
use Rattle.asm_grammar.specs.declared.directive.TextLine.{TextLine}
use Rattle.asm_grammar.specs.declared.directive.DataLine.{DataLine}
use Rattle.asm_grammar.specs.declared.directive.DataValue.{DataValue}
use Rattle.asm_grammar.specs.declared.directive.DataValue.TheVariants.{Bytes, Address}
use Rattle.asm_grammar.specs.declared.directive.GlobalLine.{GlobalLine}
use Rattle.asm_grammar.specs.Names.{has_middle_dot}
use Rattle.asm_parse.specs.declared.lines.Body.{Body}
use Rattle.asm_parse.specs.declared.progress.Head.{Head}
use Rattle.asm_parse.specs.declared.progress.PlacedData.{PlacedData}
use Rattle.asm_parse.specs.declared.progress.PlacedGlobal.{PlacedGlobal}
use Rattle.asm_parse.specs.Numbering.{Key, with_name, place_of}
use Rattle.asm_parse.specs.Lines.{Gathered, none_yet, labelled, with_line, body_of}

pub record State : Type 0 where
  pub symbols : List Key
  -- the offset of the last `DATA` of a symbol, by the symbol's number
  pub offsets : List (ℕ × ℕ)
  pub bodies : List Body
  -- the function that is being read, of which `lines` are the statements
  pub head : Option Head
  pub lines : Gathered
  pub locked : Bool
  pub values : List PlacedData
  pub globals : List PlacedGlobal

abbrev pub nothing_yet : State
nothing_yet = record { symbols = []; offsets = []; bodies = []; head = None; lines = none_yet; locked = false; values = []; globals = [] }

-- the letters m, a, i and n
abbrev pub begins_with_main : List ℕ → Bool
begins_with_main name =
    slice_index name 0 == 109 && slice_index name 1 == 97 && slice_index name 2 == 105 && slice_index name 3 == 110

-- a name without the package `main` before its U+00B7, which a name that begins with U+00B7 has too
abbrev pub unprefixed : List ℕ → List ℕ
unprefixed name = if begins_with_main name && has_middle_dot (drop 4 name) then drop 4 name else name

abbrev pub key_of : SymbolName → Key
key_of symbol = (unprefixed symbol.name, symbol.fixed)

abbrev pub with_symbol : State → SymbolName → State
with_symbol state symbol = record state { symbols = with_name state.symbols (key_of symbol) }

abbrev pub with_name_of : State → Draft → State
with_name_of state (Symbol symbol off address) = with_symbol state symbol
with_name_of state _ = state

abbrev pub with_names : State → List Draft → State
with_names state operands = fold with_name_of state operands

-- labels before the next statement
abbrev pub with_labels : State → List (List ℕ) → State
with_labels state labels = record state { lines = labelled state.lines labels }

abbrev pub with_lock : State → State
with_lock state = record state { locked = true }

abbrev pub ended_by : State → Option Head → State
ended_by state None = record state { lines = none_yet; head = None }
ended_by state (Some head) = record state {
  bodies = state.bodies ++ body_of state.lines head.pos head.line ∷ [];
  lines = none_yet;
  head = None;
}

abbrev pub ended : State → State
ended state = ended_by state state.head

abbrev pub begun : State → Pos → TextLine → State
begun state pos line = record (with_symbol (ended state) line.symbol) { head = Some (record { pos = pos; line = line }) }

abbrev pub with_code : State → Pos → CodeLine → State
with_code state pos code =
    let named = with_names state code.operands in
    record named { lines = with_line named.lines pos named.locked code; locked = false }

abbrev pub number_in : State → DataLine → ℕ
number_in state line = place_of state.symbols (key_of line.symbol)

abbrev pub is_above_last : Option ℕ → ℕ → Bool
is_above_last None off = true
is_above_last (Some last) off = nat_lt last off

-- the `DATA` stands above the one before it of the same symbol
abbrev pub is_above : State → DataLine → Bool
is_above state line = is_above_last (lookup (nat_eq (number_in state line)) state.offsets) line.off

abbrev pub with_value : State → DataValue → State
with_value state (Address symbol off) = with_symbol state symbol
with_value state (Bytes bytes) = state

abbrev pub with_data : State → Pos → DataLine → State
with_data state pos line =
    let named = with_value (with_symbol state line.symbol) line.value in
    record named {
      offsets = insert_entry nat_eq state.offsets (number_in state line) line.off;
      values = state.values ++ record { pos = pos; line = line } ∷ [];
    }

abbrev pub with_global : State → Pos → GlobalLine → State
with_global state pos line =
    record (with_symbol state line.symbol) { globals = state.globals ++ record { pos = pos; line = line } ∷ [] }
