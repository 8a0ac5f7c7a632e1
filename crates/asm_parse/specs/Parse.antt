-- The one unit that tokens say, or the first refusal.
use Rattle.std.specs.Prelude.{ℕ, ℤ, Bool, List, [], map, Option, Some, None, Result, Ok}
use Rattle.std.specs.List.{slice_split}
use Rattle.asm_lex.specs.declared.token.Token.{Token}
use Rattle.asm_grammar.specs.Tokens as tokens
use Rattle.asm_grammar.specs.Names.{name_of}
use Rattle.asm_grammar.specs.declared.directive.DataValue.{DataValue}
use Rattle.asm_grammar.specs.declared.directive.DataValue.TheVariants.{Bytes, Address}
use Rattle.asm_parse.specs.declared.parse_no.ParseNo.{ParseNo}
use Rattle.asm_parse.specs.declared.progress.PlacedData.{PlacedData}
use Rattle.asm_parse.specs.declared.progress.PlacedGlobal.{PlacedGlobal}
use Rattle.asm_parse.specs.declared.unit.Unit.{Unit as Said}
use Rattle.asm_parse.specs.declared.unit.Symbol.{Symbol}
use Rattle.asm_parse.specs.declared.unit.DataPart.{DataPart}
use Rattle.asm_parse.specs.declared.unit.GlobalPart.{GlobalPart}
use Rattle.asm_parse.specs.Refusals.{◌>>=◌, traversed}
use Rattle.asm_parse.specs.Numbering.{Key}
use Rattle.asm_parse.specs.Progress.{State, nothing_yet, ended}
use Rattle.asm_parse.specs.Steps.{steps}
use Rattle.asm_parse.specs.Resolve.{symbol_number, function_of}

abbrev pub is_end : Token → Bool
is_end token = tokens.is_end token

abbrev pub statements_of : List Token → List (List Token)
statements_of tokens = slice_split is_end tokens

-- all that statements say, with no name resolved
unfoldable pub read_of : (List ℕ → Bool) → List (List Token) → Result State ParseNo
read_of word statements = do
  state ← steps word nothing_yet statements
  Ok (ended state)

abbrev pub symbol_of : Key → Symbol
symbol_of key = record { name = name_of key.0; fixed = key.1 }

abbrev pub bytes_in : DataValue → List ℕ
bytes_in (Bytes bytes) = bytes
bytes_in (Address symbol off) = []

abbrev pub address_in : List Key → DataValue → Option (ℕ × ℤ)
address_in symbols (Bytes bytes) = None
address_in symbols (Address symbol off) = Some (symbol_number symbols symbol, off)

abbrev pub value_of : List Key → PlacedData → DataPart
value_of symbols placed = record {
  sym = symbol_number symbols placed.line.symbol;
  off = placed.line.off;
  bytes = bytes_in placed.line.value;
  address = address_in symbols placed.line.value;
  pos = placed.pos;
}

abbrev pub global_of : List Key → PlacedGlobal → GlobalPart
global_of symbols placed = record {
  sym = symbol_number symbols placed.line.symbol;
  flags = placed.line.flags;
  size = placed.line.size;
  pos = placed.pos;
}

-- what was read, with its names resolved
unfoldable pub unit_of : (List ℕ → Bool) → State → Result Said ParseNo
unit_of word state = do
  made ← traversed (function_of word state.symbols) state.bodies
  Ok (record {
    symbols = map symbol_of state.symbols;
    functions = made;
    values = map (value_of state.symbols) state.values;
    globals = map (global_of state.symbols) state.globals;
  })

-- the first refusal by statements, and only where there is none a name that stands for nothing
unfoldable pub parsed : (List ℕ → Bool) → List Token → Result Said ParseNo
parsed word tokens = do
  state ← read_of word (statements_of tokens)
  unit_of word state
