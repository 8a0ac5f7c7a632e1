-- What holds of what was read: each symbol that it names has a number, and there is no more of it than its tokens allow.
use Rattle.std.specs.Prelude.{◌≡◌, ℕ, ◌*◌, ◌^◌, ◌<◌, ◌≤◌, true, All, length, IfSome, List}
use Rattle.asm_grammar.specs.Directives.{IsSized}
use Rattle.asm_grammar.specs.declared.directive.TextLine.{TextLine}
use Rattle.asm_grammar.specs.declared.directive.DataValue.{DataValue}
use Rattle.asm_grammar.specs.declared.directive.DataValue.TheVariants.{Bytes, Address}
use Rattle.asm_grammar.specs.declared.draft.Draft.{Draft}
use Rattle.asm_grammar.specs.declared.draft.Draft.TheVariants.{Symbol}
use Rattle.asm_grammar.specs.declared.draft.SymbolName.{SymbolName}
use Rattle.asm_parse.specs.declared.lines.Body.{Body}
use Rattle.asm_parse.specs.declared.lines.Line.{Line}
use Rattle.asm_parse.specs.declared.progress.PlacedData.{PlacedData}
use Rattle.asm_parse.specs.declared.progress.PlacedGlobal.{PlacedGlobal}
use Rattle.asm_parse.specs.Numbering.{Key, has_name}
use Rattle.asm_parse.specs.Progress.{State, key_of}

-- how many tokens a source may have
abbrev pub most_tokens : ℕ
most_tokens = 4_000_000

-- numbers of symbols take 32 bits
abbrev pub AreFew : List Key → Type 0
AreFew symbols = length symbols < 2 ^ 32

abbrev pub IsNumbered : List Key → SymbolName → Type 0
IsNumbered symbols symbol = has_name symbols (key_of symbol) ≡ true

abbrev pub IsKnownOperand : List Key → Draft → Type 0
IsKnownOperand symbols (Symbol symbol off address) = IsNumbered symbols symbol
IsKnownOperand symbols _ = Unit {0}

abbrev pub IsKnownLine : List Key → Line → Type 0
IsKnownLine symbols line = All (IsKnownOperand symbols) line.code.operands

pub record IsKnownHead (symbols : List Key) (head : TextLine) : Type 0 where
  pub symbol : IsNumbered symbols head.symbol
  pub sizes : IsSized head

-- a function has fewer statements than there are tokens, of which its `TEXT` has one
pub record IsKnownBody (symbols : List Key) (tokens : ℕ) (body : Body) : Type 0 where
  pub head : IsKnownHead symbols body.head
  pub lines : All (IsKnownLine symbols) body.lines
  pub count : length body.lines < tokens

abbrev pub IsKnownValue : List Key → DataValue → Type 0
IsKnownValue symbols (Bytes bytes) = Unit {0}
IsKnownValue symbols (Address symbol off) = IsNumbered symbols symbol

pub record IsKnownData (symbols : List Key) (placed : PlacedData) : Type 0 where
  pub symbol : IsNumbered symbols placed.line.symbol
  pub value : IsKnownValue symbols placed.line.value

abbrev pub IsKnownGlobal : List Key → PlacedGlobal → Type 0
IsKnownGlobal symbols placed = IsNumbered symbols placed.line.symbol

-- what was read of so many tokens
pub record IsKnown (tokens : ℕ) (state : State) : Type 0 where
  pub count : length state.symbols ≤ 2 * tokens
  pub head : IfSome state.head (λ head. IsKnownHead state.symbols head.line × (length state.lines.lines < tokens))
  pub lines : All (IsKnownLine state.symbols) state.lines.lines
  pub bodies : All (IsKnownBody state.symbols tokens) state.bodies
  pub values : All (IsKnownData state.symbols) state.values
  pub globals : All (IsKnownGlobal state.symbols) state.globals
