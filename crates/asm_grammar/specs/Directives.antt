-- Directives, behind their words.
--
--     TEXT   symbol "," flags "," "$" size [ "-" size ]
--     DATA   symbol with an offset "/" width "," "$" (text | address | expression)
--     GLOBL  symbol "," [ flags "," ] "$" expression
use Rattle.std.specs.Prelude.{◌≡◌, ◌<◌, IfSome, ℕ, ◌%◌, ◌^◌, Bool, true, not, ◌==◌, ◌&&◌, ◌||◌, nat_lt, bit_and, bytes_eq, codes, List, length, take, Option, Some, None, if◌then◌else◌}
use Rattle.std.specs.Int.{w64, cast_signed, to_le_bytes}
use Rattle.asm_grammar.specs.declared.cause.Cause.TheVariants.{ArgumentSizeMissing}
use Rattle.asm_grammar.specs.declared.draft.SymbolName.{SymbolName}
use Rattle.asm_grammar.specs.declared.directive.TextLine.{TextLine}
use Rattle.asm_grammar.specs.declared.directive.DataLine.{DataLine}
use Rattle.asm_grammar.specs.declared.directive.DataValue.{DataValue}
use Rattle.asm_grammar.specs.declared.directive.DataValue.TheVariants.{Bytes, Address}
use Rattle.asm_grammar.specs.declared.directive.GlobalLine.{GlobalLine}
use Rattle.asm_grammar.specs.Expressions.{expression}
use Rattle.asm_grammar.specs.Operands.{offset, width}
use Rattle.asm_grammar.specs.Texts.{bytes_of}
use Rattle.asm_grammar.specs.Reader.{Reader, ◌>>=◌, ◌>>◌, pure, require, note_if, eat, expect, word, eat_text, number, sees, sees_word, needed}

-- Go's textflag.h
abbrev pub nosplit : ℕ
nosplit = 4

abbrev pub noframe : ℕ
noframe = 512

abbrev pub has : ℕ → ℕ → Bool
has flags flag = not (bit_and flags flag == 0)

unfoldable pub static_base : Reader (Unit {0})
static_base = do
  expect (codes "(")
  base ← word
  require (bytes_eq base (codes "SB"))
  expect (codes ")")

-- `name(SB)` or `name<>(SB)`
unfoldable pub symbol : Reader SymbolName
symbol = do
  name ← word
  fixed ← eat (codes "<>")
  static_base
  pure (record { name = name; fixed = fixed })

-- the same with an offset
unfoldable pub place : Reader (SymbolName × ℕ)
place = do
  name ← word
  fixed ← eat (codes "<>")
  off ← offset
  static_base
  pure (record { name = name; fixed = fixed }, off)

unfoldable pub flags : Reader ℕ
flags = do
  value ← expression
  require (nat_lt value (2 ^ 32))
  pure value

-- a size in a `TEXT`
unfoldable pub size : Reader ℕ
size = do
  value ← number
  require (nat_lt value (2 ^ 31))
  pure value

-- the size of locals that a function with these flags may have
abbrev pub AreLocals : ℕ → ℕ → Type 0
AreLocals set value = (value % 8 ≡ 0) × (has set noframe ≡ true → value ≡ 0)

abbrev pub AreArguments : Option ℕ → Type 0
AreArguments given = IfSome given (λ value. value < 2 ^ 31)

-- the sizes of a function are such that it can have them
pub record IsSized (line : TextLine) : Type 0 where
  pub locals : AreLocals line.flags line.locals
  pub arguments : AreArguments line.args

unfoldable pub locals : ℕ → Reader ℕ
locals set = do
  value ← size
  require (value % 8 == 0 && (value == 0 || not (has set noframe)))
  pure value

-- the size of the arguments, which may be left out with NOSPLIT
unfoldable pub args : ℕ → Reader (Option ℕ)
args set = do
  given ← eat (codes "-")
  if given then (do value ← size; pure (Some value)) else (do
    note_if (not (has set nosplit)) ArgumentSizeMissing
    pure None)

unfoldable pub text : Reader TextLine
text = do
  name ← symbol
  expect (codes ",")
  set ← flags
  expect (codes ",")
  expect (codes "$")
  own ← locals set
  given ← args set
  pure (record { symbol = name; flags = set; locals = own; args = given })

-- the lowest bytes of a number, the lowest one first
abbrev pub low_bytes : ℕ → ℕ → List ℕ
low_bytes count value = take count (to_le_bytes w64 value)

-- a text of the width's length
abbrev pub text_value : List ℕ → ℕ → Option DataValue
text_value written count = if length (bytes_of written) == count then Some (Bytes (bytes_of written)) else None

-- the address of a symbol, of eight bytes
unfoldable pub address_value : ℕ → Reader DataValue
address_value count = do
  require (count == 8)
  to ← place
  pure (Address to.0 (cast_signed w64 to.1))

unfoldable pub data_value : ℕ → Reader DataValue
data_value count = do
  written ← eat_text
  elim written [
    | Some found ↦ needed (text_value found count)
    | None ↦ (do
      named ← sees sees_word
      if named then address_value count else (do
        value ← expression
        pure (Bytes (low_bytes count value))))
  ]

unfoldable pub value : Reader DataLine
value = do
  to ← place
  require (nat_lt to.1 (2 ^ 32))
  expect (codes "/")
  count ← width
  expect (codes ",")
  expect (codes "$")
  found ← data_value count
  pure (record { symbol = to.0; off = to.1; value = found })

-- the flags, 0 where they are left out, and the `$` of the size
unfoldable pub global_flags : Reader ℕ
global_flags = do
  sized ← eat (codes "$")
  if sized then pure 0 else (do
    set ← flags
    expect (codes ",")
    expect (codes "$")
    pure set)

unfoldable pub global : Reader GlobalLine
global = do
  name ← symbol
  expect (codes ",")
  set ← global_flags
  bytes ← expression
  pure (record { symbol = name; flags = set; size = bytes })
