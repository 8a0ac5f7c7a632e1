-- Statements.
--
--     statement  { word ":" } [ directive | "LOCK" | code ]
--     code       mnemonic [ "." letter ] [ operand { "," operand } ]
use Rattle.std.specs.Prelude.{ℕ, Bool, ◌==◌, ◌&&◌, ◌||◌, bytes_eq, codes, List, [], ◌∷◌, ◌++◌, length, slice_index, Option, Some, None, if◌then◌else◌}
use Rattle.goasm_base.specs.Ascii.{is_ascii_alphabetic}
use Rattle.asm_grammar.specs.declared.cause.Cause.TheVariants.{RawCode}
use Rattle.asm_grammar.specs.declared.draft.Draft.{Draft}
use Rattle.asm_grammar.specs.declared.statement.Statement.{Statement}
use Rattle.asm_grammar.specs.declared.statement.Form.{Form}
use Rattle.asm_grammar.specs.declared.statement.Form.TheVariants.{Empty, Lock, Text, Data, Global, Code}
use Rattle.asm_grammar.specs.Operands.{operand}
use Rattle.asm_grammar.specs.Directives as directives
use Rattle.asm_grammar.specs.Reader.{Reader, ◌>>=◌, ◌>>◌, pure, require, note_if, eat, word, sees, is_empty, eat_label, needed, going_on}

-- a `TEXT` has sizes that a function can have
abbrev pub HasSizes : Form → Type 0
HasSizes (Text line) = directives.IsSized line
HasSizes _ = Unit {0}

abbrev pub operand_count : Form → ℕ
operand_count (Code line) = length line.operands
operand_count _ = 0

abbrev pub with_label : List (List ℕ) → List ℕ → Reader (List (List ℕ))
with_label before label = pure (before ++ label ∷ [])

unfoldable pub labels : Reader (List (List ℕ))
labels = going_on eat_label with_label []

abbrev pub letter_of : List ℕ → Option ℕ
letter_of word = if length word == 1 && is_ascii_alphabetic (slice_index word 0) then Some (slice_index word 0) else None

unfoldable pub suffix : Reader (Option ℕ)
suffix = do
  dotted ← eat (codes ".")
  if dotted then (do
    written ← word
    letter ← needed (letter_of written)
    pure (Some letter)) else pure None

abbrev pub separator : Reader (Option (Unit {0}))
separator = do
  is_there ← eat (codes ",")
  pure (if is_there then Some tt else None)

unfoldable pub with_operand : List Draft → Unit {0} → Reader (List Draft)
with_operand before there = do
  next ← operand
  pure (before ++ next ∷ [])

unfoldable pub operands : Reader (List Draft)
operands = do
  over ← sees is_empty
  if over then pure [] else (do
    first ← operand
    going_on separator with_operand (first ∷ []))

-- the mnemonics that give code as bytes
abbrev pub is_raw : List ℕ → Bool
is_raw op =
    bytes_eq op (codes "BYTE") || bytes_eq op (codes "WORD") || bytes_eq op (codes "LONG") || bytes_eq op (codes "QUAD")

unfoldable pub code : List ℕ → Reader Form
code op = do
  letter ← suffix
  given ← operands
  note_if (is_raw op) RawCode
  pure (Code (record { op = op; suffix = letter; operands = given }))

abbrev pub text : Reader Form
text = do
  line ← directives.text
  pure (Text line)

abbrev pub value : Reader Form
value = do
  line ← directives.value
  pure (Data line)

abbrev pub global : Reader Form
global = do
  line ← directives.global
  pure (Global line)

abbrev pub form_of : List ℕ → Reader Form
form_of op =
    if bytes_eq op (codes "TEXT") then text
    else (if bytes_eq op (codes "DATA") then value
    else (if bytes_eq op (codes "GLOBL") then global
    else (if bytes_eq op (codes "LOCK") then pure Lock
    else code op)))

unfoldable pub form : Reader Form
form = do
  over ← sees is_empty
  if over then pure Empty else (do
    op ← word
    form_of op)

-- all of a statement
unfoldable pub statement : Reader Statement
statement = do
  named ← labels
  what ← form
  over ← sees is_empty
  require over
  pure (record { labels = named; form = what })
