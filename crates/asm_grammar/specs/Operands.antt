-- Operands. `e` is an expression; where it stands before a base it may be left out, and is 0 then.
--
--     $e                          a constant
--     R  label                    a word of the target, or a label
--     R<<e  R>>e  R->e            a shifted register
--     name+e(SB)  name<>+e(SB)    a symbol
--     name+e(FP)  name+e(SP)      an argument; a local
--     $ before one of these three its address
--     e(PC)                       the statement so many source instructions away
--     e(R)  e(R)(R*s)             memory, s one of 1, 2, 4 and 8
--     (R, R)                      a pair
use Rattle.std.specs.Prelude.{ℕ, ℤ, Bool, true, false, not, ◌==◌, ◌&&◌, ◌||◌, nat_le, bytes_eq, codes, List, Option, Some, None, if◌then◌else◌}
use Rattle.std.specs.Int.{w64, cast_signed}
use Rattle.asm_grammar.specs.declared.cause.Cause.TheVariants.{NamelessArgument}
use Rattle.asm_grammar.specs.declared.draft.Draft.{Draft}
use Rattle.asm_grammar.specs.declared.draft.Draft.TheVariants.{Imm, Bare, Mem, Symbol, Arg, Auto, Away, Pair, Shifted}
use Rattle.asm_grammar.specs.Expressions.{expression}
use Rattle.asm_grammar.specs.Reader.{Reader, ◌>>=◌, ◌>>◌, pure, refuse, require, note, eat, expect, word, eat_word, number, sees, is_over, sees_offset, sees_base, eat_shift, eat_if, needed}

-- the address of what is written behind a name, or what stands there
abbrev pub based : List ℕ → Bool → ℤ → Bool → List ℕ → Option Draft
based name fixed off address base =
    if bytes_eq base (codes "SB") then Some (Symbol (record { name = name; fixed = fixed }) off address)
    else (if bytes_eq base (codes "FP") && not fixed then Some (Arg name off address)
    else (if bytes_eq base (codes "SP") && not fixed then Some (Auto off address)
    else None))

-- `+e` or `-e`, where one of them is next
unfoldable pub offset : Reader ℕ
offset = do
  is_there ← sees sees_offset
  if is_there then expression else pure 0

unfoldable pub named : Bool → List ℕ → Reader Draft
named address name = do
  fixed ← eat (codes "<>")
  off ← offset
  expect (codes "(")
  base ← word
  expect (codes ")")
  needed (based name fixed (cast_signed w64 off) address base)

unfoldable pub shifted : ℕ → List ℕ → Reader Draft
shifted kind name = do
  amount ← expression
  require (nat_le amount 255)
  pure (Shifted name kind amount)

-- what begins with a name that has no `$` before it
unfoldable pub behind_name : List ℕ → Reader Draft
behind_name name = do
  over ← sees is_over
  if over then pure (Bare name) else (do
    shift ← eat_shift
    elim shift [ Some kind ↦ shifted kind name | None ↦ named false name ])

-- an expression before a base, and whether it is left out
unfoldable pub distance : Reader (Bool × ℕ)
distance = do
  omitted ← sees sees_base
  if omitted then pure (true, 0) else (do
    value ← expression
    pure (false, value))

-- behind a `$`. `$e(FP)` is refused, and is then no constant
unfoldable pub constant : Reader Draft
constant = do
  value ← distance
  has_base ← eat (codes "(")
  if has_base then (do
    base ← word
    require (bytes_eq base (codes "FP"))
    expect (codes ")")
    note NamelessArgument
    pure (Imm value.1)) else pure (Imm value.1)

unfoldable pub width : Reader ℕ
width = do
  value ← number
  require (value == 1 || value == 2 || value == 4 || value == 8)
  pure value

-- `(R*s)` behind a base, where it stands there
unfoldable pub index : Reader (Option (List ℕ × ℕ))
index = do
  is_open ← eat (codes "(")
  if is_open then (do
    name ← word
    expect (codes "*")
    scale ← width
    expect (codes ")")
    pure (Some (name, scale))) else pure None

unfoldable pub in_memory : ℤ → List ℕ → Reader Draft
in_memory off base = do
  by ← index
  pure (Mem off base by)

-- `e(FP)` is refused, and then means nothing
unfoldable pub at_base : ℤ → List ℕ → Reader Draft
at_base off base =
    if bytes_eq base (codes "PC") then pure (Away off)
    else (if bytes_eq base (codes "FP") then note NamelessArgument >> pure (Away off)
    else (if bytes_eq base (codes "SB") then refuse
    else in_memory off base))

unfoldable pub pair : List ℕ → Reader Draft
pair first = do
  second ← word
  expect (codes ")")
  pure (Pair first second)

unfoldable pub memory : Reader Draft
memory = do
  value ← distance
  expect (codes "(")
  base ← word
  paired ← eat_if value.0 (codes ",")
  if paired then pair base else (do
    expect (codes ")")
    at_base (cast_signed w64 value.1) base)

unfoldable pub operand : Reader Draft
operand = do
  address ← eat (codes "$")
  first ← eat_word
  elim first [
    | Some name ↦ (if address then named true name else behind_name name)
    | None ↦ (if address then constant else memory)
  ]
