-- How many bytes of an operand in memory a name of an instruction accesses.
use Rattle.std.specs.Prelude.{ℕ, Bool, true, false, ◌==◌, ◌&&◌, List, [], ◌∷◌, ◌++◌, map, if◌then◌else◌}
use Rattle.asm_target.specs.declared.width.Width.{Width}
use Rattle.asm_target.specs.declared.width.Width.TheVariants.{Bytes, Address, Unknown}
use Rattle.amd64_table.specs.declared.condition.Cc.{Cc}
use Rattle.amd64_table.specs.declared.condition.Cc.TheVariants as cc
use Rattle.amd64_table.specs.declared.width.Width.{Width as OperandWidth}
use Rattle.amd64_table.specs.declared.width.Width.TheVariants.{Q, L}
use Rattle.amd64_table.specs.declared.op.Arithmetic.TheVariants as arithmetic
use Rattle.amd64_table.specs.declared.op.Atomic.TheVariants as atomic
use Rattle.amd64_table.specs.declared.op.Extend.TheVariants as extend
use Rattle.amd64_table.specs.declared.op.MulDiv.TheVariants as mul_div
use Rattle.amd64_table.specs.declared.op.RmReg.TheVariants as rm_reg
use Rattle.amd64_table.specs.declared.op.ShiftOp.TheVariants as shifts
use Rattle.amd64_table.specs.declared.op.StoreSize.TheVariants as size
use Rattle.amd64_table.specs.declared.op.Unary.TheVariants as unary
use Rattle.amd64_table.specs.declared.mnemonic.Mnemonic.{Mnemonic}
use Rattle.amd64_table.specs.declared.mnemonic.Mnemonic.TheVariants as name
use Rattle.amd64_table.specs.Mnemonics.{mnemonic_text}
use Rattle.amd64_forms.specs.declared.alias.Alias.{Alias}
use Rattle.amd64_forms.specs.declared.alias.Alias.TheVariants as alias
use Rattle.amd64_forms.specs.declared.rows.Spoken.{Spoken}
use Rattle.amd64_forms.specs.declared.rows.Spoken.TheVariants.{Listed, Widen}
use Rattle.amd64_forms.specs.Names.{alias_text}
use Rattle.amd64_forms.specs.Rows.{meaning_of}

abbrev pub quad_or_long : OperandWidth → Width
quad_or_long Q = Bytes 8
quad_or_long L = Bytes 4

-- The bytes that each listed instruction of this name accesses where it has an operand in memory. What PUSHQ, POPQ and RET access is
-- no operand
unfoldable pub width_of : Mnemonic → Width
width_of (name.Mov width) = quad_or_long width
width_of (name.StoreLow size.Byte) = Bytes 1
width_of (name.StoreLow size.Word) = Bytes 2
width_of (name.Extend extend.ByteZero) = Bytes 1
width_of (name.Extend extend.WordZero) = Bytes 2
width_of (name.Extend extend.ByteSign) = Bytes 1
width_of (name.Extend extend.WordSign) = Bytes 2
width_of (name.Extend extend.LongSign) = Bytes 4
width_of name.Lea = Address
width_of (name.Arithmetic op width) = quad_or_long width
width_of (name.Cmp width) = quad_or_long width
width_of (name.Test width) = quad_or_long width
width_of (name.Unary op width) = quad_or_long width
width_of (name.MulDiv op width) = quad_or_long width
width_of (name.RmReg op width) = quad_or_long width
width_of (name.Shift op width) = quad_or_long width
width_of (name.Exchange width) = quad_or_long width
width_of (name.Atomic op width) = quad_or_long width
width_of (name.SetCc code) = Bytes 1
width_of (name.MoveCc width code) = quad_or_long width
width_of name.Jump = Bytes 8
width_of name.Call = Bytes 8
width_of name.MoveWide = Bytes 16
width_of _ = Unknown

abbrev pub spoken_width : Spoken → Width
spoken_width (Listed m) = width_of m
spoken_width Widen = Bytes 4
spoken_width _ = Unknown

-- all names with a width

abbrev pub ccs : List Cc
ccs = cc.Over ∷ cc.NotOver ∷ cc.Carry ∷ cc.NotCarry ∷ cc.Zero ∷ cc.NotZero ∷ cc.CarryOrZero ∷ cc.NeitherCarryNorZero
    ∷ cc.Negative ∷ cc.NotNegative ∷ cc.ParityEven ∷ cc.ParityOdd ∷ cc.Less ∷ cc.GreaterOrEqual ∷ cc.LessOrEqual ∷ cc.Greater ∷ []

abbrev pub names_of : OperandWidth → List Mnemonic
names_of w =
    name.Mov w ∷ name.Cmp w ∷ name.Test w ∷ name.Exchange w
    ∷ name.Arithmetic arithmetic.Add w ∷ name.Arithmetic arithmetic.Or w ∷ name.Arithmetic arithmetic.Adc w
    ∷ name.Arithmetic arithmetic.Sbb w ∷ name.Arithmetic arithmetic.And w ∷ name.Arithmetic arithmetic.Sub w
    ∷ name.Arithmetic arithmetic.Xor w
    ∷ name.Unary unary.Inc w ∷ name.Unary unary.Dec w ∷ name.Unary unary.Not w ∷ name.Unary unary.Neg w
    ∷ name.MulDiv mul_div.Mul w ∷ name.MulDiv mul_div.Div w ∷ name.MulDiv mul_div.Idiv w
    ∷ name.RmReg rm_reg.Imul w ∷ name.RmReg rm_reg.Bsf w ∷ name.RmReg rm_reg.Bsr w ∷ name.RmReg rm_reg.Popcnt w
    ∷ name.Shift shifts.Shl w ∷ name.Shift shifts.Shr w ∷ name.Shift shifts.Sar w ∷ name.Shift shifts.Rol w
    ∷ name.Atomic atomic.CompareExchange w ∷ name.Atomic atomic.ExchangeAdd w
    ∷ map (name.MoveCc w) ccs

abbrev pub names : List Mnemonic
names =
    names_of Q ++ (names_of L ++ (map (λ code. name.SetCc code) ccs
    ++ (name.StoreLow size.Byte ∷ name.StoreLow size.Word
    ∷ name.Extend extend.ByteZero ∷ name.Extend extend.WordZero ∷ name.Extend extend.ByteSign ∷ name.Extend extend.WordSign
    ∷ name.Extend extend.LongSign ∷ name.Lea ∷ name.Jump ∷ name.Call ∷ name.MoveWide ∷ [])))

abbrev pub aliases : List Alias
aliases =
    alias.Movbqzx ∷ alias.Movwqzx ∷ alias.Movlqzx ∷ alias.Setlo ∷ alias.Seths
    ∷ alias.Cmovqlo ∷ alias.Cmovqhs ∷ alias.Cmovllo ∷ alias.Cmovlhs ∷ []

abbrev pub same_text : List ℕ → List ℕ → Bool
same_text [] [] = true
same_text (x ∷ xs) (y ∷ ys) = (x == y) && same_text xs ys
same_text _ _ = false

-- the width of the first of these names that the text is
abbrev pub width_among : List (List ℕ × Width) → List ℕ → Width
width_among [] text = Unknown
width_among (row ∷ rows) text = if same_text row.0 text then row.1 else width_among rows text

abbrev pub rows : List (List ℕ × Width)
rows = map (λ m. (mnemonic_text m, width_of m)) names ++ map (λ a. (alias_text a, spoken_width (meaning_of a))) aliases

unfoldable pub width_of_text : List ℕ → Width
width_of_text text = width_among rows text
