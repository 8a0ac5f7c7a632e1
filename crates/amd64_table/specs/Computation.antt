-- What the instructions that compute do (Intel 64 manual, volume 2): arithmetic, shifts, swaps, conditions as bytes.
use Rattle.std.specs.Prelude.{ℕ, ℤ, [], ◌∷◌, None}
use Rattle.machine_effect.specs.declared.effect.Atom.{Atom}
use Rattle.machine_effect.specs.declared.effect.Atom.TheVariants as atom
use Rattle.machine_effect.specs.declared.effect.Value.{Value}
use Rattle.machine_effect.specs.declared.effect.WideValue.TheVariants as wide_value
use Rattle.machine_effect.specs.declared.effect.Effect.{Effect}
use Rattle.machine_effect.specs.declared.op.Op.TheVariants as op
use Rattle.machine_effect.specs.declared.op.Logic.TheVariants as logic
use Rattle.machine_effect.specs.declared.op.Shift.{Shift}
use Rattle.machine_effect.specs.declared.op.Shift.TheVariants as shift
use Rattle.machine_effect.specs.declared.op.Signs.TheVariants as signs
use Rattle.machine_effect.specs.declared.op.Division.{Division}
use Rattle.machine_effect.specs.declared.op.Division.TheVariants as divisions
use Rattle.machine_effect.specs.declared.cond.Cond.{Cond}
use Rattle.machine_effect.specs.declared.cond.Cond.TheVariants as cond
use Rattle.machine_effect.specs.declared.flag_rule.FlagRule.{FlagRule}
use Rattle.machine_effect.specs.declared.flag_rule.FlagRule.TheVariants as flags
use Rattle.amd64_table.specs.declared.condition.Cc.{Cc}
use Rattle.amd64_table.specs.declared.reg.Reg.{Reg}
use Rattle.amd64_table.specs.declared.reg.Reg.TheVariants.{Ax, Dx}
use Rattle.amd64_table.specs.declared.xmm.Xmm.{Xmm}
use Rattle.amd64_table.specs.declared.width.Width.{Width}
use Rattle.amd64_table.specs.declared.memory.Mem.{Mem}
use Rattle.amd64_table.specs.declared.memory.Rm.{Rm}
use Rattle.amd64_table.specs.declared.memory.Rm.TheVariants as operand
use Rattle.amd64_table.specs.declared.op.Arithmetic.{Arithmetic}
use Rattle.amd64_table.specs.declared.op.Arithmetic.TheVariants as arithmetic
use Rattle.amd64_table.specs.declared.op.Unary.{Unary}
use Rattle.amd64_table.specs.declared.op.Unary.TheVariants as unary
use Rattle.amd64_table.specs.declared.op.MulDiv.{MulDiv}
use Rattle.amd64_table.specs.declared.op.MulDiv.TheVariants as mul_div
use Rattle.amd64_table.specs.declared.op.RmReg.{RmReg}
use Rattle.amd64_table.specs.declared.op.RmReg.TheVariants as rm_reg
use Rattle.amd64_table.specs.declared.op.ShiftOp.{ShiftOp}
use Rattle.amd64_table.specs.declared.op.ShiftOp.TheVariants as shifts
use Rattle.amd64_table.specs.declared.op.Atomic.{Atomic}
use Rattle.amd64_table.specs.declared.op.Atomic.TheVariants as atomic
use Rattle.amd64_table.specs.Registers.{number_of, xmm_number}
use Rattle.amd64_table.specs.Conditions.{cond_of}
use Rattle.amd64_table.specs.Operands.{bits_of, bytes_of, reg_atom, signed_atom, nothing, rm_atom, load_of}
use Rattle.amd64_table.specs.Forms.{value_of, copy_of, computing, widening, changing, testing, reading, storing, loading, swapping}

-- what the seven operations give, the destination first ..
unfoldable pub result_of : Arithmetic → Atom → Atom → ℕ → Value
result_of arithmetic.Add a b width = value_of op.Add a b width
result_of arithmetic.Or a b width = value_of (op.Logic logic.Or) a b width
result_of arithmetic.Adc a b width = value_of op.AddCarry a b width
result_of arithmetic.Sbb a b width = value_of op.SubtractBorrow a b width
result_of arithmetic.And a b width = value_of (op.Logic logic.And) a b width
result_of arithmetic.Sub a b width = value_of op.Subtract a b width
result_of arithmetic.Xor a b width = value_of (op.Logic logic.Xor) a b width

-- .. and how they set the flags
unfoldable pub flags_of : Arithmetic → Atom → Atom → ℕ → FlagRule
flags_of arithmetic.Add a b width = flags.Add a b width
flags_of arithmetic.Or a b width = flags.Logic logic.Or a b width
flags_of arithmetic.Adc a b width = flags.AddCarry a b width
flags_of arithmetic.Sbb a b width = flags.SubtractBorrow a b width
flags_of arithmetic.And a b width = flags.Logic logic.And a b width
flags_of arithmetic.Sub a b width = flags.Subtract a b width
flags_of arithmetic.Xor a b width = flags.Logic logic.Xor a b width

-- the destination is the operand, and the source is anything
unfoldable pub arithmetic_effect : Arithmetic → Width → Atom → Rm → ℕ → Effect
arithmetic_effect op width from to end =
    changing width end to (result_of op (rm_atom to) from (bits_of width)) (flags_of op (rm_atom to) from (bits_of width))

unfoldable pub compare_const_effect : Width → Rm → ℤ → ℕ → Effect
compare_const_effect width rm constant end =
    testing width end rm (flags.Subtract (rm_atom rm) (signed_atom constant) (bits_of width))

abbrev pub one : Atom
one = atom.Const 1

-- 64 set bits
abbrev pub all_ones : Atom
all_ones = atom.Const 0xffff_ffff_ffff_ffff

unfoldable pub unary_value : Unary → Atom → ℕ → Value
unary_value unary.Inc a width = value_of op.Add a one width
unary_value unary.Dec a width = value_of op.Subtract a one width
unary_value unary.Not a width = value_of (op.Logic logic.Xor) a all_ones width
unary_value unary.Neg a width = value_of op.Subtract nothing a width

unfoldable pub unary_flags : Unary → Atom → ℕ → FlagRule
unary_flags unary.Inc a width = flags.Increment a width
unary_flags unary.Dec a width = flags.Decrement a width
unary_flags unary.Not a width = flags.Keep
unary_flags unary.Neg a width = flags.Subtract nothing a width

unfoldable pub unary_effect : Unary → Width → Rm → ℕ → Effect
unary_effect op width rm end =
    changing width end rm (unary_value op (rm_atom rm) (bits_of width)) (unary_flags op (rm_atom rm) (bits_of width))

-- a division of the number that DX and AX make
abbrev pub divided_by : Division → Atom → ℕ → Value
divided_by division c width = record {
  op = op.Divide division;
  a = reg_atom Ax;
  b = reg_atom Dx;
  c = c;
  width = width;
}

-- the low part of a product or the quotient, which goes into AX
unfoldable pub ax_value : MulDiv → Atom → ℕ → Value
ax_value mul_div.Mul a width = value_of op.Multiply (reg_atom Ax) a width
ax_value mul_div.Div a width = divided_by divisions.DoubleQuotient a width
ax_value mul_div.Idiv a width = divided_by divisions.SignedDoubleQuotient a width

-- the high part of a product or the remainder, which goes into DX
unfoldable pub dx_value : MulDiv → Atom → ℕ → Value
dx_value mul_div.Mul a width = value_of (op.MultiplyHigh signs.Unsigned) (reg_atom Ax) a width
dx_value mul_div.Div a width = divided_by divisions.DoubleRemainder a width
dx_value mul_div.Idiv a width = divided_by divisions.SignedDoubleRemainder a width

unfoldable pub mul_div_flags : MulDiv → Atom → ℕ → FlagRule
mul_div_flags mul_div.Mul a width = flags.Multiply (reg_atom Ax) a width
mul_div_flags mul_div.Div a width = flags.Free
mul_div_flags mul_div.Idiv a width = flags.Free

unfoldable pub mul_div_effect : MulDiv → Width → Rm → ℕ → Effect
mul_div_effect op width rm end =
    computing
    ((number_of Ax, ax_value op (rm_atom rm) (bits_of width)) ∷ (number_of Dx, dx_value op (rm_atom rm) (bits_of width)) ∷ [])
    (load_of (bytes_of width) end rm) None (mul_div_flags op (rm_atom rm) (bits_of width))

unfoldable pub rm_reg_value : RmReg → Atom → Atom → ℕ → Value
rm_reg_value rm_reg.Imul from to width = value_of op.Multiply to from width
rm_reg_value rm_reg.Bsf from to width = value_of op.LowestSet from nothing width
rm_reg_value rm_reg.Bsr from to width = value_of op.HighestSet from nothing width
rm_reg_value rm_reg.Popcnt from to width = value_of op.CountOnes from nothing width

unfoldable pub rm_reg_flags : RmReg → Atom → Atom → ℕ → FlagRule
rm_reg_flags rm_reg.Imul from to width = flags.SignedMultiply to from width
rm_reg_flags rm_reg.Bsf from to width = flags.Scan from width
rm_reg_flags rm_reg.Bsr from to width = flags.Scan from width
rm_reg_flags rm_reg.Popcnt from to width = flags.CountOnes from width

unfoldable pub rm_reg_effect : RmReg → Width → Rm → Reg → ℕ → Effect
rm_reg_effect op width from to end =
    reading (bytes_of width) end from to (rm_reg_value op (rm_atom from) (reg_atom to) (bits_of width))
    (rm_reg_flags op (rm_atom from) (reg_atom to) (bits_of width))

unfoldable pub shift_of : ShiftOp → Shift
shift_of shifts.Shl = shift.Left
shift_of shifts.Shr = shift.Right
shift_of shifts.Sar = shift.RightSigned
shift_of shifts.Rol = shift.RotateLeft

unfoldable pub shift_flags : ShiftOp → Atom → Atom → ℕ → FlagRule
shift_flags shifts.Shl a count width = flags.Shift shift.Left a count width
shift_flags shifts.Shr a count width = flags.Shift shift.Right a count width
shift_flags shifts.Sar a count width = flags.Shift shift.RightSigned a count width
shift_flags shifts.Rol a count width = flags.Rotate count width

unfoldable pub shift_effect : ShiftOp → Width → Atom → Rm → ℕ → Effect
shift_effect kind width count rm end =
    changing width end rm (value_of (op.Shift (shift_of kind)) (rm_atom rm) count (bits_of width))
    (shift_flags kind (rm_atom rm) count (bits_of width))

unfoldable pub exchange_effect : Width → Reg → Mem → ℕ → Effect
exchange_effect width reg mem end =
    swapping width end mem (number_of reg, copy_of atom.Loaded (bits_of width)) (copy_of (reg_atom reg) (bits_of width)) flags.Keep

-- what CMPXCHG asks
abbrev pub is_ax : ℕ → Cond
is_ax width = cond.Equal (reg_atom Ax) atom.Loaded width

-- CMPXCHG: where AX has what is loaded, the memory becomes the register and all of AX stays; otherwise AX becomes what is
-- loaded, with zeros above, and that is stored back
abbrev pub compare_exchange : Width → Reg → Mem → ℕ → Effect
compare_exchange width reg mem end =
    swapping width end mem (number_of Ax, value_of (op.Choose (is_ax (bits_of width))) (reg_atom Ax) atom.Loaded 64)
    (value_of (op.Choose (is_ax (bits_of width))) (reg_atom reg) atom.Loaded (bits_of width))
    (flags.Subtract (reg_atom Ax) atom.Loaded (bits_of width))

-- XADD: the memory becomes the sum, and the register what is loaded
abbrev pub exchange_add : Width → Reg → Mem → ℕ → Effect
exchange_add width reg mem end =
    swapping width end mem (number_of reg, copy_of atom.Loaded (bits_of width))
    (value_of op.Add atom.Loaded (reg_atom reg) (bits_of width)) (flags.Add atom.Loaded (reg_atom reg) (bits_of width))

unfoldable pub atomic_effect : Atomic → Width → Reg → Mem → ℕ → Effect
atomic_effect atomic.CompareExchange width reg mem end = compare_exchange width reg mem end
atomic_effect atomic.ExchangeAdd width reg mem end = exchange_add width reg mem end

-- SETcc writes one byte: of a register the lowest one, and the others stay
unfoldable pub set_cc_effect : Cc → Rm → ℕ → Effect
set_cc_effect code (operand.Reg reg) end = loading reg (value_of (op.SetByte (cond_of code)) (reg_atom reg) nothing 64)
set_cc_effect code (operand.Mem mem) end = storing 1 end mem (value_of (op.SetByte (cond_of code)) nothing nothing 8)

unfoldable pub swap_bytes_effect : Width → Reg → Effect
swap_bytes_effect width reg = loading reg (value_of op.ReverseBytes (reg_atom reg) nothing (bits_of width))

unfoldable pub xor_wide_effect : Xmm → Xmm → Effect
xor_wide_effect from to = widening None (xmm_number to, wide_value.Xor (xmm_number to) (xmm_number from))
