-- Opcodes and digits of operations, both ways.
use Rattle.std.specs.Prelude.{ℕ, ◌+◌, ◌*◌, ◌==◌, if◌then◌else◌}
use Rattle.amd64_table.specs.declared.op.Arithmetic.{Arithmetic}
use Rattle.amd64_table.specs.declared.op.Arithmetic.TheVariants as arithmetic
use Rattle.amd64_table.specs.declared.op.RegRm.{RegRm}
use Rattle.amd64_table.specs.declared.op.RegRm.TheVariants as reg_rm
use Rattle.amd64_table.specs.declared.op.MemReg.{MemReg}
use Rattle.amd64_table.specs.declared.op.MemReg.TheVariants as mem_reg
use Rattle.amd64_table.specs.declared.op.Unary.{Unary}
use Rattle.amd64_table.specs.declared.op.Unary.TheVariants as unary
use Rattle.amd64_table.specs.declared.op.MulDiv.{MulDiv}
use Rattle.amd64_table.specs.declared.op.MulDiv.TheVariants as mul_div
use Rattle.amd64_table.specs.declared.op.RmReg.{RmReg}
use Rattle.amd64_table.specs.declared.op.RmReg.TheVariants as rm_reg
use Rattle.amd64_table.specs.declared.op.ShiftOp.{ShiftOp}
use Rattle.amd64_table.specs.declared.op.ShiftOp.TheVariants as shift
use Rattle.amd64_table.specs.declared.op.Stack.{Stack}
use Rattle.amd64_table.specs.declared.op.Stack.TheVariants as stack
use Rattle.amd64_table.specs.declared.op.Atomic.{Atomic}
use Rattle.amd64_table.specs.declared.op.Atomic.TheVariants as atomic
use Rattle.amd64_table.specs.declared.op.Indirect.{Indirect}
use Rattle.amd64_table.specs.declared.op.Indirect.TheVariants as indirect

unfoldable pub arithmetic_digit : Arithmetic → ℕ
arithmetic_digit arithmetic.Add = 0
arithmetic_digit arithmetic.Or = 1
arithmetic_digit arithmetic.Adc = 2
arithmetic_digit arithmetic.Sbb = 3
arithmetic_digit arithmetic.And = 4
arithmetic_digit arithmetic.Sub = 5
arithmetic_digit arithmetic.Xor = 6

unfoldable pub arithmetic_at : ℕ → Arithmetic
arithmetic_at digit =
    if digit == 0 then arithmetic.Add
    else (if digit == 1 then arithmetic.Or
    else (if digit == 2 then arithmetic.Adc
    else (if digit == 3 then arithmetic.Sbb
    else (if digit == 4 then arithmetic.And
    else (if digit == 5 then arithmetic.Sub else arithmetic.Xor)))))

unfoldable pub reg_rm_opcode : RegRm → ℕ
reg_rm_opcode reg_rm.Mov = 0x89
reg_rm_opcode reg_rm.Cmp = 0x39
reg_rm_opcode reg_rm.Test = 0x85

unfoldable pub mem_reg_opcode : MemReg → ℕ
mem_reg_opcode mem_reg.Mov = 0x8b
mem_reg_opcode mem_reg.Cmp = 0x3b
mem_reg_opcode (mem_reg.Arithmetic op) = 8 * arithmetic_digit op + 3

unfoldable pub unary_opcode : Unary → ℕ
unary_opcode unary.Inc = 0xff
unary_opcode unary.Dec = 0xff
unary_opcode unary.Not = 0xf7
unary_opcode unary.Neg = 0xf7

unfoldable pub unary_digit : Unary → ℕ
unary_digit unary.Inc = 0
unary_digit unary.Dec = 1
unary_digit unary.Not = 2
unary_digit unary.Neg = 3

unfoldable pub mul_div_digit : MulDiv → ℕ
mul_div_digit mul_div.Mul = 4
mul_div_digit mul_div.Div = 6
mul_div_digit mul_div.Idiv = 7

unfoldable pub mul_div_at : ℕ → MulDiv
mul_div_at digit = if digit == 4 then mul_div.Mul else (if digit == 6 then mul_div.Div else mul_div.Idiv)

unfoldable pub rm_reg_opcode : RmReg → ℕ
rm_reg_opcode rm_reg.Imul = 0xaf
rm_reg_opcode rm_reg.Bsf = 0xbc
rm_reg_opcode rm_reg.Bsr = 0xbd
rm_reg_opcode rm_reg.Popcnt = 0xb8

unfoldable pub shift_digit : ShiftOp → ℕ
shift_digit shift.Shl = 4
shift_digit shift.Shr = 5
shift_digit shift.Sar = 7
shift_digit shift.Rol = 0

unfoldable pub shift_at : ℕ → ShiftOp
shift_at digit =
    if digit == 4 then shift.Shl
    else (if digit == 5 then shift.Shr else (if digit == 7 then shift.Sar else shift.Rol))

unfoldable pub stack_opcode : Stack → ℕ
stack_opcode stack.Push = 0x50
stack_opcode stack.Pop = 0x58

unfoldable pub atomic_opcode : Atomic → ℕ
atomic_opcode atomic.CompareExchange = 0xb1
atomic_opcode atomic.ExchangeAdd = 0xc1

unfoldable pub indirect_digit : Indirect → ℕ
indirect_digit indirect.Jmp = 4
indirect_digit indirect.Call = 2
