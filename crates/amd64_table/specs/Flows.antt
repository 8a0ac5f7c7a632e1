-- What each instruction does to the stack pointer, as its effect's form tells, and where the machine goes on.
use Rattle.std.specs.Prelude.{ℕ, ℤ, pos, negsuc, ◌-ℤ◌, Option, Some, None}
use Rattle.machine_effect.specs.declared.flow.SpMove.{SpMove}
use Rattle.machine_effect.specs.declared.flow.SpMove.TheVariants.{Keep, By, Other}
use Rattle.machine_effect.specs.declared.next.Next.{Next}
use Rattle.machine_effect.specs.declared.next.Next.TheVariants as next
use Rattle.machine_effect.specs.Numbers.{moved_by}
use Rattle.amd64_table.specs.declared.condition.Cc.{Cc}
use Rattle.amd64_table.specs.declared.reg.Reg.{Reg}
use Rattle.amd64_table.specs.declared.reg.Reg.TheVariants.{Sp}
use Rattle.amd64_table.specs.declared.width.Width.{Width}
use Rattle.amd64_table.specs.declared.width.Width.TheVariants.{Q}
use Rattle.amd64_table.specs.declared.memory.Rm.{Rm}
use Rattle.amd64_table.specs.declared.memory.Rm.TheVariants as operand
use Rattle.amd64_table.specs.declared.op.Arithmetic.{Arithmetic}
use Rattle.amd64_table.specs.declared.op.Arithmetic.TheVariants as arithmetic
use Rattle.amd64_table.specs.declared.op.RegRm.{RegRm}
use Rattle.amd64_table.specs.declared.op.RegRm.TheVariants as reg_rm
use Rattle.amd64_table.specs.declared.op.MemReg.{MemReg}
use Rattle.amd64_table.specs.declared.op.MemReg.TheVariants as mem_reg
use Rattle.amd64_table.specs.declared.op.Stack.{Stack}
use Rattle.amd64_table.specs.declared.op.Stack.TheVariants as stack
use Rattle.amd64_table.specs.declared.op.Atomic.{Atomic}
use Rattle.amd64_table.specs.declared.op.Atomic.TheVariants as atomic
use Rattle.amd64_table.specs.declared.op.Near.{Near}
use Rattle.amd64_table.specs.declared.op.Near.TheVariants as near
use Rattle.amd64_table.specs.declared.op.Indirect.{Indirect}
use Rattle.amd64_table.specs.declared.op.Indirect.TheVariants as indirect
use Rattle.amd64_table.specs.declared.op.Plain.{Plain}
use Rattle.amd64_table.specs.declared.op.Plain.TheVariants as plain
use Rattle.amd64_table.specs.declared.instr.Instr.{Instr}
use Rattle.amd64_table.specs.declared.instr.Instr.TheVariants as instr
use Rattle.amd64_table.specs.Conditions.{cond_of}
use Rattle.amd64_table.specs.Operands.{rm_atom}

-- a register is written in a way that moves no stack
abbrev pub written : Reg → SpMove
written Sp = Other
written _ = Keep

abbrev pub written_rm : Rm → SpMove
written_rm (operand.Reg reg) = written reg
written_rm (operand.Mem mem) = Keep

-- a sum or a difference of 64 bits moves the stack pointer by the constant
abbrev pub moved : Arithmetic → Width → ℤ → SpMove
moved arithmetic.Add Q constant = By constant
moved arithmetic.Sub Q constant = By (pos 0 -ℤ constant)
moved _ _ constant = Other

abbrev pub moved_reg : Arithmetic → Width → ℤ → Reg → SpMove
moved_reg op width constant Sp = moved op width constant
moved_reg op width constant _ = Keep

abbrev pub moved_rm : Arithmetic → Width → ℤ → Rm → SpMove
moved_rm op width constant (operand.Reg reg) = moved_reg op width constant reg
moved_rm op width constant (operand.Mem mem) = Keep

abbrev pub reg_rm_move : RegRm → Rm → SpMove
reg_rm_move reg_rm.Mov rm = written_rm rm
reg_rm_move _ rm = Keep

abbrev pub mem_reg_move : MemReg → Reg → SpMove
mem_reg_move mem_reg.Cmp reg = Keep
mem_reg_move _ reg = written reg

-- POPQ SP leaves in it what was loaded
abbrev pub stack_move : Stack → Reg → SpMove
stack_move stack.Push reg = By (negsuc 7)
stack_move stack.Pop Sp = Other
stack_move stack.Pop _ = By (pos 8)

abbrev pub atomic_move : Atomic → Reg → SpMove
atomic_move atomic.CompareExchange reg = Keep
atomic_move atomic.ExchangeAdd reg = written reg

-- ADDQ and SUBQ of a constant, PUSHQ, and POPQ of another register move the stack pointer by a constant. All else that writes it
-- does so otherwise
unfoldable pub move_of : Instr → SpMove
move_of (instr.RegRm op width reg rm) = reg_rm_move op rm
move_of (instr.ArithmeticReg op lock width from to) = written_rm to
move_of (instr.MemReg op width mem reg) = mem_reg_move op reg
move_of (instr.ArithmeticConst op lock width constant to) = moved_rm op width constant to
move_of (instr.Extend op from to) = written to
move_of (instr.LoadLong constant to) = written to
move_of (instr.LoadQuad constant to) = written to
move_of (instr.Lea from to) = written to
move_of (instr.Unary op lock width rm) = written_rm rm
move_of (instr.RmReg op width from to) = written to
move_of (instr.ShiftConst op width count rm) = written_rm rm
move_of (instr.ShiftCx op width rm) = written_rm rm
move_of (instr.Stack op reg) = stack_move op reg
move_of (instr.Exchange width reg mem) = written reg
move_of (instr.Atomic op lock width reg mem) = atomic_move op reg
move_of (instr.SetCc code to) = written_rm to
move_of (instr.MoveCc code width from to) = written to
move_of (instr.SwapBytes width reg) = written reg
move_of (instr.LoadTls to) = written to
move_of _ = Keep

abbrev pub short_next : Option Cc → ℕ → Next
short_next None goal = next.Jump goal
short_next (Some code) goal = next.Branch (cond_of code) goal

abbrev pub near_next : Near → ℕ → Next
near_next near.Jmp goal = next.Jump goal
near_next near.Call goal = next.Call goal None
near_next (near.If code) goal = next.Branch (cond_of code) goal

abbrev pub indirect_next : Indirect → Rm → Next
indirect_next indirect.Jmp rm = next.JumpTo (rm_atom rm)
indirect_next indirect.Call rm = next.CallTo (rm_atom rm) None

abbrev pub plain_next : Plain → Next
plain_next plain.Ret = next.Return
plain_next plain.Syscall = next.System
plain_next plain.Undef = next.Stop
plain_next _ = next.Fall

-- where the machine goes on after an instruction that ends at `end`: all but branches, RET, SYSCALL and UNDEF fall through
unfoldable pub next_of : Instr → ℕ → Next
next_of (instr.Short code distance) end = short_next code (moved_by end distance)
next_of (instr.Near op distance) end = near_next op (moved_by end distance)
next_of (instr.Indirect op rm) end = indirect_next op rm
next_of (instr.Plain op) end = plain_next op
next_of _ end = next.Fall
