-- What the instructions of the stack, branches, and what has no operands do (Intel 64 manual, volume 2).
use Rattle.std.specs.Prelude.{ℕ, ℤ, pos, negsuc, [], ◌∷◌, ◌-◌, Option, Some, None}
use Rattle.machine_effect.specs.declared.effect.Atom.TheVariants as atom
use Rattle.machine_effect.specs.declared.effect.Access.{Access}
use Rattle.machine_effect.specs.declared.effect.Value.{Value}
use Rattle.machine_effect.specs.declared.effect.Effect.{Effect}
use Rattle.machine_effect.specs.declared.op.Op.TheVariants as op
use Rattle.machine_effect.specs.declared.op.Shift.TheVariants as shift
use Rattle.machine_effect.specs.declared.flag_rule.FlagRule.TheVariants as flags
use Rattle.machine_effect.specs.declared.next.Next.TheVariants as next
use Rattle.machine_effect.specs.Numbers.{moved_by}
use Rattle.amd64_table.specs.declared.condition.Cc.{Cc}
use Rattle.amd64_table.specs.declared.reg.Reg.{Reg}
use Rattle.amd64_table.specs.declared.reg.Reg.TheVariants.{Ax, Cx, Dx, Bx, Sp}
use Rattle.amd64_table.specs.declared.memory.Rm.{Rm}
use Rattle.amd64_table.specs.declared.op.Stack.{Stack}
use Rattle.amd64_table.specs.declared.op.Stack.TheVariants as stack
use Rattle.amd64_table.specs.declared.op.Near.{Near}
use Rattle.amd64_table.specs.declared.op.Near.TheVariants as near
use Rattle.amd64_table.specs.declared.op.Indirect.{Indirect}
use Rattle.amd64_table.specs.declared.op.Indirect.TheVariants as indirect
use Rattle.amd64_table.specs.declared.op.Plain.{Plain}
use Rattle.amd64_table.specs.declared.op.Plain.TheVariants as plain
use Rattle.amd64_table.specs.Registers.{number_of}
use Rattle.amd64_table.specs.Conditions.{cond_of}
use Rattle.amd64_table.specs.Operands.{reg_atom, nothing, rm_atom, load_of}
use Rattle.amd64_table.specs.Forms.{value_of, copy_of, computing, going, loading}

-- eight bytes at the stack pointer, or this far above it
abbrev pub stack_access : ℤ → Access
stack_access disp = record { width = 8; base = reg_atom Sp; index = nothing; scale = 1; disp = disp }

-- PUSH stores the register as it was below the old stack pointer; POP moves the stack pointer before it writes the register, so
-- that POPQ SP leaves what was loaded
unfoldable pub stack_effect : Stack → Reg → Effect
stack_effect stack.Push reg =
    computing ((number_of Sp, value_of op.Subtract (reg_atom Sp) (atom.Const 8) 64) ∷ []) None
    (Some (stack_access (negsuc 7), copy_of (reg_atom reg) 64)) flags.Keep
stack_effect stack.Pop reg =
    computing
    ((number_of Sp, value_of op.Add (reg_atom Sp) (atom.Const 8) 64) ∷ (number_of reg, copy_of atom.Loaded 64) ∷ [])
    (Some (stack_access (pos 0))) None flags.Keep

unfoldable pub short_effect : Option Cc → ℤ → ℕ → Effect
short_effect None distance end = going None (next.Jump (moved_by end distance))
short_effect (Some code) distance end = going None (next.Branch (cond_of code) (moved_by end distance))

-- a call pushes the address behind it, which the machine's step adds
unfoldable pub near_effect : Near → ℤ → ℕ → Effect
near_effect near.Jmp distance end = going None (next.Jump (moved_by end distance))
near_effect near.Call distance end = going None (next.Call (moved_by end distance) None)
near_effect (near.If code) distance end = going None (next.Branch (cond_of code) (moved_by end distance))

unfoldable pub indirect_effect : Indirect → Rm → ℕ → Effect
indirect_effect indirect.Jmp rm end = going (load_of 8 end rm) (next.JumpTo (rm_atom rm))
indirect_effect indirect.Call rm end = going (load_of 8 end rm) (next.CallTo (rm_atom rm) None)

-- the sign of AX in each bit, which goes into DX
abbrev pub sign_fill : ℕ → Value
sign_fill width = value_of (op.Shift shift.RightSigned) (reg_atom Ax) (atom.Const (width - 1)) width

-- any number of 32 bits, so that the upper half is 0
abbrev pub any : Value
any = value_of op.Any nothing nothing 32

abbrev pub cpuid_effect : Effect
cpuid_effect =
    computing ((number_of Ax, any) ∷ (number_of Bx, any) ∷ (number_of Cx, any) ∷ (number_of Dx, any) ∷ []) None None flags.Keep

unfoldable pub plain_effect : Plain → Effect
plain_effect plain.Pause = computing [] None None flags.Keep
plain_effect plain.Mfence = computing [] None None flags.Keep
plain_effect plain.Cdq = loading Dx (sign_fill 32)
plain_effect plain.Cqo = loading Dx (sign_fill 64)
plain_effect plain.Ret = going None next.Return
plain_effect plain.Syscall = going None next.System
plain_effect plain.Cpuid = cpuid_effect
plain_effect plain.Rdtsc = computing ((number_of Ax, any) ∷ (number_of Dx, any) ∷ []) None None flags.Keep
plain_effect plain.Undef = going None next.Stop
