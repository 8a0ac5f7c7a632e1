-- What moves, branches and what leaves the program do, in words over a step: by the name and the operands as they are written.
use Rattle.std.specs.Prelude.{◌≡◌, ◌⊎◌, ℕ, Bool, true, All, ◌==◌, ◌<◌, ◌+◌, ◌-◌, ◌*◌, ◌%◌, ◌^◌, ◌||◌, not, slice_index, Option, Some, None, if◌then◌else◌}
use Rattle.std.specs.Bool.{beq}
use Rattle.machine_effect.specs.declared.state.State.{State}
use Rattle.machine_effect.specs.declared.state.Flags.{Flags}
use Rattle.machine_effect.specs.declared.effect.Value.{Value}
use Rattle.machine_effect.specs.declared.next.Next.{Next}
use Rattle.machine_effect.specs.declared.next.Next.TheVariants as next
use Rattle.machine_effect.specs.Numbers.{unsigned, signed, moved_by}
use Rattle.machine_effect.specs.Memory.{number_at, put, bytes_of}
use Rattle.machine_effect.specs.Values.{reg_of, atom_of, equal, Gives}
use Rattle.machine_effect.specs.Applies.{IsState, Applies}
use Rattle.machine_effect.specs.Witness.{resolved}
use Rattle.amd64_table.specs.declared.condition.Cc.{Cc}
use Rattle.amd64_table.specs.declared.condition.Cc.TheVariants as code
use Rattle.amd64_table.specs.declared.width.Width.TheVariants.{Q, L}
use Rattle.amd64_table.specs.declared.memory.Mem.{Mem}
use Rattle.amd64_table.specs.declared.memory.Mem.TheVariants as memory
use Rattle.amd64_table.specs.declared.op.StoreSize.TheVariants as size
use Rattle.amd64_table.specs.declared.op.Extend.{Extend}
use Rattle.amd64_table.specs.declared.op.Extend.TheVariants as extend
use Rattle.amd64_table.specs.declared.op.RmReg.TheVariants as rm_reg
use Rattle.amd64_table.specs.declared.op.Atomic.TheVariants as atomic
use Rattle.amd64_table.specs.declared.op.Plain.TheVariants as plain
use Rattle.amd64_table.specs.declared.operand.Operand.{Operand}
use Rattle.amd64_table.specs.declared.operand.Operand.TheVariants as operand
use Rattle.amd64_table.specs.declared.mnemonic.Mnemonic.{Mnemonic}
use Rattle.amd64_table.specs.declared.mnemonic.Mnemonic.TheVariants as name
use Rattle.amd64_table.specs.declared.instr.Instr.{Instr}
use Rattle.amd64_table.specs.declared.instr.Instr.TheVariants as instr
use Rattle.amd64_table.specs.Registers.{number_of, xmm_number}
use Rattle.amd64_table.specs.Operands.{factor_of, rm_atom}
use Rattle.amd64_table.specs.Effects.{effect_at}
use Rattle.amd64_table.specs.Mnemonics.{mnemonic_of, width_of}
use Rattle.amd64_table.specs.Texts.{operands_of}

-- when a condition holds, by the flags (Intel 64 manual, volume 1, "EFLAGS condition codes")
abbrev pub is_met : Cc → Flags → Bool
is_met code.Over flags = flags.over
is_met code.NotOver flags = not flags.over
is_met code.Carry flags = flags.carry
is_met code.NotCarry flags = not flags.carry
is_met code.Zero flags = flags.zero
is_met code.NotZero flags = not flags.zero
is_met code.CarryOrZero flags = flags.carry || flags.zero
is_met code.NeitherCarryNorZero flags = not (flags.carry || flags.zero)
is_met code.Negative flags = flags.sign
is_met code.NotNegative flags = not flags.sign
is_met code.ParityEven flags = flags.parity
is_met code.ParityOdd flags = not flags.parity
is_met code.Less flags = not (beq flags.sign flags.over)
is_met code.GreaterOrEqual flags = beq flags.sign flags.over
is_met code.LessOrEqual flags = flags.zero || not (beq flags.sign flags.over)
is_met code.Greater flags = not (flags.zero || not (beq flags.sign flags.over))

-- the address of a place in memory, for an instruction that ends at `end`
abbrev pub address_in : State → ℕ → Mem → ℕ
address_in state end (memory.Base base disp) = (reg_of state (number_of base) + unsigned 64 disp) % 2 ^ 64
address_in state end (memory.Indexed base index scale disp) =
    (reg_of state (number_of base) + reg_of state (number_of index) * factor_of scale + unsigned 64 disp) % 2 ^ 64
address_in state end (memory.Symbol distance) = moved_by end distance

-- the number in an operand, of which memory has n bytes
abbrev pub number_in : State → ℕ → ℕ → Operand → Option ℕ
number_in state end n (operand.Reg reg) = Some (reg_of state (number_of reg))
number_in state end n (operand.Wide xmm) = Some (slice_index state.wide (xmm_number xmm))
number_in state end n (operand.Mem mem) = number_at state.mem (address_in state end mem) n
number_in state end n (operand.Const constant) = Some (unsigned 64 constant)
number_in state end n (operand.Goal distance) = None
number_in state end n operand.Tls = number_at state.mem ((reg_of state 16 + (2 ^ 64 - 8)) % 2 ^ 64) n

-- after a step n bytes of memory, or all of a register, are this number, and all other memory is as before
abbrev pub Receives : State → State → ℕ → ℕ → ℕ → Operand → Type 0
Receives before after end n x (operand.Reg reg) = (reg_of after (number_of reg) ≡ x) × (after.mem ≡ before.mem)
Receives before after end n x (operand.Wide xmm) = (slice_index after.wide (xmm_number xmm) ≡ x) × (after.mem ≡ before.mem)
Receives before after end n x (operand.Mem mem) = after.mem ≡ put before.mem (address_in before end mem) (bytes_of n x)
Receives before after end n x _ = ⊥

-- the second operand becomes what a function makes of the lowest n bytes of the first
abbrev pub Becomes : State → State → ℕ → ℕ → (ℕ → ℕ) → Option Operand × Option Operand → Type 0
Becomes before after end n made (Some from, Some to) =
    (x : ℕ) × (number_in before end n from ≡ Some x) × Receives before after end n (made (x % 2 ^ (8 * n))) to
Becomes before after end n made _ = ⊥

-- .. it becomes them
abbrev pub Moves : State → State → ℕ → ℕ → Option Operand × Option Operand → Type 0
Moves before after end n operands = Becomes before after end n (λ x. x) operands

-- .. or them with copies of their highest bit above
abbrev pub extended_from : ℕ → ℕ → ℕ
extended_from n x = unsigned 64 (signed (8 * n) x)

abbrev pub Extends : State → State → ℕ → Extend → Option Operand × Option Operand → Type 0
Extends before after end extend.ByteZero operands = Moves before after end 1 operands
Extends before after end extend.WordZero operands = Moves before after end 2 operands
Extends before after end extend.ByteSign operands = Becomes before after end 1 (extended_from 1) operands
Extends before after end extend.WordSign operands = Becomes before after end 2 (extended_from 2) operands
Extends before after end extend.LongSign operands = Becomes before after end 4 (extended_from 4) operands

-- the machine goes on where a function of the address says: at a goal, or at the address that an operand has
abbrev pub Goes : State → ℕ → Next → (ℕ → Next) → Option Operand × Option Operand → Type 0
Goes before end gone way (Some (operand.Goal distance), None) = gone ≡ way (moved_by end distance)
Goes before end gone way (Some from, None) = (x : ℕ) × (number_in before end 8 from ≡ Some x) × (gone ≡ way x)
Goes before end gone way _ = ⊥

-- what a name and its operands tell of a step that goes on at `gone`
abbrev pub Tells : State → State → ℕ → Next → Mnemonic → Option Operand × Option Operand → Type 0
Tells before after end gone (name.Mov Q) operands = Moves before after end 8 operands × (gone ≡ next.Fall)
Tells before after end gone (name.Mov L) operands = Moves before after end 4 operands × (gone ≡ next.Fall)
Tells before after end gone (name.StoreLow size.Byte) operands = Moves before after end 1 operands × (gone ≡ next.Fall)
Tells before after end gone (name.StoreLow size.Word) operands = Moves before after end 2 operands × (gone ≡ next.Fall)
Tells before after end gone name.MoveWide operands = Moves before after end 16 operands × (gone ≡ next.Fall)
Tells before after end gone (name.Extend op) operands = Extends before after end op operands × (gone ≡ next.Fall)
Tells before after end gone name.Jump operands = Goes before end gone (λ goal. next.Jump goal) operands
Tells before after end gone (name.JumpIf code) operands =
    Goes before end gone (λ goal. if is_met code before.flags then next.Jump goal else next.Fall) operands
Tells before after end gone name.Call operands = Goes before end gone (λ goal. next.Call goal None) operands
Tells before after end gone (name.Plain plain.Ret) operands = gone ≡ next.Return
Tells before after end gone (name.Plain plain.Syscall) operands = gone ≡ next.System
Tells before after end gone (name.Plain plain.Undef) operands = gone ≡ next.Stop
Tells before after end gone _ operands = gone ≡ next.Fall

-- each step by an instruction is as its name and its operands tell
abbrev pub MeansItsText : Instr → Type 0
MeansItsText i =
    (end past : ℕ) (before after : State) → IsState before → (applies : Applies (effect_at i end) past before after)
    → Tells before after end (resolved before applies.loaded (effect_at i end).next) (mnemonic_of i) (operands_of i)

-- what a write of 32 bits leaves in a register is below 2^32. But CMPXCHGL leaves AX where its lower half equals what was loaded, and
-- BSFL and BSRL of 0 leave any number
abbrev pub EndsLow : State → ℕ → Instr → ℕ → Type 0
EndsLow state loaded (instr.Atomic atomic.CompareExchange lock width reg mem) x = (equal 32 (reg_of state 0) loaded ≡ true) ⊎ (x < 2 ^ 32)
EndsLow state loaded (instr.RmReg rm_reg.Bsf width from to) x = ((atom_of state loaded (rm_atom from) % 2 ^ 32 == 0) ≡ true) ⊎ (x < 2 ^ 32)
EndsLow state loaded (instr.RmReg rm_reg.Bsr width from to) x = ((atom_of state loaded (rm_atom from) % 2 ^ 32 == 0) ≡ true) ⊎ (x < 2 ^ 32)
EndsLow state loaded i x = x < 2 ^ 32

abbrev pub EndsWrite : State → ℕ → Instr → ℕ × Value → Type 0
EndsWrite state loaded i write = (x : ℕ) → Gives state loaded write.1 x → EndsLow state loaded i x

-- so does each write of an instruction whose name tells 32 bits, where a number of four bytes was loaded
abbrev pub ClearsUpper : Instr → Type 0
ClearsUpper i =
    (end loaded : ℕ) (state : State) → loaded < 2 ^ 32 → width_of (mnemonic_of i) ≡ Some L
    → All (EndsWrite state loaded i) (effect_at i end).writes.items
