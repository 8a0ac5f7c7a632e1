-- The instruction whose fields bytes have, whether or not they are its spelling. A spelling has the fields of its instruction, so
-- what is left to a reader is to compare.
use Rattle.std.specs.Prelude.{ℕ, ℤ, Bool, List, pos, ◌/◌, ◌%◌, ◌==◌, drop, slice_index, nat_lt, Some, None, if◌then◌else◌}
use Rattle.amd64_table.specs.declared.reg.Reg.{Reg}
use Rattle.amd64_table.specs.declared.xmm.Xmm.{Xmm}
use Rattle.amd64_table.specs.declared.width.Width.{Width}
use Rattle.amd64_table.specs.declared.width.Width.TheVariants.{Q, L}
use Rattle.amd64_table.specs.declared.memory.Mem.{Mem}
use Rattle.amd64_table.specs.declared.memory.Mem.TheVariants as memory
use Rattle.amd64_table.specs.declared.memory.Rm.{Rm}
use Rattle.amd64_table.specs.declared.memory.Rm.TheVariants as operand
use Rattle.amd64_table.specs.declared.op.Extend.TheVariants as extend
use Rattle.amd64_table.specs.declared.op.RegRm.TheVariants as reg_rm
use Rattle.amd64_table.specs.declared.op.MemReg.{MemReg}
use Rattle.amd64_table.specs.declared.op.MemReg.TheVariants as mem_reg
use Rattle.amd64_table.specs.declared.op.RmReg.TheVariants as rm_reg
use Rattle.amd64_table.specs.declared.op.StoreSize.TheVariants as size
use Rattle.amd64_table.specs.declared.op.Unary.TheVariants as unary
use Rattle.amd64_table.specs.declared.op.Stack.TheVariants as stack
use Rattle.amd64_table.specs.declared.op.Atomic.TheVariants as atomic
use Rattle.amd64_table.specs.declared.op.Indirect.TheVariants as indirect
use Rattle.amd64_table.specs.declared.op.Near.TheVariants as near
use Rattle.amd64_table.specs.declared.op.Plain.TheVariants as plain
use Rattle.amd64_table.specs.declared.instr.Instr.{Instr}
use Rattle.amd64_table.specs.declared.instr.Instr.TheVariants as instr
use Rattle.amd64_code.specs.declared.rex.Rex.{Rex}
use Rattle.amd64_code.specs.declared.head.Legacy.{Legacy}
use Rattle.amd64_code.specs.declared.head.Legacy.TheVariants.{OperandSize, Fs}
use Rattle.amd64_code.specs.declared.head.Opcode.{Opcode}
use Rattle.amd64_code.specs.declared.head.Opcode.TheVariants.{One, Two}
use Rattle.amd64_code.specs.Constants.{byte_in, unsigned_in, long_in, quad_in}
use Rattle.amd64_code.specs.Registers.{reg_at, xmm_at, cc_at}
use Rattle.amd64_code.specs.Heads as heads
use Rattle.amd64_code.specs.ModRm.{field_in, low_in, rm_in, operand_size}
use Rattle.amd64_code.specs.Opcodes.{arithmetic_at, mul_div_at, shift_at}

-- the fields behind an opcode, by the bits of REX

abbrev pub width_in : Rex → Width
width_in rex = if rex.w then Q else L

abbrev pub reg_in : Rex → List ℕ → Reg
reg_in rex tail = reg_at rex.r (field_in tail)

-- the register whose low bits stand in the opcode
abbrev pub opcode_reg : Rex → ℕ → Reg
opcode_reg rex opcode = reg_at rex.b (opcode % 8)

abbrev pub xmm_in : Rex → List ℕ → Xmm
xmm_in rex tail = xmm_at rex.r (field_in tail)

abbrev pub low_xmm_in : Rex → List ℕ → Xmm
low_xmm_in rex tail = xmm_at rex.b (low_in tail)

abbrev pub operand_in : Rex → List ℕ → Rm
operand_in rex tail = rm_in rex.x rex.b tail

-- a register is no place in memory; what is made of one has another spelling
abbrev pub memory_of : Rm → Mem
memory_of (operand.Mem place) = place
memory_of (operand.Reg reg) = memory.Base reg (pos 0)

abbrev pub memory_in : Rex → List ℕ → Mem
memory_in rex tail = memory_of (operand_in rex tail)

-- what is behind ModRM, SIB and displacement
abbrev pub behind_operand : List ℕ → List ℕ
behind_operand tail = drop (operand_size tail) tail

-- the instructions of one byte, by the high digit of the opcode

abbrev pub mem_reg_at : ℕ → MemReg
mem_reg_at digit = if digit == 7 then mem_reg.Cmp else mem_reg.Arithmetic (arithmetic_at digit)

-- 00 to 3F
unfoldable pub arithmetic_row : Bool → Rex → ℕ → List ℕ → Instr
arithmetic_row lock rex opcode tail =
    if opcode % 8 == 3 then instr.MemReg (mem_reg_at (opcode / 8)) (width_in rex) (memory_in rex tail) (reg_in rex tail)
    else (if opcode / 8 == 7 then instr.RegRm reg_rm.Cmp (width_in rex) (reg_in rex tail) (operand_in rex tail)
    else instr.ArithmeticReg (arithmetic_at (opcode / 8)) lock (width_in rex) (reg_in rex tail) (operand_in rex tail))

unfoldable pub stack_row : Rex → ℕ → Instr
stack_row rex opcode = if opcode / 8 == 10 then instr.Stack stack.Push (opcode_reg rex opcode)
    else instr.Stack stack.Pop (opcode_reg rex opcode)

-- 81 and 83
unfoldable pub constant_group : Bool → Width → ℕ → Rm → ℤ → Instr
constant_group lock width digit rm constant =
    if digit == 7 then instr.CompareConst width rm constant
    else instr.ArithmeticConst (arithmetic_at digit) lock width constant rm

-- 89
unfoldable pub copy_or_store : Legacy → Rex → List ℕ → Instr
copy_or_store OperandSize rex tail = instr.StoreLow size.Word (reg_in rex tail) (memory_in rex tail)
copy_or_store _ rex tail = instr.RegRm reg_rm.Mov (width_in rex) (reg_in rex tail) (operand_in rex tail)

-- 8B
unfoldable pub load : Legacy → Rex → List ℕ → Instr
load Fs rex tail = instr.LoadTls (reg_in rex tail)
load _ rex tail = instr.MemReg mem_reg.Mov (width_in rex) (memory_in rex tail) (reg_in rex tail)

unfoldable pub row_8 : Bool → Legacy → Rex → ℕ → List ℕ → Instr
row_8 lock legacy rex opcode tail =
    if opcode == 0x81 then constant_group lock (width_in rex) (field_in tail) (operand_in rex tail) (long_in (behind_operand tail))
    else (if opcode == 0x83 then constant_group lock (width_in rex) (field_in tail) (operand_in rex tail) (byte_in (behind_operand tail))
    else (if opcode == 0x85 then instr.RegRm reg_rm.Test (width_in rex) (reg_in rex tail) (operand_in rex tail)
    else (if opcode == 0x87 then instr.Exchange (width_in rex) (reg_in rex tail) (memory_in rex tail)
    else (if opcode == 0x88 then instr.StoreLow size.Byte (reg_in rex tail) (memory_in rex tail)
    else (if opcode == 0x89 then copy_or_store legacy rex tail
    else (if opcode == 0x8b then load legacy rex tail
    else instr.Lea (memory_in rex tail) (reg_in rex tail)))))))

unfoldable pub row_9 : Rex → ℕ → Instr
row_9 rex opcode =
    if opcode == 0x90 then instr.Plain plain.Pause
    else (if rex.w then instr.Plain plain.Cqo else instr.Plain plain.Cdq)

unfoldable pub row_b : Rex → ℕ → List ℕ → Instr
row_b rex opcode tail =
    if rex.w then instr.LoadQuad (quad_in tail) (opcode_reg rex opcode)
    else instr.LoadLong (unsigned_in tail) (opcode_reg rex opcode)

-- C7
unfoldable pub constant_copy : Width → Rm → ℤ → Instr
constant_copy width (operand.Reg to) constant = instr.LoadQuad constant to
constant_copy width (operand.Mem to) constant = instr.StoreConst width constant to

unfoldable pub row_c : Rex → ℕ → List ℕ → Instr
row_c rex opcode tail =
    if opcode == 0xc1 then instr.ShiftConst (shift_at (field_in tail)) (width_in rex)
    (slice_index (behind_operand tail) 0) (operand_in rex tail)
    else (if opcode == 0xc3 then instr.Plain plain.Ret
    else (if opcode == 0xc6 then instr.StoreByte (byte_in (behind_operand tail)) (memory_in rex tail)
    else constant_copy (width_in rex) (operand_in rex tail) (long_in (behind_operand tail))))

unfoldable pub row_e : ℕ → List ℕ → Instr
row_e opcode tail =
    if opcode == 0xe8 then instr.Near near.Call (long_in tail)
    else (if opcode == 0xe9 then instr.Near near.Jmp (long_in tail)
    else instr.Short None (byte_in tail))

-- F7
unfoldable pub unary_group : Bool → Width → ℕ → Rm → Instr
unary_group lock width digit rm =
    if digit == 2 then instr.Unary unary.Not lock width rm
    else (if digit == 3 then instr.Unary unary.Neg lock width rm
    else instr.MulDiv (mul_div_at digit) width rm)

-- FF
unfoldable pub step_group : Bool → Width → ℕ → Rm → Instr
step_group lock width digit rm =
    if digit == 0 then instr.Unary unary.Inc lock width rm
    else (if digit == 1 then instr.Unary unary.Dec lock width rm
    else (if digit == 2 then instr.Indirect indirect.Call rm else instr.Indirect indirect.Jmp rm))

unfoldable pub row_f : Bool → Rex → ℕ → List ℕ → Instr
row_f lock rex opcode tail =
    if opcode == 0xf7 then unary_group lock (width_in rex) (field_in tail) (operand_in rex tail)
    else step_group lock (width_in rex) (field_in tail) (operand_in rex tail)

unfoldable pub one_byte : Bool → Legacy → Rex → ℕ → List ℕ → Instr
one_byte lock legacy rex opcode tail =
    if nat_lt opcode 0x40 then arithmetic_row lock rex opcode tail
    else (if opcode / 16 == 5 then stack_row rex opcode
    else (if opcode / 16 == 6 then instr.Extend extend.LongSign (operand_in rex tail) (reg_in rex tail)
    else (if opcode / 16 == 7 then instr.Short (Some (cc_at (opcode % 16))) (byte_in tail)
    else (if opcode / 16 == 8 then row_8 lock legacy rex opcode tail
    else (if opcode / 16 == 9 then row_9 rex opcode
    else (if opcode / 16 == 11 then row_b rex opcode tail
    else (if opcode / 16 == 12 then row_c rex opcode tail
    else (if opcode / 16 == 13 then instr.ShiftCx (shift_at (field_in tail)) (width_in rex) (operand_in rex tail)
    else (if opcode / 16 == 14 then row_e opcode tail
    else row_f lock rex opcode tail)))))))))

-- the instructions of 0F and one byte, by the high digit of that byte

unfoldable pub row_0f_0 : ℕ → Instr
row_0f_0 opcode = if opcode == 0x05 then instr.Plain plain.Syscall else instr.Plain plain.Undef

unfoldable pub row_0f_a : Rex → ℕ → List ℕ → Instr
row_0f_a rex opcode tail =
    if opcode == 0xa2 then instr.Plain plain.Cpuid
    else (if opcode == 0xae then instr.Plain plain.Mfence
    else instr.RmReg rm_reg.Imul (width_in rex) (operand_in rex tail) (reg_in rex tail))

unfoldable pub row_0f_b : Bool → Rex → ℕ → List ℕ → Instr
row_0f_b lock rex opcode tail =
    if opcode == 0xb1 then instr.Atomic atomic.CompareExchange lock (width_in rex) (reg_in rex tail) (memory_in rex tail)
    else (if opcode == 0xb6 then instr.Extend extend.ByteZero (operand_in rex tail) (reg_in rex tail)
    else (if opcode == 0xb7 then instr.Extend extend.WordZero (operand_in rex tail) (reg_in rex tail)
    else (if opcode == 0xb8 then instr.RmReg rm_reg.Popcnt (width_in rex) (operand_in rex tail) (reg_in rex tail)
    else (if opcode == 0xbc then instr.RmReg rm_reg.Bsf (width_in rex) (operand_in rex tail) (reg_in rex tail)
    else (if opcode == 0xbd then instr.RmReg rm_reg.Bsr (width_in rex) (operand_in rex tail) (reg_in rex tail)
    else (if opcode == 0xbe then instr.Extend extend.ByteSign (operand_in rex tail) (reg_in rex tail)
    else instr.Extend extend.WordSign (operand_in rex tail) (reg_in rex tail)))))))

unfoldable pub row_0f_c : Bool → Rex → ℕ → List ℕ → Instr
row_0f_c lock rex opcode tail =
    if opcode == 0xc1 then instr.Atomic atomic.ExchangeAdd lock (width_in rex) (reg_in rex tail) (memory_in rex tail)
    else instr.SwapBytes (width_in rex) (opcode_reg rex opcode)

unfoldable pub two_bytes : Bool → Rex → ℕ → List ℕ → Instr
two_bytes lock rex opcode tail =
    if opcode / 16 == 0 then row_0f_0 opcode
    else (if opcode / 16 == 3 then instr.Plain plain.Rdtsc
    else (if opcode / 16 == 4 then instr.MoveCc (cc_at (opcode % 16)) (width_in rex) (operand_in rex tail) (reg_in rex tail)
    else (if opcode / 16 == 6 then instr.LoadWide (memory_in rex tail) (xmm_in rex tail)
    else (if opcode / 16 == 7 then instr.StoreWide (xmm_in rex tail) (memory_in rex tail)
    else (if opcode / 16 == 8 then instr.Near (near.If (cc_at (opcode % 16))) (long_in tail)
    else (if opcode / 16 == 9 then instr.SetCc (cc_at (opcode % 16)) (operand_in rex tail)
    else (if opcode / 16 == 10 then row_0f_a rex opcode tail
    else (if opcode / 16 == 11 then row_0f_b lock rex opcode tail
    else (if opcode / 16 == 12 then row_0f_c lock rex opcode tail
    else instr.XorWide (low_xmm_in rex tail) (xmm_in rex tail))))))))))

abbrev pub by_opcode : Bool → Legacy → Rex → Opcode → List ℕ → Instr
by_opcode lock legacy rex (One opcode) tail = one_byte lock legacy rex opcode tail
by_opcode lock legacy rex (Two opcode) tail = two_bytes lock rex opcode tail

-- from the opcode on
abbrev pub with_opcode : Bool → Legacy → Rex → List ℕ → Instr
with_opcode lock legacy rex bytes = by_opcode lock legacy rex (heads.opcode_in bytes) (heads.behind_opcode bytes)

-- from REX on
abbrev pub with_rex : Bool → Legacy → List ℕ → Instr
with_rex lock legacy bytes = with_opcode lock legacy (heads.rex_in bytes) (heads.behind_rex bytes)

-- from behind LOCK on
abbrev pub with_legacy : Bool → List ℕ → Instr
with_legacy lock bytes = with_rex lock (heads.legacy_in bytes) (heads.behind_legacy bytes)

unfoldable pub reading : List ℕ → Instr
reading bytes = with_legacy (heads.lock_in bytes) (heads.behind_lock bytes)
