-- The one spelling of each instruction, in the order of the modules that write it: moves, computation, control.
use Rattle.std.specs.Prelude.{ℕ, ℤ, Bool, true, false, List, [], ◌∷◌, ◌++◌, ◌+◌, ◌*◌, Option, Some, None, if◌then◌else◌}
use Rattle.std.specs.Int.{w32, to_le_bytes}
use Rattle.machine_effect.specs.Numbers.{fits as fits_bits}
use Rattle.amd64_table.specs.declared.reg.Reg.{Reg}
use Rattle.amd64_table.specs.declared.condition.Cc.{Cc}
use Rattle.amd64_table.specs.declared.memory.Mem.{Mem}
use Rattle.amd64_table.specs.declared.memory.Mem.TheVariants as memory
use Rattle.amd64_table.specs.declared.memory.Rm.{Rm}
use Rattle.amd64_table.specs.declared.memory.Rm.TheVariants as operand
use Rattle.amd64_table.specs.declared.op.Extend.{Extend}
use Rattle.amd64_table.specs.declared.op.Extend.TheVariants as extend
use Rattle.amd64_table.specs.declared.op.RmReg.{RmReg}
use Rattle.amd64_table.specs.declared.op.RmReg.TheVariants as rm_reg
use Rattle.amd64_table.specs.declared.op.StoreSize.{StoreSize}
use Rattle.amd64_table.specs.declared.op.StoreSize.TheVariants as size
use Rattle.amd64_table.specs.declared.op.Near.{Near}
use Rattle.amd64_table.specs.declared.op.Near.TheVariants as near
use Rattle.amd64_table.specs.declared.op.Plain.{Plain}
use Rattle.amd64_table.specs.declared.op.Plain.TheVariants as plain
use Rattle.amd64_table.specs.declared.instr.Instr.{Instr}
use Rattle.amd64_table.specs.declared.instr.Instr.TheVariants as instr
use Rattle.amd64_table.specs.Registers.{low_bits, is_high, is_byte_high, low_bits_xmm, is_high_xmm}
use Rattle.amd64_table.specs.Conditions.{cc_number}
use Rattle.amd64_table.specs.Operands.{is_quad}
use Rattle.amd64_code.specs.declared.rex.Rex.{Rex}
use Rattle.amd64_code.specs.declared.head.Legacy.{Legacy}
use Rattle.amd64_code.specs.declared.head.Legacy.TheVariants.{Absent, OperandSize, Repeat, Fs}
use Rattle.amd64_code.specs.declared.head.Opcode.{Opcode}
use Rattle.amd64_code.specs.declared.head.Opcode.TheVariants.{One, Two}
use Rattle.amd64_code.specs.declared.head.Head.{Head}
use Rattle.amd64_code.specs.Constants.{byte_of, long_of, quad_of, short_of}
use Rattle.amd64_code.specs.Heads.{head_bytes, no_rex}
use Rattle.amd64_code.specs.ModRm.{fields, rm_bytes}
use Rattle.amd64_code.specs.Opcodes.{arithmetic_digit, reg_rm_opcode, mem_reg_opcode, unary_opcode, unary_digit, mul_div_digit, rm_reg_opcode, shift_digit, stack_opcode, atomic_opcode, indirect_digit}

-- the bits of REX for an operand

unfoldable pub rm_x : Rm → Bool
rm_x (operand.Mem (memory.Indexed base index scale disp)) = is_high index
rm_x _ = false

unfoldable pub rm_b : Rm → Bool
rm_b (operand.Reg reg) = is_high reg
rm_b (operand.Mem (memory.Base base disp)) = is_high base
rm_b (operand.Mem (memory.Indexed base index scale disp)) = is_high base
rm_b (operand.Mem (memory.Symbol distance)) = false

-- REX for a width of 64 bits, the register of ModRM's field reg, and an operand
abbrev pub rex_of : Bool → Bool → Rm → Rex
rex_of w r rm = record { w = w; r = r; x = rm_x rm; b = rm_b rm }

-- REX where one register stands in the opcode alone
abbrev pub rex_b : Bool → Bool → Rex
rex_b w b = record { w = w; r = false; x = false; b = b }

-- a head without prefixes but REX
abbrev pub plain_head : Rex → Opcode → Head
plain_head rex opcode = record { lock = false; legacy = Absent; bare = false; rex = rex; opcode = opcode }

abbrev pub locked_head : Bool → Rex → Opcode → Head
locked_head lock rex opcode = record (plain_head rex opcode) { lock = lock }

abbrev pub prefixed_head : Legacy → Rex → Opcode → Head
prefixed_head legacy rex opcode = record (plain_head rex opcode) { legacy = legacy }

-- a head for an operand of one byte
abbrev pub byte_head : Bool → Rex → Opcode → Head
byte_head bare rex opcode = record (plain_head rex opcode) { bare = bare }

-- a register of one byte from SP on asks for REX
abbrev pub is_byte_operand : Rm → Bool
is_byte_operand (operand.Reg reg) = is_byte_high reg
is_byte_operand (operand.Mem place) = false

abbrev pub const_opcode : ℤ → Opcode
const_opcode constant = if fits_bits 8 constant then One 0x83 else One 0x81

-- F3 before POPCNT
abbrev pub rm_reg_legacy : RmReg → Legacy
rm_reg_legacy rm_reg.Popcnt = Repeat
rm_reg_legacy _ = Absent

-- MOVB, MOVW
unfoldable pub store_low_head : StoreSize → Reg → Mem → Head
store_low_head size.Byte from to = byte_head (is_byte_high from) (rex_of false (is_high from) (operand.Mem to)) (One 0x88)
store_low_head size.Word from to = prefixed_head OperandSize (rex_of false (is_high from) (operand.Mem to)) (One 0x89)

-- MOVBLZX, MOVWLZX, MOVBQSX, MOVWQSX, MOVLQSX
unfoldable pub extend_head : Extend → Rm → Reg → Head
extend_head extend.ByteZero from to = byte_head (is_byte_operand from) (rex_of false (is_high to) from) (Two 0xb6)
extend_head extend.WordZero from to = plain_head (rex_of false (is_high to) from) (Two 0xb7)
extend_head extend.ByteSign from to = plain_head (rex_of true (is_high to) from) (Two 0xbe)
extend_head extend.WordSign from to = plain_head (rex_of true (is_high to) from) (Two 0xbf)
extend_head extend.LongSign from to = plain_head (rex_of true (is_high to) from) (One 0x63)

unfoldable pub load_quad_bytes : ℤ → Reg → List ℕ
load_quad_bytes constant to =
    if fits_bits 32 constant
    then head_bytes (plain_head (rex_of true false (operand.Reg to)) (One 0xc7)) ++ rm_bytes 0 (operand.Reg to) ++ long_of constant
    else head_bytes (plain_head (rex_b true (is_high to)) (One (0xb8 + low_bits to))) ++ quad_of constant

-- JMP, and JEQ with each other condition
unfoldable pub short_opcode : Option Cc → Opcode
short_opcode None = One 0xeb
short_opcode (Some code) = One (0x70 + cc_number code)

-- JMP, CALL, JEQ
unfoldable pub near_opcode : Near → Opcode
near_opcode near.Jmp = One 0xe9
near_opcode near.Call = One 0xe8
near_opcode (near.If code) = Two (0x80 + cc_number code)

unfoldable pub plain_bytes : Plain → List ℕ
plain_bytes plain.Pause = 0xf3 ∷ 0x90 ∷ []
plain_bytes plain.Mfence = 0x0f ∷ 0xae ∷ 0xf0 ∷ []
plain_bytes plain.Cdq = 0x99 ∷ []
plain_bytes plain.Cqo = 0x48 ∷ 0x99 ∷ []
plain_bytes plain.Ret = 0xc3 ∷ []
plain_bytes plain.Syscall = 0x0f ∷ 0x05 ∷ []
plain_bytes plain.Cpuid = 0x0f ∷ 0xa2 ∷ []
plain_bytes plain.Rdtsc = 0x0f ∷ 0x31 ∷ []
plain_bytes plain.Undef = 0x0f ∷ 0x0b ∷ []

unfoldable pub spelling_of : Instr → List ℕ
-- MOVQ reg, rm; CMPQ rm, reg; TESTQ reg, rm
spelling_of (instr.RegRm op width reg rm) =
    head_bytes (plain_head (rex_of (is_quad width) (is_high reg) rm) (One (reg_rm_opcode op))) ++ rm_bytes (low_bits reg) rm
-- MOVQ mem, reg; CMPQ reg, mem; ADDQ, ORQ, ADCQ, SBBQ, ANDQ, SUBQ, XORQ mem, reg
spelling_of (instr.MemReg op width mem reg) =
    head_bytes (plain_head (rex_of (is_quad width) (is_high reg) (operand.Mem mem)) (One (mem_reg_opcode op)))
    ++ rm_bytes (low_bits reg) (operand.Mem mem)
-- MOVB from, to; MOVW from, to
spelling_of (instr.StoreLow size from to) = head_bytes (store_low_head size from to) ++ rm_bytes (low_bits from) (operand.Mem to)
-- MOVBLZX, MOVWLZX, MOVBQSX, MOVWQSX, MOVLQSX from, to
spelling_of (instr.Extend op from to) = head_bytes (extend_head op from to) ++ rm_bytes (low_bits to) from
-- MOVL $constant, to
spelling_of (instr.LoadLong constant to) =
    head_bytes (plain_head (rex_b false (is_high to)) (One (0xb8 + low_bits to))) ++ to_le_bytes w32 constant
-- MOVQ $constant, to
spelling_of (instr.LoadQuad constant to) = load_quad_bytes constant to
-- MOVQ $constant, to in memory
spelling_of (instr.StoreConst width constant to) =
    head_bytes (plain_head (rex_of (is_quad width) false (operand.Mem to)) (One 0xc7))
    ++ rm_bytes 0 (operand.Mem to) ++ long_of constant
-- MOVB $constant, to in memory
spelling_of (instr.StoreByte constant to) =
    head_bytes (plain_head (rex_of false false (operand.Mem to)) (One 0xc6)) ++ rm_bytes 0 (operand.Mem to) ++ byte_of constant
-- LEAQ from, to
spelling_of (instr.Lea from to) =
    head_bytes (plain_head (rex_of true (is_high to) (operand.Mem from)) (One 0x8d)) ++ rm_bytes (low_bits to) (operand.Mem from)
-- CMOVQEQ from, to
spelling_of (instr.MoveCc code width from to) =
    head_bytes (plain_head (rex_of (is_quad width) (is_high to) from) (Two (0x40 + cc_number code)))
    ++ rm_bytes (low_bits to) from
-- MOVOU from, to, a load
spelling_of (instr.LoadWide from to) =
    head_bytes (prefixed_head Repeat (rex_of false (is_high_xmm to) (operand.Mem from)) (Two 0x6f))
    ++ rm_bytes (low_bits_xmm to) (operand.Mem from)
-- MOVOU from, to, a store
spelling_of (instr.StoreWide from to) =
    head_bytes (prefixed_head Repeat (rex_of false (is_high_xmm from) (operand.Mem to)) (Two 0x7f))
    ++ rm_bytes (low_bits_xmm from) (operand.Mem to)
-- MOVQ (TLS), to: ModRM and SIB 25 give the address -8 alone
spelling_of (instr.LoadTls to) =
    head_bytes (prefixed_head Fs (record { w = true; r = is_high to; x = false; b = false }) (One 0x8b))
    ++ fields 0 (low_bits to) 4 ∷ 0x25 ∷ 0xf8 ∷ 0xff ∷ 0xff ∷ 0xff ∷ []
-- ADDQ, ORQ, ADCQ, SBBQ, ANDQ, SUBQ, XORQ from, to
spelling_of (instr.ArithmeticReg op lock width from to) =
    head_bytes (locked_head lock (rex_of (is_quad width) (is_high from) to) (One (8 * arithmetic_digit op + 1)))
    ++ rm_bytes (low_bits from) to
-- ADDQ, ORQ, ADCQ, SBBQ, ANDQ, SUBQ, XORQ $constant, to
spelling_of (instr.ArithmeticConst op lock width constant to) =
    head_bytes (locked_head lock (rex_of (is_quad width) false to) (const_opcode constant))
    ++ rm_bytes (arithmetic_digit op) to ++ short_of constant
-- CMPQ rm, $constant
spelling_of (instr.CompareConst width rm constant) =
    head_bytes (plain_head (rex_of (is_quad width) false rm) (const_opcode constant)) ++ rm_bytes 7 rm ++ short_of constant
-- INCQ, DECQ, NOTQ, NEGQ rm
spelling_of (instr.Unary op lock width rm) =
    head_bytes (locked_head lock (rex_of (is_quad width) false rm) (One (unary_opcode op))) ++ rm_bytes (unary_digit op) rm
-- MULQ, DIVQ, IDIVQ rm
spelling_of (instr.MulDiv op width rm) =
    head_bytes (plain_head (rex_of (is_quad width) false rm) (One 0xf7)) ++ rm_bytes (mul_div_digit op) rm
-- IMULQ, BSFQ, BSRQ, POPCNTQ from, to
spelling_of (instr.RmReg op width from to) =
    head_bytes (prefixed_head (rm_reg_legacy op) (rex_of (is_quad width) (is_high to) from) (Two (rm_reg_opcode op)))
    ++ rm_bytes (low_bits to) from
-- SHLQ, SHRQ, SARQ, ROLQ $count, rm
spelling_of (instr.ShiftConst op width count rm) =
    head_bytes (plain_head (rex_of (is_quad width) false rm) (One 0xc1)) ++ rm_bytes (shift_digit op) rm ++ count ∷ []
-- SHLQ, SHRQ, SARQ, ROLQ CX, rm
spelling_of (instr.ShiftCx op width rm) =
    head_bytes (plain_head (rex_of (is_quad width) false rm) (One 0xd3)) ++ rm_bytes (shift_digit op) rm
-- XCHGQ reg, mem
spelling_of (instr.Exchange width reg mem) =
    head_bytes (plain_head (rex_of (is_quad width) (is_high reg) (operand.Mem mem)) (One 0x87))
    ++ rm_bytes (low_bits reg) (operand.Mem mem)
-- CMPXCHGQ reg, mem; XADDQ reg, mem
spelling_of (instr.Atomic op lock width reg mem) =
    head_bytes (locked_head lock (rex_of (is_quad width) (is_high reg) (operand.Mem mem)) (Two (atomic_opcode op)))
    ++ rm_bytes (low_bits reg) (operand.Mem mem)
-- SETEQ to
spelling_of (instr.SetCc code to) =
    head_bytes (byte_head (is_byte_operand to) (rex_of false false to) (Two (0x90 + cc_number code))) ++ rm_bytes 0 to
-- BSWAPQ reg
spelling_of (instr.SwapBytes width reg) =
    head_bytes (plain_head (rex_b (is_quad width) (is_high reg)) (Two (0xc8 + low_bits reg)))
-- PXOR from, to
spelling_of (instr.XorWide from to) =
    head_bytes (prefixed_head OperandSize (record { w = false; r = is_high_xmm to; x = false; b = is_high_xmm from }) (Two 0xef))
    ++ fields 3 (low_bits_xmm to) (low_bits_xmm from) ∷ []
-- PUSHQ reg; POPQ reg
spelling_of (instr.Stack op reg) = head_bytes (plain_head (rex_b false (is_high reg)) (One (stack_opcode op + low_bits reg)))
-- JMP goal; JEQ goal, with one byte
spelling_of (instr.Short code distance) = head_bytes (plain_head no_rex (short_opcode code)) ++ byte_of distance
-- JMP goal; CALL goal; JEQ goal, with four bytes
spelling_of (instr.Near op distance) = head_bytes (plain_head no_rex (near_opcode op)) ++ long_of distance
-- JMP rm; CALL rm
spelling_of (instr.Indirect op rm) =
    head_bytes (plain_head (rex_of false false rm) (One 0xff)) ++ rm_bytes (indirect_digit op) rm
-- PAUSE, MFENCE, CDQ, CQO, RET, SYSCALL, CPUID, RDTSC, UNDEF
spelling_of (instr.Plain op) = plain_bytes op
