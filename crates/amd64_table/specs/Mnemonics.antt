-- The name of each instruction in Go's assembler: a stem, then the letter of a width and a condition where the name tells them.
use Rattle.std.specs.Prelude.{ℕ, List, [], ◌++◌, codes, Option, Some, None}
use Rattle.amd64_table.specs.declared.condition.Cc.{Cc}
use Rattle.amd64_table.specs.declared.width.Width.{Width}
use Rattle.amd64_table.specs.declared.width.Width.TheVariants.{Q, L}
use Rattle.amd64_table.specs.declared.op.Arithmetic.{Arithmetic}
use Rattle.amd64_table.specs.declared.op.Arithmetic.TheVariants as arithmetic
use Rattle.amd64_table.specs.declared.op.RegRm.{RegRm}
use Rattle.amd64_table.specs.declared.op.RegRm.TheVariants as reg_rm
use Rattle.amd64_table.specs.declared.op.MemReg.{MemReg}
use Rattle.amd64_table.specs.declared.op.MemReg.TheVariants as mem_reg
use Rattle.amd64_table.specs.declared.op.StoreSize.TheVariants as size
use Rattle.amd64_table.specs.declared.op.Extend.{Extend}
use Rattle.amd64_table.specs.declared.op.Extend.TheVariants as extend
use Rattle.amd64_table.specs.declared.op.Unary.{Unary}
use Rattle.amd64_table.specs.declared.op.Unary.TheVariants as unary
use Rattle.amd64_table.specs.declared.op.MulDiv.{MulDiv}
use Rattle.amd64_table.specs.declared.op.MulDiv.TheVariants as mul_div
use Rattle.amd64_table.specs.declared.op.RmReg.{RmReg}
use Rattle.amd64_table.specs.declared.op.RmReg.TheVariants as rm_reg
use Rattle.amd64_table.specs.declared.op.ShiftOp.{ShiftOp}
use Rattle.amd64_table.specs.declared.op.ShiftOp.TheVariants as shifts
use Rattle.amd64_table.specs.declared.op.Stack.TheVariants as stack
use Rattle.amd64_table.specs.declared.op.Atomic.TheVariants as atomic
use Rattle.amd64_table.specs.declared.op.Near.{Near}
use Rattle.amd64_table.specs.declared.op.Near.TheVariants as near
use Rattle.amd64_table.specs.declared.op.Indirect.TheVariants as indirect
use Rattle.amd64_table.specs.declared.op.Plain.{Plain}
use Rattle.amd64_table.specs.declared.op.Plain.TheVariants as plain
use Rattle.amd64_table.specs.declared.mnemonic.Mnemonic.{Mnemonic}
use Rattle.amd64_table.specs.declared.mnemonic.Mnemonic.TheVariants as name
use Rattle.amd64_table.specs.declared.instr.Instr.{Instr}
use Rattle.amd64_table.specs.declared.instr.Instr.TheVariants as instr
use Rattle.amd64_table.specs.Conditions.{cc_text}

abbrev pub reg_rm_mnemonic : RegRm → Width → Mnemonic
reg_rm_mnemonic reg_rm.Mov width = name.Mov width
reg_rm_mnemonic reg_rm.Cmp width = name.Cmp width
reg_rm_mnemonic reg_rm.Test width = name.Test width

abbrev pub mem_reg_mnemonic : MemReg → Width → Mnemonic
mem_reg_mnemonic mem_reg.Mov width = name.Mov width
mem_reg_mnemonic mem_reg.Cmp width = name.Cmp width
mem_reg_mnemonic (mem_reg.Arithmetic op) width = name.Arithmetic op width

abbrev pub near_mnemonic : Near → Mnemonic
near_mnemonic near.Jmp = name.Jump
near_mnemonic near.Call = name.Call
near_mnemonic (near.If code) = name.JumpIf code

unfoldable pub mnemonic_of : Instr → Mnemonic
mnemonic_of (instr.RegRm op width reg rm) = reg_rm_mnemonic op width
mnemonic_of (instr.ArithmeticReg op lock width from to) = name.Arithmetic op width
mnemonic_of (instr.MemReg op width mem reg) = mem_reg_mnemonic op width
mnemonic_of (instr.ArithmeticConst op lock width constant to) = name.Arithmetic op width
mnemonic_of (instr.CompareConst width rm constant) = name.Cmp width
mnemonic_of (instr.StoreLow size from to) = name.StoreLow size
mnemonic_of (instr.Extend op from to) = name.Extend op
mnemonic_of (instr.LoadLong constant to) = name.Mov L
mnemonic_of (instr.LoadQuad constant to) = name.Mov Q
mnemonic_of (instr.StoreConst width constant to) = name.Mov width
mnemonic_of (instr.StoreByte constant to) = name.StoreLow size.Byte
mnemonic_of (instr.Lea from to) = name.Lea
mnemonic_of (instr.Unary op lock width rm) = name.Unary op width
mnemonic_of (instr.MulDiv op width rm) = name.MulDiv op width
mnemonic_of (instr.RmReg op width from to) = name.RmReg op width
mnemonic_of (instr.ShiftConst op width count rm) = name.Shift op width
mnemonic_of (instr.ShiftCx op width rm) = name.Shift op width
mnemonic_of (instr.Stack op reg) = name.Stack op
mnemonic_of (instr.Exchange width reg mem) = name.Exchange width
mnemonic_of (instr.Atomic op lock width reg mem) = name.Atomic op width
mnemonic_of (instr.SetCc code to) = name.SetCc code
mnemonic_of (instr.MoveCc code width from to) = name.MoveCc width code
mnemonic_of (instr.SwapBytes width reg) = name.SwapBytes width
mnemonic_of (instr.Short None distance) = name.Jump
mnemonic_of (instr.Short (Some code) distance) = name.JumpIf code
mnemonic_of (instr.Near op distance) = near_mnemonic op
mnemonic_of (instr.Indirect indirect.Jmp rm) = name.Jump
mnemonic_of (instr.Indirect indirect.Call rm) = name.Call
mnemonic_of (instr.LoadWide from to) = name.MoveWide
mnemonic_of (instr.StoreWide from to) = name.MoveWide
mnemonic_of (instr.XorWide from to) = name.XorWide
mnemonic_of (instr.LoadTls to) = name.Mov Q
mnemonic_of (instr.Plain op) = name.Plain op

-- the width that a name tells
unfoldable pub width_of : Mnemonic → Option Width
width_of (name.Mov width) = Some width
width_of (name.Arithmetic op width) = Some width
width_of (name.Cmp width) = Some width
width_of (name.Test width) = Some width
width_of (name.Unary op width) = Some width
width_of (name.MulDiv op width) = Some width
width_of (name.RmReg op width) = Some width
width_of (name.Shift op width) = Some width
width_of (name.Exchange width) = Some width
width_of (name.Atomic op width) = Some width
width_of (name.MoveCc width code) = Some width
width_of (name.SwapBytes width) = Some width
width_of _ = None

-- the condition that a name tells
unfoldable pub cc_of : Mnemonic → Option Cc
cc_of (name.SetCc code) = Some code
cc_of (name.MoveCc width code) = Some code
cc_of (name.JumpIf code) = Some code
cc_of _ = None

unfoldable pub arithmetic_stem : Arithmetic → List ℕ
arithmetic_stem arithmetic.Add = codes "ADD"
arithmetic_stem arithmetic.Or = codes "OR"
arithmetic_stem arithmetic.Adc = codes "ADC"
arithmetic_stem arithmetic.Sbb = codes "SBB"
arithmetic_stem arithmetic.And = codes "AND"
arithmetic_stem arithmetic.Sub = codes "SUB"
arithmetic_stem arithmetic.Xor = codes "XOR"

unfoldable pub extend_stem : Extend → List ℕ
extend_stem extend.ByteZero = codes "MOVBLZX"
extend_stem extend.WordZero = codes "MOVWLZX"
extend_stem extend.ByteSign = codes "MOVBQSX"
extend_stem extend.WordSign = codes "MOVWQSX"
extend_stem extend.LongSign = codes "MOVLQSX"

unfoldable pub unary_stem : Unary → List ℕ
unary_stem unary.Inc = codes "INC"
unary_stem unary.Dec = codes "DEC"
unary_stem unary.Not = codes "NOT"
unary_stem unary.Neg = codes "NEG"

unfoldable pub mul_div_stem : MulDiv → List ℕ
mul_div_stem mul_div.Mul = codes "MUL"
mul_div_stem mul_div.Div = codes "DIV"
mul_div_stem mul_div.Idiv = codes "IDIV"

unfoldable pub rm_reg_stem : RmReg → List ℕ
rm_reg_stem rm_reg.Imul = codes "IMUL"
rm_reg_stem rm_reg.Bsf = codes "BSF"
rm_reg_stem rm_reg.Bsr = codes "BSR"
rm_reg_stem rm_reg.Popcnt = codes "POPCNT"

unfoldable pub shift_stem : ShiftOp → List ℕ
shift_stem shifts.Shl = codes "SHL"
shift_stem shifts.Shr = codes "SHR"
shift_stem shifts.Sar = codes "SAR"
shift_stem shifts.Rol = codes "ROL"

unfoldable pub plain_stem : Plain → List ℕ
plain_stem plain.Pause = codes "PAUSE"
plain_stem plain.Mfence = codes "MFENCE"
plain_stem plain.Cdq = codes "CDQ"
plain_stem plain.Cqo = codes "CQO"
plain_stem plain.Ret = codes "RET"
plain_stem plain.Syscall = codes "SYSCALL"
plain_stem plain.Cpuid = codes "CPUID"
plain_stem plain.Rdtsc = codes "RDTSC"
plain_stem plain.Undef = codes "UNDEF"

-- the name but for the letter of a width and a condition
unfoldable pub stem_of : Mnemonic → List ℕ
stem_of (name.Mov width) = codes "MOV"
stem_of (name.StoreLow size.Byte) = codes "MOVB"
stem_of (name.StoreLow size.Word) = codes "MOVW"
stem_of (name.Extend op) = extend_stem op
stem_of name.Lea = codes "LEAQ"
stem_of (name.Arithmetic op width) = arithmetic_stem op
stem_of (name.Cmp width) = codes "CMP"
stem_of (name.Test width) = codes "TEST"
stem_of (name.Unary op width) = unary_stem op
stem_of (name.MulDiv op width) = mul_div_stem op
stem_of (name.RmReg op width) = rm_reg_stem op
stem_of (name.Shift op width) = shift_stem op
stem_of (name.Stack stack.Push) = codes "PUSHQ"
stem_of (name.Stack stack.Pop) = codes "POPQ"
stem_of (name.Exchange width) = codes "XCHG"
stem_of (name.Atomic atomic.CompareExchange width) = codes "CMPXCHG"
stem_of (name.Atomic atomic.ExchangeAdd width) = codes "XADD"
stem_of (name.SetCc code) = codes "SET"
stem_of (name.MoveCc width code) = codes "CMOV"
stem_of (name.SwapBytes width) = codes "BSWAP"
stem_of name.Jump = codes "JMP"
stem_of (name.JumpIf code) = codes "J"
stem_of name.Call = codes "CALL"
stem_of name.MoveWide = codes "MOVOU"
stem_of name.XorWide = codes "PXOR"
stem_of (name.Plain op) = plain_stem op

unfoldable pub width_text : Option Width → List ℕ
width_text None = []
width_text (Some Q) = codes "Q"
width_text (Some L) = codes "L"

unfoldable pub condition_text : Option Cc → List ℕ
condition_text None = []
condition_text (Some code) = cc_text code

unfoldable pub mnemonic_text : Mnemonic → List ℕ
mnemonic_text name = stem_of name ++ width_text (width_of name) ++ condition_text (cc_of name)
