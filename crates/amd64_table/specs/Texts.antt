-- The text of an instruction, as Go's assembler writes it: the name, a space, and the operands with a comma and a space between.
use Rattle.std.specs.Prelude.{ℕ, ℤ, pos, Bool, false, List, [], ◌++◌, codes, Option, Some, None, if◌then◌else◌}
use Rattle.goasm_base.specs.Numbers.{hex_text, decimal_text}
use Rattle.machine_effect.specs.Numbers.{moved_by}
use Rattle.amd64_table.specs.declared.reg.Reg.{Reg}
use Rattle.amd64_table.specs.declared.reg.Reg.TheVariants.{Cx}
use Rattle.amd64_table.specs.declared.memory.Scale.{Scale}
use Rattle.amd64_table.specs.declared.memory.Scale.TheVariants.{One, Two, Four, Eight}
use Rattle.amd64_table.specs.declared.memory.Mem.{Mem}
use Rattle.amd64_table.specs.declared.memory.Mem.TheVariants as memory
use Rattle.amd64_table.specs.declared.memory.Rm.{Rm}
use Rattle.amd64_table.specs.declared.memory.Rm.TheVariants as rms
use Rattle.amd64_table.specs.declared.op.RegRm.{RegRm}
use Rattle.amd64_table.specs.declared.op.RegRm.TheVariants as reg_rm
use Rattle.amd64_table.specs.declared.op.MemReg.{MemReg}
use Rattle.amd64_table.specs.declared.op.MemReg.TheVariants as mem_reg
use Rattle.amd64_table.specs.declared.operand.Operand.{Operand}
use Rattle.amd64_table.specs.declared.operand.Operand.TheVariants as operand
use Rattle.amd64_table.specs.declared.instr.Instr.{Instr}
use Rattle.amd64_table.specs.declared.instr.Instr.TheVariants as instr
use Rattle.amd64_table.specs.Registers.{reg_text, xmm_text}
use Rattle.amd64_table.specs.Operands.{is_none}
use Rattle.amd64_table.specs.Mnemonics.{mnemonic_of, mnemonic_text}

-- LOCK stands before the instruction
unfoldable pub is_locked : Instr → Bool
is_locked (instr.ArithmeticReg op lock width from to) = lock
is_locked (instr.ArithmeticConst op lock width constant to) = lock
is_locked (instr.Unary op lock width rm) = lock
is_locked (instr.Atomic op lock width reg mem) = lock
is_locked _ = false

abbrev pub rm_operand : Rm → Operand
rm_operand (rms.Reg reg) = operand.Reg reg
rm_operand (rms.Mem mem) = operand.Mem mem

abbrev pub one : Operand → Option Operand × Option Operand
one shown = (Some shown, None)

abbrev pub two : Operand → Operand → Option Operand × Option Operand
two first second = (Some first, Some second)

unfoldable pub reg_rm_operands : RegRm → Reg → Rm → Option Operand × Option Operand
reg_rm_operands reg_rm.Mov reg rm = two (operand.Reg reg) (rm_operand rm)
reg_rm_operands reg_rm.Cmp reg rm = two (rm_operand rm) (operand.Reg reg)
reg_rm_operands reg_rm.Test reg rm = two (operand.Reg reg) (rm_operand rm)

unfoldable pub mem_reg_operands : MemReg → Mem → Reg → Option Operand × Option Operand
mem_reg_operands mem_reg.Mov mem reg = two (operand.Mem mem) (operand.Reg reg)
mem_reg_operands mem_reg.Cmp mem reg = two (operand.Reg reg) (operand.Mem mem)
mem_reg_operands (mem_reg.Arithmetic op) mem reg = two (operand.Mem mem) (operand.Reg reg)

-- the operands in the order in which they are written
unfoldable pub operands_of : Instr → Option Operand × Option Operand
operands_of (instr.RegRm op width reg rm) = reg_rm_operands op reg rm
operands_of (instr.ArithmeticReg op lock width from to) = two (operand.Reg from) (rm_operand to)
operands_of (instr.MemReg op width mem reg) = mem_reg_operands op mem reg
operands_of (instr.ArithmeticConst op lock width constant to) = two (operand.Const constant) (rm_operand to)
operands_of (instr.CompareConst width rm constant) = two (rm_operand rm) (operand.Const constant)
operands_of (instr.StoreLow size from to) = two (operand.Reg from) (operand.Mem to)
operands_of (instr.Extend op from to) = two (rm_operand from) (operand.Reg to)
operands_of (instr.LoadLong constant to) = two (operand.Const (pos constant)) (operand.Reg to)
operands_of (instr.LoadQuad constant to) = two (operand.Const constant) (operand.Reg to)
operands_of (instr.StoreConst width constant to) = two (operand.Const constant) (operand.Mem to)
operands_of (instr.StoreByte constant to) = two (operand.Const constant) (operand.Mem to)
operands_of (instr.Lea from to) = two (operand.Mem from) (operand.Reg to)
operands_of (instr.Unary op lock width rm) = one (rm_operand rm)
operands_of (instr.MulDiv op width rm) = one (rm_operand rm)
operands_of (instr.RmReg op width from to) = two (rm_operand from) (operand.Reg to)
operands_of (instr.ShiftConst op width count rm) = two (operand.Const (pos count)) (rm_operand rm)
operands_of (instr.ShiftCx op width rm) = two (operand.Reg Cx) (rm_operand rm)
operands_of (instr.Stack op reg) = one (operand.Reg reg)
operands_of (instr.Exchange width reg mem) = two (operand.Reg reg) (operand.Mem mem)
operands_of (instr.Atomic op lock width reg mem) = two (operand.Reg reg) (operand.Mem mem)
operands_of (instr.SetCc code to) = one (rm_operand to)
operands_of (instr.MoveCc code width from to) = two (rm_operand from) (operand.Reg to)
operands_of (instr.SwapBytes width reg) = one (operand.Reg reg)
operands_of (instr.Short code distance) = one (operand.Goal distance)
operands_of (instr.Near op distance) = one (operand.Goal distance)
operands_of (instr.Indirect op rm) = one (rm_operand rm)
operands_of (instr.LoadWide from to) = two (operand.Mem from) (operand.Wide to)
operands_of (instr.StoreWide from to) = two (operand.Wide from) (operand.Mem to)
operands_of (instr.XorWide from to) = two (operand.Wide from) (operand.Wide to)
operands_of (instr.LoadTls to) = two operand.Tls (operand.Reg to)
operands_of (instr.Plain op) = (None, None)

unfoldable pub scale_text : Scale → List ℕ
scale_text One = codes "*1)"
scale_text Two = codes "*2)"
scale_text Four = codes "*4)"
scale_text Eight = codes "*8)"

-- a displacement of 0 is left out
unfoldable pub disp_text : ℤ → List ℕ
disp_text disp = if is_none disp then [] else decimal_text disp

unfoldable pub mem_text : ℕ → Mem → List ℕ
mem_text end (memory.Base base disp) = disp_text disp ++ codes "(" ++ reg_text base ++ codes ")"
mem_text end (memory.Indexed base index scale disp) =
    disp_text disp ++ codes "(" ++ reg_text base ++ codes ")(" ++ reg_text index ++ scale_text scale
mem_text end (memory.Symbol distance) = hex_text (moved_by end distance) ++ codes "(SB)"

-- an operand of an instruction that ends at `end`; a goal is an address
unfoldable pub operand_text : ℕ → Operand → List ℕ
operand_text end (operand.Reg reg) = reg_text reg
operand_text end (operand.Wide xmm) = xmm_text xmm
operand_text end (operand.Mem mem) = mem_text end mem
operand_text end (operand.Const constant) = codes "$" ++ decimal_text constant
operand_text end (operand.Goal distance) = hex_text (moved_by end distance)
operand_text end operand.Tls = codes "(TLS)"

unfoldable pub lock_text : Bool → List ℕ
lock_text lock = if lock then codes "LOCK; " else []

-- an operand behind what stands before it, where there is one
unfoldable pub behind : List ℕ → ℕ → Option Operand → List ℕ
behind before end None = []
behind before end (Some shown) = before ++ operand_text end shown

-- the text of an instruction that ends at `end`
unfoldable pub text_of : Instr → ℕ → List ℕ
text_of instr end =
    lock_text (is_locked instr) ++ mnemonic_text (mnemonic_of instr)
    ++ behind (codes " ") end (operands_of instr).0
    ++ behind (codes ", ") end (operands_of instr).1
