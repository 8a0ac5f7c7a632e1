-- Which instructions are listed: what the type of an instruction leaves open. The ranges of the fields stand here too, since a
-- definition speaks of every number.
use Rattle.std.specs.Prelude.{ℤ, pos, negsuc, Bool, true, false, ◌^◌, ◌&&◌, ◌||◌, not, nat_lt, nat_le}
use Rattle.machine_effect.specs.Numbers.{fits as fits_bits}
use Rattle.amd64_table.specs.declared.reg.Reg.{Reg}
use Rattle.amd64_table.specs.declared.reg.Reg.TheVariants.{Sp}
use Rattle.amd64_table.specs.declared.memory.Mem.{Mem}
use Rattle.amd64_table.specs.declared.memory.Mem.TheVariants as memory
use Rattle.amd64_table.specs.declared.memory.Rm.{Rm}
use Rattle.amd64_table.specs.declared.memory.Rm.TheVariants as operand
use Rattle.amd64_table.specs.declared.instr.Instr.{Instr}
use Rattle.amd64_table.specs.declared.instr.Instr.TheVariants as instr
use Rattle.amd64_table.specs.Operands.{bits_of, is_memory}

-- SP can't be an index
abbrev pub is_index : Reg → Bool
is_index Sp = false
is_index _ = true

unfoldable pub fits_mem : Mem → Bool
fits_mem (memory.Base base disp) = fits_bits 32 disp
fits_mem (memory.Indexed base index scale disp) = is_index index && fits_bits 32 disp
fits_mem (memory.Symbol distance) = fits_bits 32 distance

unfoldable pub fits_rm : Rm → Bool
fits_rm (operand.Reg reg) = true
fits_rm (operand.Mem place) = fits_mem place

-- LOCK stands only before what writes memory
unfoldable pub fits_lock : Bool → Rm → Bool
fits_lock lock rm = not lock || is_memory rm

-- MOVQ of a constant is listed where MOVL has none of the same meaning
unfoldable pub is_quad_constant : ℤ → Bool
is_quad_constant (pos n) = nat_le (2 ^ 32) n
is_quad_constant (negsuc n) = true

-- whether an instruction is listed
unfoldable pub fits : Instr → Bool
fits (instr.RegRm op width reg rm) = fits_rm rm
fits (instr.ArithmeticReg op lock width from to) = fits_lock lock to && fits_rm to
fits (instr.MemReg op width mem reg) = fits_mem mem
fits (instr.ArithmeticConst op lock width constant to) = fits_lock lock to && fits_rm to && fits_bits 32 constant
fits (instr.CompareConst width rm constant) = fits_rm rm && fits_bits 32 constant
fits (instr.StoreLow size from to) = fits_mem to
fits (instr.Extend op from to) = fits_rm from
fits (instr.LoadLong constant to) = nat_lt constant (2 ^ 32)
fits (instr.LoadQuad constant to) = is_quad_constant constant && fits_bits 64 constant
fits (instr.StoreConst width constant to) = fits_mem to && fits_bits 32 constant
fits (instr.StoreByte constant to) = fits_mem to && fits_bits 8 constant
fits (instr.Lea from to) = fits_mem from
fits (instr.Unary op lock width rm) = fits_lock lock rm && fits_rm rm
fits (instr.MulDiv op width rm) = fits_rm rm
fits (instr.RmReg op width from to) = fits_rm from
fits (instr.ShiftConst op width count rm) = nat_lt count (bits_of width) && fits_rm rm
fits (instr.ShiftCx op width rm) = fits_rm rm
fits (instr.Stack op reg) = true
fits (instr.Exchange width reg mem) = fits_mem mem
fits (instr.Atomic op lock width reg mem) = fits_mem mem
fits (instr.SetCc code to) = fits_rm to
fits (instr.MoveCc code width from to) = fits_rm from
fits (instr.SwapBytes width reg) = true
fits (instr.Short code distance) = fits_bits 8 distance
fits (instr.Near op distance) = fits_bits 32 distance
fits (instr.Indirect op rm) = fits_rm rm
fits (instr.LoadWide from to) = fits_mem from
fits (instr.StoreWide from to) = fits_mem to
fits (instr.XorWide from to) = true
fits (instr.LoadTls to) = true
fits (instr.Plain op) = true
