-- The forms of branches, and the addresses that instructions hold as a distance from their ends: the goals of branches and the places
-- of symbols.
use Rattle.std.specs.Prelude.{ℕ, zero, suc, ℤ, pos, Bool, true, false, List, [], ◌∷◌, Option, Some, None, ◌&&◌, is_some, if◌then◌else◌}
use Rattle.machine_effect.specs.Numbers.{fits as fits_bits}
use Rattle.amd64_table.specs.declared.memory.Mem.{Mem}
use Rattle.amd64_table.specs.declared.memory.Mem.TheVariants as memory
use Rattle.amd64_table.specs.declared.memory.Rm.{Rm}
use Rattle.amd64_table.specs.declared.memory.Rm.TheVariants as rms
use Rattle.amd64_table.specs.declared.op.Near.TheVariants as near
use Rattle.amd64_table.specs.declared.instr.Instr.{Instr}
use Rattle.amd64_table.specs.declared.instr.Instr.TheVariants as instr

abbrev pub rm_place : Rm → Option Mem
rm_place (rms.Reg reg) = None
rm_place (rms.Mem mem) = Some mem

-- the operand in memory
unfoldable pub place_in : Instr → Option Mem
place_in (instr.RegRm op width reg rm) = rm_place rm
place_in (instr.ArithmeticReg op lock width from to) = rm_place to
place_in (instr.MemReg op width mem reg) = Some mem
place_in (instr.ArithmeticConst op lock width constant to) = rm_place to
place_in (instr.CompareConst width rm constant) = rm_place rm
place_in (instr.StoreLow size from to) = Some to
place_in (instr.Extend op from to) = rm_place from
place_in (instr.StoreConst width constant to) = Some to
place_in (instr.StoreByte constant to) = Some to
place_in (instr.Lea from to) = Some from
place_in (instr.Unary op lock width rm) = rm_place rm
place_in (instr.MulDiv op width rm) = rm_place rm
place_in (instr.RmReg op width from to) = rm_place from
place_in (instr.ShiftConst op width count rm) = rm_place rm
place_in (instr.ShiftCx op width rm) = rm_place rm
place_in (instr.Exchange width reg mem) = Some mem
place_in (instr.Atomic op lock width reg mem) = Some mem
place_in (instr.SetCc code to) = rm_place to
place_in (instr.MoveCc code width from to) = rm_place from
place_in (instr.Indirect op rm) = rm_place rm
place_in (instr.LoadWide from to) = Some from
place_in (instr.StoreWide from to) = Some to
place_in _ = None

-- the distance of a symbol's place
abbrev pub symbol_distance : Option Mem → Option ℤ
symbol_distance (Some (memory.Symbol distance)) = Some distance
symbol_distance _ = None

-- how far the address that an instruction holds lies above its end
unfoldable pub distance_of : Instr → Option ℤ
distance_of (instr.Short code distance) = Some distance
distance_of (instr.Near op distance) = Some distance
distance_of i = symbol_distance (place_in i)

-- how many bits the distance has
unfoldable pub distance_bits : Instr → ℕ
distance_bits (instr.Short code distance) = 8
distance_bits _ = 32

unfoldable pub is_branch : Instr → Bool
is_branch (instr.Short code distance) = true
is_branch (instr.Near op distance) = true
is_branch _ = false

abbrev pub mem_by : ℤ → Mem → Mem
mem_by distance (memory.Symbol old) = memory.Symbol distance
mem_by distance mem = mem

abbrev pub rm_by : ℤ → Rm → Rm
rm_by distance (rms.Reg reg) = rms.Reg reg
rm_by distance (rms.Mem mem) = rms.Mem (mem_by distance mem)

-- the instruction with another distance, where it has one
unfoldable pub aimed_by : ℤ → Instr → Instr
aimed_by distance (instr.Short code old) = instr.Short code distance
aimed_by distance (instr.Near op old) = instr.Near op distance
aimed_by distance (instr.RegRm op width reg rm) = instr.RegRm op width reg (rm_by distance rm)
aimed_by distance (instr.ArithmeticReg op lock width from to) = instr.ArithmeticReg op lock width from (rm_by distance to)
aimed_by distance (instr.MemReg op width mem reg) = instr.MemReg op width (mem_by distance mem) reg
aimed_by distance (instr.ArithmeticConst op lock width constant to) = instr.ArithmeticConst op lock width constant (rm_by distance to)
aimed_by distance (instr.CompareConst width rm constant) = instr.CompareConst width (rm_by distance rm) constant
aimed_by distance (instr.StoreLow size from to) = instr.StoreLow size from (mem_by distance to)
aimed_by distance (instr.Extend op from to) = instr.Extend op (rm_by distance from) to
aimed_by distance (instr.StoreConst width constant to) = instr.StoreConst width constant (mem_by distance to)
aimed_by distance (instr.StoreByte constant to) = instr.StoreByte constant (mem_by distance to)
aimed_by distance (instr.Lea from to) = instr.Lea (mem_by distance from) to
aimed_by distance (instr.Unary op lock width rm) = instr.Unary op lock width (rm_by distance rm)
aimed_by distance (instr.MulDiv op width rm) = instr.MulDiv op width (rm_by distance rm)
aimed_by distance (instr.RmReg op width from to) = instr.RmReg op width (rm_by distance from) to
aimed_by distance (instr.ShiftConst op width count rm) = instr.ShiftConst op width count (rm_by distance rm)
aimed_by distance (instr.ShiftCx op width rm) = instr.ShiftCx op width (rm_by distance rm)
aimed_by distance (instr.Exchange width reg mem) = instr.Exchange width reg (mem_by distance mem)
aimed_by distance (instr.Atomic op lock width reg mem) = instr.Atomic op lock width reg (mem_by distance mem)
aimed_by distance (instr.SetCc code to) = instr.SetCc code (rm_by distance to)
aimed_by distance (instr.MoveCc code width from to) = instr.MoveCc code width (rm_by distance from) to
aimed_by distance (instr.Indirect op rm) = instr.Indirect op (rm_by distance rm)
aimed_by distance (instr.LoadWide from to) = instr.LoadWide (mem_by distance from) to
aimed_by distance (instr.StoreWide from to) = instr.StoreWide from (mem_by distance to)
aimed_by distance i = i

-- a jump with one byte for its distance, which isn't known yet
abbrev pub short_of : Instr → Instr
short_of (instr.Near near.Jmp distance) = instr.Short None (pos 0)
short_of (instr.Near (near.If code) distance) = instr.Short (Some code) (pos 0)
short_of i = i

-- a jump with four
abbrev pub long_of : Instr → Instr
long_of (instr.Short None distance) = instr.Near near.Jmp distance
long_of (instr.Short (Some code) distance) = instr.Near (near.If code) distance
long_of i = i

-- the short form of an instruction, 0, and its long form
unfoldable pub forms_of : Instr → ℕ → List Instr
forms_of i zero = short_of i ∷ []
forms_of i (suc n) = long_of i ∷ []

-- the instruction with this distance, where it has one and these are few enough bits
abbrev pub aimed : Instr → ℤ → Option Instr
aimed i distance =
    if is_some (distance_of i) && fits_bits (distance_bits i) distance then Some (aimed_by distance i) else None
