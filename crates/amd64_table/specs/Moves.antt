-- What the instructions that move do (Intel 64 manual, volume 2): copies, constants, addresses.
use Rattle.std.specs.Prelude.{ℕ, ℤ, negsuc, [], ◌∷◌, Some, None}
use Rattle.machine_effect.specs.declared.effect.Atom.{Atom}
use Rattle.machine_effect.specs.declared.effect.Atom.TheVariants as atom
use Rattle.machine_effect.specs.declared.effect.Access.{Access}
use Rattle.machine_effect.specs.declared.effect.Value.{Value}
use Rattle.machine_effect.specs.declared.effect.WideValue.TheVariants as wide_value
use Rattle.machine_effect.specs.declared.effect.Effect.{Effect}
use Rattle.machine_effect.specs.declared.op.Op.TheVariants as op
use Rattle.machine_effect.specs.declared.op.Logic.TheVariants as logic
use Rattle.machine_effect.specs.declared.flag_rule.FlagRule.TheVariants as flags
use Rattle.machine_effect.specs.Numbers.{moved_by}
use Rattle.amd64_table.specs.declared.condition.Cc.{Cc}
use Rattle.amd64_table.specs.declared.reg.Reg.{Reg}
use Rattle.amd64_table.specs.declared.xmm.Xmm.{Xmm}
use Rattle.amd64_table.specs.declared.width.Width.{Width}
use Rattle.amd64_table.specs.declared.memory.Mem.{Mem}
use Rattle.amd64_table.specs.declared.memory.Mem.TheVariants as memory
use Rattle.amd64_table.specs.declared.memory.Rm.{Rm}
use Rattle.amd64_table.specs.declared.memory.Rm.TheVariants as operand
use Rattle.amd64_table.specs.declared.op.RegRm.{RegRm}
use Rattle.amd64_table.specs.declared.op.RegRm.TheVariants as reg_rm
use Rattle.amd64_table.specs.declared.op.MemReg.{MemReg}
use Rattle.amd64_table.specs.declared.op.MemReg.TheVariants as mem_reg
use Rattle.amd64_table.specs.declared.op.StoreSize.{StoreSize}
use Rattle.amd64_table.specs.declared.op.StoreSize.TheVariants as size
use Rattle.amd64_table.specs.declared.op.Extend.{Extend}
use Rattle.amd64_table.specs.declared.op.Extend.TheVariants as extend
use Rattle.amd64_table.specs.Registers.{number_of, xmm_number}
use Rattle.amd64_table.specs.Conditions.{cond_of}
use Rattle.amd64_table.specs.Operands.{bits_of, bytes_of, factor_of, reg_atom, signed_atom, nothing, access_of, rm_atom}
use Rattle.amd64_table.specs.Forms.{value_of, copy_of, sum_of, computing, widening, setting, testing, reading, storing}
use Rattle.amd64_table.specs.Computation.{result_of, flags_of}

unfoldable pub reg_rm_effect : RegRm → Width → Reg → Rm → ℕ → Effect
reg_rm_effect reg_rm.Mov width reg rm end = setting (bytes_of width) end rm (copy_of (reg_atom reg) (bits_of width))
reg_rm_effect reg_rm.Cmp width reg rm end =
    testing width end rm (flags.Subtract (rm_atom rm) (reg_atom reg) (bits_of width))
reg_rm_effect reg_rm.Test width reg rm end =
    testing width end rm (flags.Logic logic.And (rm_atom rm) (reg_atom reg) (bits_of width))

unfoldable pub mem_reg_effect : MemReg → Width → Mem → Reg → ℕ → Effect
mem_reg_effect mem_reg.Mov width mem reg end =
    reading (bytes_of width) end (operand.Mem mem) reg (copy_of atom.Loaded (bits_of width)) flags.Keep
mem_reg_effect mem_reg.Cmp width mem reg end =
    testing width end (operand.Mem mem) (flags.Subtract (reg_atom reg) atom.Loaded (bits_of width))
mem_reg_effect (mem_reg.Arithmetic op) width mem reg end =
    reading (bytes_of width) end (operand.Mem mem) reg (result_of op (reg_atom reg) atom.Loaded (bits_of width))
    (flags_of op (reg_atom reg) atom.Loaded (bits_of width))

unfoldable pub store_low_effect : StoreSize → Reg → Mem → ℕ → Effect
store_low_effect size.Byte from to end = storing 1 end to (copy_of (reg_atom from) 8)
store_low_effect size.Word from to end = storing 2 end to (copy_of (reg_atom from) 16)

unfoldable pub extend_bytes : Extend → ℕ
extend_bytes extend.ByteZero = 1
extend_bytes extend.WordZero = 2
extend_bytes extend.ByteSign = 1
extend_bytes extend.WordSign = 2
extend_bytes extend.LongSign = 4

unfoldable pub extended : Extend → Atom → Value
extended extend.ByteZero a = copy_of a 8
extended extend.WordZero a = copy_of a 16
extended extend.ByteSign a = value_of op.SignExtend a (atom.Const 8) 64
extended extend.WordSign a = value_of op.SignExtend a (atom.Const 16) 64
extended extend.LongSign a = value_of op.SignExtend a (atom.Const 32) 64

unfoldable pub extend_effect : Extend → Rm → Reg → ℕ → Effect
extend_effect op from to end = reading (extend_bytes op) end from to (extended op (rm_atom from)) flags.Keep

unfoldable pub store_const_effect : Width → ℤ → Mem → ℕ → Effect
store_const_effect width constant to end = storing (bytes_of width) end to (copy_of (signed_atom constant) (bits_of width))

-- the address of a place in memory
unfoldable pub place_of : Mem → ℕ → Value
place_of (memory.Base base disp) end = value_of op.Add (reg_atom base) (signed_atom disp) 64
place_of (memory.Indexed base index scale disp) end =
    sum_of (op.AddScaled (factor_of scale)) (reg_atom base) (reg_atom index) (signed_atom disp)
place_of (memory.Symbol distance) end = copy_of (atom.Const (moved_by end distance)) 64

unfoldable pub move_cc_effect : Cc → Width → Rm → Reg → ℕ → Effect
move_cc_effect code width from to end =
    reading (bytes_of width) end from to (value_of (op.Choose (cond_of code)) (rm_atom from) (reg_atom to) (bits_of width)) flags.Keep

unfoldable pub load_wide_effect : Mem → Xmm → ℕ → Effect
load_wide_effect from to end = widening (Some (access_of 16 end from)) (xmm_number to, wide_value.Loaded)

unfoldable pub store_wide_effect : Xmm → Mem → ℕ → Effect
store_wide_effect from to end = storing 16 end to (copy_of (atom.Wide (xmm_number from)) 128)

-- the word below the base of thread-local storage, which is register 16 of the state
abbrev pub tls_word : Access
tls_word = record { width = 8; base = atom.Reg 16; index = nothing; scale = 1; disp = negsuc 7 }

unfoldable pub load_tls_effect : Reg → Effect
load_tls_effect to = computing ((number_of to, copy_of atom.Loaded 64) ∷ []) (Some tls_word) None flags.Keep
