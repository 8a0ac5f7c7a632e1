-- What each instruction does: the one definition of the meaning of amd64 instructions. The return address that CALL pushes and RET
-- pops isn't in it; a machine's step adds that.
use Rattle.std.specs.Prelude.{ℕ}
use Rattle.machine_effect.specs.declared.effect.Effect.{Effect}
use Rattle.machine_effect.specs.declared.effect.Atom.TheVariants as atom
use Rattle.amd64_table.specs.declared.reg.Reg.TheVariants.{Cx}
use Rattle.amd64_table.specs.declared.instr.Instr.{Instr}
use Rattle.amd64_table.specs.declared.instr.Instr.TheVariants as instr
use Rattle.amd64_table.specs.Operands.{reg_atom, signed_atom}
use Rattle.amd64_table.specs.Forms.{copy_of, loading, storing}
use Rattle.amd64_table.specs.Moves.{reg_rm_effect, mem_reg_effect, store_low_effect, extend_effect, store_const_effect, place_of, move_cc_effect, load_wide_effect, store_wide_effect, load_tls_effect}
use Rattle.amd64_table.specs.Computation.{arithmetic_effect, compare_const_effect, unary_effect, mul_div_effect, rm_reg_effect, shift_effect, exchange_effect, atomic_effect, set_cc_effect, swap_bytes_effect, xor_wide_effect}
use Rattle.amd64_table.specs.Control.{stack_effect, short_effect, near_effect, indirect_effect, plain_effect}

-- what an instruction does that ends at `end`, the address just behind it
unfoldable pub effect_at : Instr → ℕ → Effect
effect_at (instr.RegRm op width reg rm) end = reg_rm_effect op width reg rm end
effect_at (instr.ArithmeticReg op lock width from to) end = arithmetic_effect op width (reg_atom from) to end
effect_at (instr.MemReg op width mem reg) end = mem_reg_effect op width mem reg end
effect_at (instr.ArithmeticConst op lock width constant to) end = arithmetic_effect op width (signed_atom constant) to end
effect_at (instr.CompareConst width rm constant) end = compare_const_effect width rm constant end
effect_at (instr.StoreLow size from to) end = store_low_effect size from to end
effect_at (instr.Extend op from to) end = extend_effect op from to end
effect_at (instr.LoadLong constant to) end = loading to (copy_of (atom.Const constant) 32)
effect_at (instr.LoadQuad constant to) end = loading to (copy_of (signed_atom constant) 64)
effect_at (instr.StoreConst width constant to) end = store_const_effect width constant to end
effect_at (instr.StoreByte constant to) end = storing 1 end to (copy_of (signed_atom constant) 8)
effect_at (instr.Lea from to) end = loading to (place_of from end)
effect_at (instr.Unary op lock width rm) end = unary_effect op width rm end
effect_at (instr.MulDiv op width rm) end = mul_div_effect op width rm end
effect_at (instr.RmReg op width from to) end = rm_reg_effect op width from to end
effect_at (instr.ShiftConst op width count rm) end = shift_effect op width (atom.Const count) rm end
effect_at (instr.ShiftCx op width rm) end = shift_effect op width (reg_atom Cx) rm end
effect_at (instr.Stack op reg) end = stack_effect op reg
effect_at (instr.Exchange width reg mem) end = exchange_effect width reg mem end
effect_at (instr.Atomic op lock width reg mem) end = atomic_effect op width reg mem end
effect_at (instr.SetCc code to) end = set_cc_effect code to end
effect_at (instr.MoveCc code width from to) end = move_cc_effect code width from to end
effect_at (instr.SwapBytes width reg) end = swap_bytes_effect width reg
effect_at (instr.Short code distance) end = short_effect code distance end
effect_at (instr.Near op distance) end = near_effect op distance end
effect_at (instr.Indirect op rm) end = indirect_effect op rm end
effect_at (instr.LoadWide from to) end = load_wide_effect from to end
effect_at (instr.StoreWide from to) end = store_wide_effect from to end
effect_at (instr.XorWide from to) end = xor_wide_effect from to
effect_at (instr.LoadTls to) end = load_tls_effect to
effect_at (instr.Plain op) end = plain_effect op
