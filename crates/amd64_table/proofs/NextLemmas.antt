use Rattle.std.proofs.Common.{◌≡◌, ℕ, rules}
use Rattle.machine_effect.specs.Bounds.{OnlyGoes, LinksBy}
use Rattle.machine_effect.specs.Shapes.{amd64_shape}
use Rattle.amd64_table.specs.declared.instr.Instr.{Instr}
use Rattle.amd64_table.specs.Forms.{changing, setting, testing, reading, loading, storing, swapping}
use Rattle.amd64_table.specs.Moves.{reg_rm_effect, mem_reg_effect, store_low_effect, extend_effect, store_const_effect, move_cc_effect, load_wide_effect, store_wide_effect, load_tls_effect}
use Rattle.amd64_table.specs.Computation.{arithmetic_effect, compare_const_effect, unary_effect, mul_div_effect, rm_reg_effect, shift_effect, exchange_effect, atomic_effect, set_cc_effect, swap_bytes_effect, xor_wide_effect}
use Rattle.amd64_table.specs.Control.{stack_effect, short_effect, near_effect, indirect_effect, plain_effect}
use Rattle.amd64_table.specs.Effects.{effect_at}
use Rattle.amd64_table.specs.Flows.{next_of}

-- where the machine goes on, and that what doesn't fall through does nothing else
flow : (i : Instr) (end : ℕ)
    → ((effect_at i end).next ≡ next_of i end) × OnlyGoes (effect_at i end) × LinksBy amd64_shape (effect_at i end).next
unfolding changing setting testing reading loading storing swapping reg_rm_effect mem_reg_effect store_low_effect extend_effect store_const_effect move_cc_effect load_wide_effect store_wide_effect load_tls_effect arithmetic_effect compare_const_effect unary_effect mul_div_effect rm_reg_effect shift_effect exchange_effect atomic_effect set_cc_effect swap_bytes_effect xor_wide_effect stack_effect short_effect near_effect indirect_effect plain_effect effect_at next_of
flow i end = search rules

pub nexts : (i : Instr) (end : ℕ) → (effect_at i end).next ≡ next_of i end
nexts i end = (flow i end).0

pub only_goes : (i : Instr) (end : ℕ) → OnlyGoes (effect_at i end)
only_goes i end = (flow i end).1

pub links : (i : Instr) (end : ℕ) → LinksBy amd64_shape (effect_at i end).next
links i end = (flow i end).2
