use Rattle.std.proofs.Common.{refl}
use lib.Count.{ones_in, count_leading_zeros, count_trailing_zeros}
use Rattle.machine_effect.specs.Memory.{number_of, bytes_of}
use Rattle.machine_effect.specs.Operations.{operate}
use Rattle.machine_effect.specs.Values.{holds_by}
use Rattle.machine_effect.specs.FlagsAfter.{flags_by}
use Rattle.amd64_table.specs.Registers as registers
use Rattle.amd64_table.specs.Conditions.{cond_of}
use Rattle.amd64_table.specs.Operands.{bits_of, bytes_of as width_bytes, factor_of, access_of, rm_atom, load_of, writes_of, store_of}
use Rattle.amd64_table.specs.Forms.{changing, setting, testing, reading, loading, storing, swapping}
use Rattle.amd64_table.specs.Moves.{reg_rm_effect, mem_reg_effect, store_low_effect, extend_bytes, extended, extend_effect, store_const_effect, place_of, move_cc_effect, load_wide_effect, store_wide_effect, load_tls_effect}
use Rattle.amd64_table.specs.Computation.{result_of, flags_of, arithmetic_effect, compare_const_effect, unary_value, unary_flags, unary_effect, ax_value, dx_value, mul_div_flags, mul_div_effect, rm_reg_value, rm_reg_flags, rm_reg_effect, shift_of, shift_flags, shift_effect, exchange_effect, atomic_effect, set_cc_effect, swap_bytes_effect, xor_wide_effect}
use Rattle.amd64_table.specs.Control.{stack_effect, short_effect, near_effect, indirect_effect, plain_effect}
use Rattle.amd64_table.specs.Effects.{effect_at}
use Rattle.amd64_table.proofs.laws.allows_runs.Goals as goal

pub returns : goal.returns
unfolding operate number_of bytes_of ones_in count_leading_zeros count_trailing_zeros holds_by flags_by registers.number_of registers.xmm_number cond_of bits_of width_bytes factor_of access_of rm_atom load_of writes_of store_of changing setting testing reading loading storing swapping result_of flags_of reg_rm_effect arithmetic_effect mem_reg_effect compare_const_effect store_low_effect extend_bytes extended extend_effect store_const_effect place_of unary_value unary_flags unary_effect ax_value dx_value mul_div_flags mul_div_effect rm_reg_value rm_reg_flags rm_reg_effect shift_of shift_flags shift_effect stack_effect exchange_effect atomic_effect set_cc_effect move_cc_effect swap_bytes_effect short_effect near_effect indirect_effect load_wide_effect store_wide_effect xor_wide_effect load_tls_effect plain_effect effect_at
returns c = refl
