use Rattle.std.proofs.Common.{rules}
use Rattle.amd64_table.specs.Forms.{changing, setting, testing, reading, loading, storing, swapping}
use Rattle.amd64_table.specs.Moves.{reg_rm_effect, mem_reg_effect, store_low_effect, extend_effect, store_const_effect, move_cc_effect, load_wide_effect, store_wide_effect, load_tls_effect}
use Rattle.amd64_table.specs.Computation.{flags_of, arithmetic_effect, compare_const_effect, unary_flags, unary_effect, mul_div_flags, mul_div_effect, rm_reg_flags, rm_reg_effect, shift_flags, shift_effect, exchange_effect, atomic_effect, set_cc_effect, swap_bytes_effect, xor_wide_effect}
use Rattle.amd64_table.specs.Control.{stack_effect, short_effect, near_effect, indirect_effect, plain_effect}
use Rattle.amd64_table.specs.Effects.{effect_at}
use Rattle.amd64_table.specs.FlagTable.{manual_flags}
use Rattle.amd64_table.specs.Mnemonics.{mnemonic_of}
use Rattle.amd64_table.proofs.laws.flags.Goals as goal

pub returns : goal.returns
unfolding changing setting testing reading loading storing swapping reg_rm_effect mem_reg_effect store_low_effect extend_effect store_const_effect move_cc_effect load_wide_effect store_wide_effect load_tls_effect flags_of arithmetic_effect compare_const_effect unary_flags unary_effect mul_div_flags mul_div_effect rm_reg_flags rm_reg_effect shift_flags shift_effect exchange_effect atomic_effect set_cc_effect swap_bytes_effect xor_wide_effect stack_effect short_effect near_effect indirect_effect plain_effect effect_at manual_flags mnemonic_of
returns c = search rules
