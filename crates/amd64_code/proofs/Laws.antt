-- Every listed instruction is read back from its spelling, whatever follows. So bytes begin with the spelling of at most one.
use Rattle.std.specs.Prelude.{◌&&◌, drop, nat_lt}
use Rattle.std.proofs.Common.{◌≡◌, ℕ, true, List, ◌++◌, ◌^◌, length, ap, ◌∙◌}
use Rattle.std.proofs.lemmas.Bool.{ltb-true, and_parts}
use Rattle.machine_effect.specs.Numbers.{fits as fits_bits}
use Rattle.amd64_table.specs.declared.instr.Instr.{Instr}
use Rattle.amd64_table.specs.declared.instr.Instr.TheVariants as instr
use Rattle.amd64_table.specs.Operands.{bits_of}
use Rattle.amd64_table.specs.Fits.{fits, fits_lock, fits_mem, fits_rm, is_quad_constant}
use Rattle.amd64_code.specs.Spelling.{spelling_of}
use Rattle.amd64_code.specs.Reading.{reading}
use Rattle.amd64_code.proofs.MoveLaws.{reg_rm_back, mem_reg_back, store_low_back, extend_back, load_long_back, load_quad_back, store_const_back, store_byte_back, lea_back, move_cc_back, load_wide_back, store_wide_back, load_tls_back}
use Rattle.amd64_code.proofs.ComputationLaws.{arithmetic_reg_back, arithmetic_const_back, compare_const_back, unary_back, mul_div_back, rm_reg_back, shift_const_back, shift_cx_back, exchange_back, atomic_back, set_cc_back, swap_bytes_back, xor_wide_back}
use Rattle.amd64_code.proofs.ControlLaws.{stack_back, short_back, near_back, indirect_back, plain_back}

pub reads : (i : Instr) (rest : List ℕ) → fits i ≡ true → reading (spelling_of i ++ rest) ≡ i
unfolding fits
reads (instr.RegRm op width reg rm) rest fit = reg_rm_back op width reg rm rest fit
reads (instr.ArithmeticReg op lock width from to) rest fit =
    arithmetic_reg_back op lock width from to rest (and_parts (fits_lock lock to) (fits_rm to) fit).1
reads (instr.MemReg op width mem reg) rest fit = mem_reg_back op width mem reg rest fit
reads (instr.ArithmeticConst op lock width constant to) rest fit =
    let parts = and_parts (fits_lock lock to && fits_rm to) (fits_bits 32 constant) fit in
    arithmetic_const_back op lock width constant to rest (and_parts (fits_lock lock to) (fits_rm to) parts.0).1 parts.1
reads (instr.CompareConst width rm constant) rest fit =
    let parts = and_parts (fits_rm rm) (fits_bits 32 constant) fit in
    compare_const_back width rm constant rest parts.0 parts.1
reads (instr.StoreLow size from to) rest fit = store_low_back size from to rest fit
reads (instr.Extend op from to) rest fit = extend_back op from to rest fit
reads (instr.LoadLong constant to) rest fit = load_long_back constant to rest (ltb-true constant (2 ^ 32) fit)
reads (instr.LoadQuad constant to) rest fit =
    load_quad_back constant to rest (and_parts (is_quad_constant constant) (fits_bits 64 constant) fit).1
reads (instr.StoreConst width constant to) rest fit =
    let parts = and_parts (fits_mem to) (fits_bits 32 constant) fit in
    store_const_back width constant to rest parts.0 parts.1
reads (instr.StoreByte constant to) rest fit =
    let parts = and_parts (fits_mem to) (fits_bits 8 constant) fit in
    store_byte_back constant to rest parts.0 parts.1
reads (instr.Lea from to) rest fit = lea_back from to rest fit
reads (instr.Unary op lock width rm) rest fit = unary_back op lock width rm rest (and_parts (fits_lock lock rm) (fits_rm rm) fit).1
reads (instr.MulDiv op width rm) rest fit = mul_div_back op width rm rest fit
reads (instr.RmReg op width from to) rest fit = rm_reg_back op width from to rest fit
reads (instr.ShiftConst op width count rm) rest fit =
    shift_const_back op width count rm rest (and_parts (nat_lt count (bits_of width)) (fits_rm rm) fit).1
reads (instr.ShiftCx op width rm) rest fit = shift_cx_back op width rm rest fit
reads (instr.Stack op reg) rest fit = stack_back op reg rest
reads (instr.Exchange width reg mem) rest fit = exchange_back width reg mem rest fit
reads (instr.Atomic op lock width reg mem) rest fit = atomic_back op lock width reg mem rest fit
reads (instr.SetCc code to) rest fit = set_cc_back code to rest fit
reads (instr.MoveCc code width from to) rest fit = move_cc_back code width from to rest fit
reads (instr.SwapBytes width reg) rest fit = swap_bytes_back width reg rest
reads (instr.Short code distance) rest fit = short_back code distance rest fit
reads (instr.Near op distance) rest fit = near_back op distance rest fit
reads (instr.Indirect op rm) rest fit = indirect_back op rm rest fit
reads (instr.LoadWide from to) rest fit = load_wide_back from to rest fit
reads (instr.StoreWide from to) rest fit = store_wide_back from to rest fit
reads (instr.XorWide from to) rest fit = xor_wide_back from to rest
reads (instr.LoadTls to) rest fit = load_tls_back to rest
reads (instr.Plain op) rest fit = plain_back op rest

-- bytes that begin with an instruction's spelling are read as it
pub begins_read : (i : Instr) (bytes : List ℕ) → fits i ≡ true
    → bytes ≡ spelling_of i ++ drop (length (spelling_of i)) bytes → reading bytes ≡ i
begins_read i bytes fit begins = ap reading begins ∙ reads i (drop (length (spelling_of i)) bytes) fit
