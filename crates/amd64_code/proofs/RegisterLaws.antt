-- The bits of a register and the number of a condition give it back.
use Rattle.std.proofs.Common.{◌≡◌, ◌<◌, arith, rules}
use Rattle.amd64_table.specs.declared.reg.Reg.{Reg}
use Rattle.amd64_table.specs.declared.xmm.Xmm.{Xmm}
use Rattle.amd64_table.specs.declared.condition.Cc.{Cc}
use Rattle.amd64_table.specs.Registers.{number_of, low_bits, is_high, xmm_number, low_bits_xmm, is_high_xmm}
use Rattle.amd64_table.specs.Conditions.{cc_number}
use Rattle.amd64_code.specs.Registers.{reg_at, xmm_at, cc_at}

pub reg_back : (reg : Reg) → reg_at (is_high reg) (low_bits reg) ≡ reg
unfolding number_of reg_at
reg_back reg = search rules

pub xmm_back : (xmm : Xmm) → xmm_at (is_high_xmm xmm) (low_bits_xmm xmm) ≡ xmm
unfolding xmm_number xmm_at
xmm_back xmm = search rules

pub cc_back : (code : Cc) → cc_at (cc_number code) ≡ code
unfolding cc_number cc_at
cc_back code = search rules

pub low_below : (reg : Reg) → low_bits reg < 8
low_below reg = omega arith

pub low_xmm_below : (xmm : Xmm) → low_bits_xmm xmm < 8
low_xmm_below xmm = omega arith
