use Rattle.std.proofs.Common.{◌≡◌, ℕ, ◌+◌, ◌%◌, ◌<◌, ◌≤◌, true, false, nat_le, arith, rules}
use Rattle.std.proofs.lemmas.Bool.{leb-true, leb-false}
use Rattle.amd64_table.specs.declared.reg.Reg.{Reg}
use Rattle.amd64_table.specs.declared.xmm.Xmm.{Xmm}
use Rattle.amd64_table.specs.Registers.{number_of, xmm_number}

pub number_below : (reg : Reg) → number_of reg < 16
unfolding number_of
number_below reg = search rules

pub xmm_below : (xmm : Xmm) → xmm_number xmm < 16
unfolding xmm_number
xmm_below xmm = search rules

high_number : (n low : ℕ) → n < 16 → nat_le 8 n ≡ true → n % 8 ≡ low → n ≡ low + 8
high_number n low below high is = let over : 8 ≤ n = leb-true 8 n high in omega arith

low_number : (n low : ℕ) → nat_le 8 n ≡ false → n % 8 ≡ low → n ≡ low
low_number n low high is = let under : n < 8 = leb-false 8 n high in omega arith

-- a register's number, by its fourth bit and its low bits
pub reg_high : (reg : Reg) (low : ℕ) → nat_le 8 (number_of reg) ≡ true → number_of reg % 8 ≡ low → number_of reg ≡ low + 8
reg_high reg low high is = high_number (number_of reg) low (number_below reg) high is

pub reg_low : (reg : Reg) (low : ℕ) → nat_le 8 (number_of reg) ≡ false → number_of reg % 8 ≡ low → number_of reg ≡ low
reg_low reg low high is = low_number (number_of reg) low high is

pub xmm_high : (xmm : Xmm) (low : ℕ) → nat_le 8 (xmm_number xmm) ≡ true → xmm_number xmm % 8 ≡ low → xmm_number xmm ≡ low + 8
xmm_high xmm low high is = high_number (xmm_number xmm) low (xmm_below xmm) high is

pub xmm_low : (xmm : Xmm) (low : ℕ) → nat_le 8 (xmm_number xmm) ≡ false → xmm_number xmm % 8 ≡ low → xmm_number xmm ≡ low
xmm_low xmm low high is = low_number (xmm_number xmm) low high is
