-- What each instruction does to the flags carry, zero, sign, over and parity, as the manual's tables have it (Intel 64 manual, volume 1,
-- "EFLAGS cross-reference", and volume 2): `s` set by the result, `k` kept, `-` cleared, `?` undefined. Shifts and ROL with a count that
-- isn't 0; where the manual tells carry and over of them by the bits that leave, any value is taken here.
use Rattle.std.specs.Prelude.{ℕ, List, codes}
use Rattle.amd64_table.specs.declared.op.Arithmetic.TheVariants as arithmetic
use Rattle.amd64_table.specs.declared.op.Unary.TheVariants as unary
use Rattle.amd64_table.specs.declared.op.MulDiv.TheVariants as mul_div
use Rattle.amd64_table.specs.declared.op.RmReg.TheVariants as rm_reg
use Rattle.amd64_table.specs.declared.op.ShiftOp.TheVariants as shifts
use Rattle.amd64_table.specs.declared.mnemonic.Mnemonic.{Mnemonic}
use Rattle.amd64_table.specs.declared.mnemonic.Mnemonic.TheVariants as name

unfoldable pub manual_flags : Mnemonic → List ℕ
manual_flags (name.Arithmetic arithmetic.Add width) = codes "sssss"
manual_flags (name.Arithmetic arithmetic.Or width) = codes "-ss-s"
manual_flags (name.Arithmetic arithmetic.Adc width) = codes "sssss"
manual_flags (name.Arithmetic arithmetic.Sbb width) = codes "sssss"
manual_flags (name.Arithmetic arithmetic.And width) = codes "-ss-s"
manual_flags (name.Arithmetic arithmetic.Sub width) = codes "sssss"
manual_flags (name.Arithmetic arithmetic.Xor width) = codes "-ss-s"
manual_flags (name.Cmp width) = codes "sssss"
manual_flags (name.Test width) = codes "-ss-s"
manual_flags (name.Unary unary.Inc width) = codes "kssss"
manual_flags (name.Unary unary.Dec width) = codes "kssss"
manual_flags (name.Unary unary.Not width) = codes "kkkkk"
manual_flags (name.Unary unary.Neg width) = codes "sssss"
manual_flags (name.MulDiv mul_div.Mul width) = codes "s??s?"
manual_flags (name.MulDiv mul_div.Div width) = codes "?????"
manual_flags (name.MulDiv mul_div.Idiv width) = codes "?????"
manual_flags (name.RmReg rm_reg.Imul width) = codes "s??s?"
manual_flags (name.RmReg rm_reg.Bsf width) = codes "?s???"
manual_flags (name.RmReg rm_reg.Bsr width) = codes "?s???"
manual_flags (name.RmReg rm_reg.Popcnt width) = codes "-s---"
manual_flags (name.Shift shifts.Shl width) = codes "?ss?s"
manual_flags (name.Shift shifts.Shr width) = codes "?ss?s"
manual_flags (name.Shift shifts.Sar width) = codes "?ss?s"
manual_flags (name.Shift shifts.Rol width) = codes "?kk?k"
manual_flags (name.Atomic op width) = codes "sssss"
manual_flags _ = codes "kkkkk"
