-- Cases of each operation, from the manuals' words and, for amd64, from what a processor gave.
use Rattle.std.specs.Prelude.{ℕ, Bool, true, false, List, [], ◌∷◌, ◌==◌}
use Rattle.machine_effect.specs.declared.op.Op.{Op}
use Rattle.machine_effect.specs.declared.op.Op.TheVariants as op
use Rattle.machine_effect.specs.declared.op.Word.TheVariants as word
use Rattle.machine_effect.specs.declared.op.Shift.TheVariants.{Left, Right, RightSigned, RotateLeft, RotateRight}
use Rattle.machine_effect.specs.declared.op.Logic.TheVariants.{And, Or, Xor, AndNot, OrNot}
use Rattle.machine_effect.specs.declared.op.Signs.TheVariants.{Unsigned, Signed, SignedUnsigned}
use Rattle.machine_effect.specs.declared.op.Division.TheVariants.{DoubleQuotient, DoubleRemainder, SignedDoubleQuotient, SignedDoubleRemainder, QuotientOrZero, SignedQuotientOrZero, QuotientOrOnes, SignedQuotientOrOnes, RemainderOrDividend, SignedRemainderOrDividend}
use Rattle.machine_effect.specs.declared.cond.Cond.TheVariants as cond
use Rattle.machine_effect.specs.Operations.{Outcome, Exactly, AnyOfBits, Fails, operate}

-- an operation at a width, its three numbers, the carry flag, which is also whether its condition holds, and what it gives
pub record Case : Type 0 where
  pub op : Op
  pub width : ℕ
  pub a : ℕ
  pub b : ℕ
  pub c : ℕ
  pub flag : Bool
  pub wanted : Outcome

abbrev case : Op → ℕ → ℕ → ℕ → ℕ → Bool → Outcome → Case
case op width a b c flag wanted = record { op = op; width = width; a = a; b = b; c = c; flag = flag; wanted = wanted }

abbrev is_same : Outcome → Outcome → Bool
is_same (Exactly m) (Exactly n) = m == n
is_same (AnyOfBits v) (AnyOfBits w) = v == w
is_same Fails Fails = true
is_same _ _ = false

-- the operation gives what the case says
abbrev pub is_met : Case → Bool
is_met one = is_same (operate (λ _. one.flag) one.flag one.op one.width one.a one.b one.c) one.wanted

abbrev pub cases : List Case
cases =
    case op.Copy 32 0x1_8000_0005 0 0 false (Exactly 0x8000_0005) ∷
    case op.Copy 8 0xfff0 0 0 false (Exactly 240) ∷
    case op.Copy 64 0xffff_ffff_ffff_ffff 0 0 false (Exactly 0xffff_ffff_ffff_ffff) ∷
    case op.SignExtend 64 383 8 0 false (Exactly 127) ∷
    case op.SignExtend 64 384 8 0 false (Exactly 0xffff_ffff_ffff_ff80) ∷
    case op.SignExtend 64 0x8000_0000 32 0 false (Exactly 0xffff_ffff_8000_0000) ∷
    case op.SignExtend 64 0x8000 16 0 false (Exactly 0xffff_ffff_ffff_8000) ∷
    case op.Upper 64 0x1122_3344_5566_7788_99aa_bbcc_ddee_ff00 0 0 false (Exactly 0x1122_3344_5566_7788) ∷
    case op.Upper 64 0xffff_ffff_ffff_ffff 0 0 false (Exactly 0) ∷
    case op.Pair 128 0x99aa_bbcc_ddee_ff00 0x1122_3344_5566_7788 0 false (Exactly 0x1122_3344_5566_7788_99aa_bbcc_ddee_ff00) ∷
    case op.Pair 128 0 0xffff_ffff_ffff_ffff 0 false (Exactly 0xffff_ffff_ffff_ffff_0000_0000_0000_0000) ∷
    case op.Add 64 0xffff_ffff_ffff_ffff 1 0 false (Exactly 0) ∷
    case op.Add 64 0xffff_ffff_ffff_fffa 0xffff_ffff_ffff_ffff 0 false (Exactly 0xffff_ffff_ffff_fff9) ∷
    case op.Add 32 0xffff_ffff 1 0 false (Exactly 0) ∷
    case op.Add 32 0xffff_fffa 0xffff_ffff 0 false (Exactly 0xffff_fff9) ∷
    case op.Add 32 0xffff_ffff_0000_0001 0xffff_ffff_ffff_ffff 0 false (Exactly 0) ∷
    case op.AddCarry 64 0xffff_ffff_ffff_ffff 0 0 true (Exactly 0) ∷
    case op.AddCarry 64 0xffff_ffff_ffff_ffff 0xffff_ffff_ffff_ffff 0 true (Exactly 0xffff_ffff_ffff_ffff) ∷
    case op.AddCarry 64 5 7 0 false (Exactly 12) ∷
    case op.AddCarry 32 0xffff_ffff 0 0 true (Exactly 0) ∷
    case op.AddCarry 32 0xffff_ffff 0xffff_ffff 0 true (Exactly 0xffff_ffff) ∷
    case op.AddCarry 32 5 7 0 false (Exactly 12) ∷
    case op.Subtract 64 0 1 0 false (Exactly 0xffff_ffff_ffff_ffff) ∷
    case op.Subtract 64 5 7 0 false (Exactly 0xffff_ffff_ffff_fffe) ∷
    case op.Subtract 64 7 7 0 false (Exactly 0) ∷
    case op.Subtract 32 0 1 0 false (Exactly 0xffff_ffff) ∷
    case op.Subtract 32 5 7 0 false (Exactly 0xffff_fffe) ∷
    case op.Subtract 32 7 7 0 false (Exactly 0) ∷
    case op.SubtractBorrow 64 0 0 0 true (Exactly 0xffff_ffff_ffff_ffff) ∷
    case op.SubtractBorrow 64 0 0xffff_ffff_ffff_ffff 0 true (Exactly 0) ∷
    case op.SubtractBorrow 64 9 4 0 false (Exactly 5) ∷
    case op.SubtractBorrow 32 0 0 0 true (Exactly 0xffff_ffff) ∷
    case op.SubtractBorrow 32 0 0xffff_ffff 0 true (Exactly 0) ∷
    case op.SubtractBorrow 32 9 4 0 false (Exactly 5) ∷
    case (op.AddScaled 8) 64 0x1000 3 0xffff_ffff_ffff_fff8 false (Exactly 0x1010) ∷
    case (op.AddScaled 4) 64 0xffff_ffff_ffff_ffff 1 0 false (Exactly 3) ∷
    case (op.Logic And) 64 0xff00_ff00_1234_5678 0xff0_f00f_ffff_0000 0 false (Exactly 0xf00_f000_1234_0000) ∷
    case (op.Logic Or) 64 0xff00_ff00_1234_5678 0xff0_f00f_ffff_0000 0 false (Exactly 0xfff0_ff0f_ffff_5678) ∷
    case (op.Logic Xor) 64 0xff00_ff00_1234_5678 0xff0_f00f_ffff_0000 0 false (Exactly 0xf0f0_0f0f_edcb_5678) ∷
    case (op.Logic Xor) 64 0xff00_ff00_1234_5678 0xffff_ffff_ffff_ffff 0 false (Exactly 0xff_00ff_edcb_a987) ∷
    case (op.Logic And) 32 0xff00_ff00_1234_5678 0xff0_f00f_ffff_0000 0 false (Exactly 0x1234_0000) ∷
    case (op.Logic Or) 32 0xff00_ff00_1234_5678 0xff0_f00f_ffff_0000 0 false (Exactly 0xffff_5678) ∷
    case (op.Logic Xor) 32 0xff00_ff00_1234_5678 0xff0_f00f_ffff_0000 0 false (Exactly 0xedcb_5678) ∷
    case (op.Logic AndNot) 64 0xff00_ff00_1234_5678 0xff0_f00f_ffff_0000 0 false (Exactly 0xf000_0f00_0000_5678) ∷
    case (op.Logic OrNot) 64 0 255 0 false (Exactly 0xffff_ffff_ffff_ff00) ∷
    case (op.Logic OrNot) 64 0xff00_ff00_1234_5678 0xff0_f00f_ffff_0000 0 false (Exactly 0xff0f_fff0_1234_ffff) ∷
    case (op.Logic AndNot) 32 0xff00_ff00_1234_5678 0xff0_f00f_ffff_0000 0 false (Exactly 0x5678) ∷
    case (op.AddShifted Left) 64 5 0x8000_0000_0000_0003 63 false (Exactly 0x8000_0000_0000_0005) ∷
    case (op.AddShifted Right) 64 5 0x8000_0000_0000_0003 63 false (Exactly 6) ∷
    case (op.AddShifted RightSigned) 64 5 0x8000_0000_0000_0003 63 false (Exactly 4) ∷
    case (op.AddShifted Left) 64 5 0x8000_0000_0000_0003 0 false (Exactly 0x8000_0000_0000_0008) ∷
    case (op.AddShifted RightSigned) 32 1 0x1_8000_0000 31 false (Exactly 0) ∷
    case (op.SubtractShifted Left) 64 5 0x8000_0000_0000_0003 63 false (Exactly 0x8000_0000_0000_0005) ∷
    case (op.SubtractShifted Right) 64 5 0x8000_0000_0000_0003 63 false (Exactly 4) ∷
    case (op.SubtractShifted RightSigned) 64 5 0x8000_0000_0000_0003 63 false (Exactly 6) ∷
    case (op.SubtractShifted Left) 64 5 0x8000_0000_0000_0003 0 false (Exactly 0x8000_0000_0000_0002) ∷
    case (op.SubtractShifted Left) 32 0 1 31 false (Exactly 0x8000_0000) ∷
    case (op.LogicShifted And Left) 64 0xff00 255 4 false (Exactly 0xf00) ∷
    case (op.LogicShifted AndNot Right) 64 0xffff 0xff00 8 false (Exactly 0xff00) ∷
    case (op.LogicShifted OrNot RightSigned) 64 0 0x8000_0000_0000_0000 60 false (Exactly 7) ∷
    case (op.LogicShifted Xor Left) 32 1 0x8000_0001 1 false (Exactly 3) ∷
    case (op.LogicShifted Or Left) 32 0 0xffff_ffff 31 false (Exactly 0x8000_0000) ∷
    case op.Insert 64 0x1111_2222_3333_4444 0xffff_ffff_0000_ffff 0xabcd_0000 false (Exactly 0x1111_2222_abcd_4444) ∷
    case op.Insert 64 0xffff_ffff_ffff_ffff 0xffff_ffff_ffff 0 false (Exactly 0xffff_ffff_ffff) ∷
    case (op.Shift Left) 64 0x8000_0000_0000_0005 0 0 false (Exactly 0x8000_0000_0000_0005) ∷
    case (op.Shift Left) 64 0x8000_0000_0000_0005 63 0 false (Exactly 0x8000_0000_0000_0000) ∷
    case (op.Shift Left) 64 0x8000_0000_0000_0005 67 0 false (Exactly 40) ∷
    case (op.Shift Left) 32 0x8000_0005 1 0 false (Exactly 10) ∷
    case (op.Shift Left) 32 0x8000_0005 32 0 false (Exactly 0x8000_0005) ∷
    case (op.Shift Right) 64 0x8000_0000_0000_0005 0 0 false (Exactly 0x8000_0000_0000_0005) ∷
    case (op.Shift Right) 64 0x8000_0000_0000_0005 63 0 false (Exactly 1) ∷
    case (op.Shift Right) 64 0x8000_0000_0000_0005 67 0 false (Exactly 0x1000_0000_0000_0000) ∷
    case (op.Shift Right) 32 0x8000_0005 1 0 false (Exactly 0x4000_0002) ∷
    case (op.Shift Right) 32 0x8000_0005 32 0 false (Exactly 0x8000_0005) ∷
    case (op.Shift RightSigned) 64 0x8000_0000_0000_0005 0 0 false (Exactly 0x8000_0000_0000_0005) ∷
    case (op.Shift RightSigned) 64 0x8000_0000_0000_0005 63 0 false (Exactly 0xffff_ffff_ffff_ffff) ∷
    case (op.Shift RightSigned) 64 0x8000_0000_0000_0005 64 0 false (Exactly 0x8000_0000_0000_0005) ∷
    case (op.Shift RightSigned) 64 0x8000_0000_0000_0005 67 0 false (Exactly 0xf000_0000_0000_0000) ∷
    case (op.Shift RightSigned) 32 0x8000_0005 0 0 false (Exactly 0x8000_0005) ∷
    case (op.Shift RightSigned) 32 0x8000_0005 1 0 false (Exactly 0xc000_0002) ∷
    case (op.Shift RightSigned) 32 0x8000_0005 32 0 false (Exactly 0x8000_0005) ∷
    case (op.Shift RightSigned) 32 0x8000_0005 35 0 false (Exactly 0xf000_0000) ∷
    case (op.Shift RotateLeft) 64 0x8000_0000_0000_0005 0 0 false (Exactly 0x8000_0000_0000_0005) ∷
    case (op.Shift RotateLeft) 64 0x8000_0000_0000_0005 63 0 false (Exactly 0xc000_0000_0000_0002) ∷
    case (op.Shift RotateLeft) 64 0x8000_0000_0000_0005 67 0 false (Exactly 44) ∷
    case (op.Shift RotateLeft) 32 0x8000_0005 1 0 false (Exactly 11) ∷
    case (op.Shift RotateLeft) 32 0x8000_0005 32 0 false (Exactly 0x8000_0005) ∷
    case (op.Shift RotateRight) 64 0x8000_0000_0000_0005 0 0 false (Exactly 0x8000_0000_0000_0005) ∷
    case (op.Shift RotateRight) 64 0x8000_0000_0000_0005 63 0 false (Exactly 11) ∷
    case (op.Shift RotateRight) 64 0x8000_0000_0000_0005 67 0 false (Exactly 0xb000_0000_0000_0000) ∷
    case (op.Shift RotateRight) 32 0x8000_0005 1 0 false (Exactly 0xc000_0002) ∷
    case (op.Shift RotateRight) 32 0x8000_0005 32 0 false (Exactly 0x8000_0005) ∷
    case (op.Shift RightSigned) 32 0x7fff_ffff 31 0 false (Exactly 0) ∷
    case op.Multiply 64 0xffff_ffff_ffff_ffff 0xffff_ffff_ffff_ffff 0 false (Exactly 1) ∷
    case op.Multiply 64 0x8000_0000_0000_0000 2 0 false (Exactly 0) ∷
    case op.Multiply 32 0x1_0001 0x1_0001 0 false (Exactly 0x2_0001) ∷
    case op.MultiplyAdd 64 10 0xffff_ffff_ffff_ffff 3 false (Exactly 7) ∷
    case op.MultiplyAdd 64 0xffff_ffff_ffff_ffff 0x8000_0000_0000_0000 2 false (Exactly 0xffff_ffff_ffff_ffff) ∷
    case op.MultiplySubtract 64 10 0xffff_ffff_ffff_ffff 3 false (Exactly 13) ∷
    case op.MultiplySubtract 64 0 3 4 false (Exactly 0xffff_ffff_ffff_fff4) ∷
    case (op.MultiplyHigh Unsigned) 64 0xffff_ffff_ffff_ffff 0xffff_ffff_ffff_ffff 0 false (Exactly 0xffff_ffff_ffff_fffe) ∷
    case (op.MultiplyHigh Signed) 64 0xffff_ffff_ffff_ffff 0xffff_ffff_ffff_ffff 0 false (Exactly 0) ∷
    case (op.MultiplyHigh Unsigned) 64 0x8000_0000_0000_0000 0x8000_0000_0000_0000 0 false (Exactly 0x4000_0000_0000_0000) ∷
    case (op.MultiplyHigh Signed) 64 0x8000_0000_0000_0000 0x8000_0000_0000_0000 0 false (Exactly 0x4000_0000_0000_0000) ∷
    case (op.MultiplyHigh Unsigned) 64 0x8000_0000_0000_0000 0xffff_ffff_ffff_ffff 0 false (Exactly 0x7fff_ffff_ffff_ffff) ∷
    case (op.MultiplyHigh Signed) 64 0x8000_0000_0000_0000 0xffff_ffff_ffff_ffff 0 false (Exactly 0) ∷
    case (op.MultiplyHigh Unsigned) 64 3 5 0 false (Exactly 0) ∷
    case (op.MultiplyHigh Signed) 64 3 5 0 false (Exactly 0) ∷
    case (op.MultiplyHigh Unsigned) 64 0x7fff_ffff_ffff_ffff 0x8000_0000_0000_0000 0 false (Exactly 0x3fff_ffff_ffff_ffff) ∷
    case (op.MultiplyHigh Signed) 64 0x7fff_ffff_ffff_ffff 0x8000_0000_0000_0000 0 false (Exactly 0xc000_0000_0000_0000) ∷
    case (op.MultiplyHigh Unsigned) 32 0xffff_ffff 0xffff_ffff 0 false (Exactly 0xffff_fffe) ∷
    case (op.MultiplyHigh Signed) 32 0xffff_ffff 0xffff_ffff 0 false (Exactly 0) ∷
    case (op.MultiplyHigh Unsigned) 32 0x8000_0000 0x8000_0000 0 false (Exactly 0x4000_0000) ∷
    case (op.MultiplyHigh Signed) 32 0x8000_0000 0x8000_0000 0 false (Exactly 0x4000_0000) ∷
    case (op.MultiplyHigh Unsigned) 32 0x8000_0000 0xffff_ffff 0 false (Exactly 0x7fff_ffff) ∷
    case (op.MultiplyHigh Signed) 32 0x8000_0000 0xffff_ffff 0 false (Exactly 0) ∷
    case (op.MultiplyHigh Unsigned) 32 3 5 0 false (Exactly 0) ∷
    case (op.MultiplyHigh Signed) 32 3 5 0 false (Exactly 0) ∷
    case (op.MultiplyHigh Unsigned) 32 0x7fff_ffff 0x8000_0000 0 false (Exactly 0x3fff_ffff) ∷
    case (op.MultiplyHigh Signed) 32 0x7fff_ffff 0x8000_0000 0 false (Exactly 0xc000_0000) ∷
    case (op.MultiplyHigh SignedUnsigned) 64 0xffff_ffff_ffff_ffff 0xffff_ffff_ffff_ffff 0 false (Exactly 0xffff_ffff_ffff_ffff) ∷
    case (op.MultiplyHigh SignedUnsigned) 64 0xffff_ffff_ffff_ffff 1 0 false (Exactly 0xffff_ffff_ffff_ffff) ∷
    case (op.MultiplyHigh SignedUnsigned) 64 0x8000_0000_0000_0000 0xffff_ffff_ffff_ffff 0 false (Exactly 0x8000_0000_0000_0000) ∷
    case (op.MultiplyHigh SignedUnsigned) 64 7 0xffff_ffff_ffff_ffff 0 false (Exactly 6) ∷
    case (op.MultiplyHigh SignedUnsigned) 64 0xffff_ffff_ffff_ffff 0 0 false (Exactly 0) ∷
    case (op.Divide DoubleQuotient) 64 7 0 2 false (Exactly 3) ∷
    case (op.Divide DoubleRemainder) 64 7 0 2 false (Exactly 1) ∷
    case (op.Divide DoubleQuotient) 64 5 1 3 false (Exactly 0x5555_5555_5555_5557) ∷
    case (op.Divide DoubleRemainder) 64 5 1 3 false (Exactly 0) ∷
    case (op.Divide DoubleQuotient) 64 0 5 5 false Fails ∷
    case (op.Divide DoubleRemainder) 64 0 5 5 false Fails ∷
    case (op.Divide DoubleQuotient) 64 0 0 0 false Fails ∷
    case (op.Divide DoubleRemainder) 64 0 0 0 false Fails ∷
    case (op.Divide DoubleQuotient) 64 0xffff_ffff_ffff_ffff 4 5 false (Exactly 0xffff_ffff_ffff_ffff) ∷
    case (op.Divide DoubleRemainder) 64 0xffff_ffff_ffff_ffff 4 5 false (Exactly 4) ∷
    case (op.Divide DoubleQuotient) 64 1 0 0xffff_ffff_ffff_ffff false (Exactly 0) ∷
    case (op.Divide DoubleRemainder) 64 1 0 0xffff_ffff_ffff_ffff false (Exactly 1) ∷
    case (op.Divide SignedDoubleQuotient) 64 0xffff_ffff_ffff_fff9 0xffff_ffff_ffff_ffff 2 false (Exactly 0xffff_ffff_ffff_fffd) ∷
    case (op.Divide SignedDoubleRemainder) 64 0xffff_ffff_ffff_fff9 0xffff_ffff_ffff_ffff 2 false (Exactly 0xffff_ffff_ffff_ffff) ∷
    case (op.Divide SignedDoubleQuotient) 64 0xffff_ffff_ffff_fff9 0xffff_ffff_ffff_ffff 0xffff_ffff_ffff_fffe false (Exactly 3) ∷
    case (op.Divide SignedDoubleRemainder) 64 0xffff_ffff_ffff_fff9 0xffff_ffff_ffff_ffff 0xffff_ffff_ffff_fffe false (Exactly 0xffff_ffff_ffff_ffff) ∷
    case (op.Divide SignedDoubleQuotient) 64 7 0 0xffff_ffff_ffff_fffe false (Exactly 0xffff_ffff_ffff_fffd) ∷
    case (op.Divide SignedDoubleRemainder) 64 7 0 0xffff_ffff_ffff_fffe false (Exactly 1) ∷
    case (op.Divide SignedDoubleQuotient) 64 0x8000_0000_0000_0000 0xffff_ffff_ffff_ffff 0xffff_ffff_ffff_ffff false Fails ∷
    case (op.Divide SignedDoubleRemainder) 64 0x8000_0000_0000_0000 0xffff_ffff_ffff_ffff 0xffff_ffff_ffff_ffff false Fails ∷
    case (op.Divide SignedDoubleQuotient) 64 0x8000_0000_0000_0000 0xffff_ffff_ffff_ffff 1 false (Exactly 0x8000_0000_0000_0000) ∷
    case (op.Divide SignedDoubleRemainder) 64 0x8000_0000_0000_0000 0xffff_ffff_ffff_ffff 1 false (Exactly 0) ∷
    case (op.Divide SignedDoubleQuotient) 64 0x8000_0000_0000_0000 0 1 false Fails ∷
    case (op.Divide SignedDoubleRemainder) 64 0x8000_0000_0000_0000 0 1 false Fails ∷
    case (op.Divide SignedDoubleQuotient) 64 0 0 0 false Fails ∷
    case (op.Divide SignedDoubleRemainder) 64 0 0 0 false Fails ∷
    case (op.Divide SignedDoubleQuotient) 64 0xffff_ffff_ffff_ffff 0xffff_ffff_ffff_ffff 0xffff_ffff_ffff_ffff false (Exactly 1) ∷
    case (op.Divide SignedDoubleRemainder) 64 0xffff_ffff_ffff_ffff 0xffff_ffff_ffff_ffff 0xffff_ffff_ffff_ffff false (Exactly 0) ∷
    case (op.Divide DoubleQuotient) 32 7 0 2 false (Exactly 3) ∷
    case (op.Divide DoubleRemainder) 32 7 0 2 false (Exactly 1) ∷
    case (op.Divide DoubleQuotient) 32 5 1 3 false (Exactly 0x5555_5557) ∷
    case (op.Divide DoubleRemainder) 32 5 1 3 false (Exactly 0) ∷
    case (op.Divide DoubleQuotient) 32 0 5 5 false Fails ∷
    case (op.Divide DoubleRemainder) 32 0 5 5 false Fails ∷
    case (op.Divide DoubleQuotient) 32 0 0 0 false Fails ∷
    case (op.Divide DoubleRemainder) 32 0 0 0 false Fails ∷
    case (op.Divide DoubleQuotient) 32 0xffff_ffff 4 5 false (Exactly 0xffff_ffff) ∷
    case (op.Divide DoubleRemainder) 32 0xffff_ffff 4 5 false (Exactly 4) ∷
    case (op.Divide DoubleQuotient) 32 1 0 0xffff_ffff false (Exactly 0) ∷
    case (op.Divide DoubleRemainder) 32 1 0 0xffff_ffff false (Exactly 1) ∷
    case (op.Divide SignedDoubleQuotient) 32 0xffff_fff9 0xffff_ffff 2 false (Exactly 0xffff_fffd) ∷
    case (op.Divide SignedDoubleRemainder) 32 0xffff_fff9 0xffff_ffff 2 false (Exactly 0xffff_ffff) ∷
    case (op.Divide SignedDoubleQuotient) 32 0xffff_fff9 0xffff_ffff 0xffff_fffe false (Exactly 3) ∷
    case (op.Divide SignedDoubleRemainder) 32 0xffff_fff9 0xffff_ffff 0xffff_fffe false (Exactly 0xffff_ffff) ∷
    case (op.Divide SignedDoubleQuotient) 32 7 0 0xffff_fffe false (Exactly 0xffff_fffd) ∷
    case (op.Divide SignedDoubleRemainder) 32 7 0 0xffff_fffe false (Exactly 1) ∷
    case (op.Divide SignedDoubleQuotient) 32 0x8000_0000 0xffff_ffff 0xffff_ffff false Fails ∷
    case (op.Divide SignedDoubleRemainder) 32 0x8000_0000 0xffff_ffff 0xffff_ffff false Fails ∷
    case (op.Divide SignedDoubleQuotient) 32 0x8000_0000 0xffff_ffff 1 false (Exactly 0x8000_0000) ∷
    case (op.Divide SignedDoubleRemainder) 32 0x8000_0000 0xffff_ffff 1 false (Exactly 0) ∷
    case (op.Divide SignedDoubleQuotient) 32 0x8000_0000 0 1 false Fails ∷
    case (op.Divide SignedDoubleRemainder) 32 0x8000_0000 0 1 false Fails ∷
    case (op.Divide SignedDoubleQuotient) 32 0 0 0 false Fails ∷
    case (op.Divide SignedDoubleRemainder) 32 0 0 0 false Fails ∷
    case (op.Divide SignedDoubleQuotient) 32 0xffff_ffff 0xffff_ffff 0xffff_ffff false (Exactly 1) ∷
    case (op.Divide SignedDoubleRemainder) 32 0xffff_ffff 0xffff_ffff 0xffff_ffff false (Exactly 0) ∷
    case (op.Divide QuotientOrZero) 64 7 2 0 false (Exactly 3) ∷
    case (op.Divide SignedQuotientOrZero) 64 7 2 0 false (Exactly 3) ∷
    case (op.Divide QuotientOrOnes) 64 7 2 0 false (Exactly 3) ∷
    case (op.Divide SignedQuotientOrOnes) 64 7 2 0 false (Exactly 3) ∷
    case (op.Divide RemainderOrDividend) 64 7 2 0 false (Exactly 1) ∷
    case (op.Divide SignedRemainderOrDividend) 64 7 2 0 false (Exactly 1) ∷
    case (op.Divide QuotientOrZero) 64 0xffff_ffff_ffff_fff9 2 0 false (Exactly 0x7fff_ffff_ffff_fffc) ∷
    case (op.Divide SignedQuotientOrZero) 64 0xffff_ffff_ffff_fff9 2 0 false (Exactly 0xffff_ffff_ffff_fffd) ∷
    case (op.Divide QuotientOrOnes) 64 0xffff_ffff_ffff_fff9 2 0 false (Exactly 0x7fff_ffff_ffff_fffc) ∷
    case (op.Divide SignedQuotientOrOnes) 64 0xffff_ffff_ffff_fff9 2 0 false (Exactly 0xffff_ffff_ffff_fffd) ∷
    case (op.Divide RemainderOrDividend) 64 0xffff_ffff_ffff_fff9 2 0 false (Exactly 1) ∷
    case (op.Divide SignedRemainderOrDividend) 64 0xffff_ffff_ffff_fff9 2 0 false (Exactly 0xffff_ffff_ffff_ffff) ∷
    case (op.Divide QuotientOrZero) 64 7 0xffff_ffff_ffff_fffe 0 false (Exactly 0) ∷
    case (op.Divide SignedQuotientOrZero) 64 7 0xffff_ffff_ffff_fffe 0 false (Exactly 0xffff_ffff_ffff_fffd) ∷
    case (op.Divide QuotientOrOnes) 64 7 0xffff_ffff_ffff_fffe 0 false (Exactly 0) ∷
    case (op.Divide SignedQuotientOrOnes) 64 7 0xffff_ffff_ffff_fffe 0 false (Exactly 0xffff_ffff_ffff_fffd) ∷
    case (op.Divide RemainderOrDividend) 64 7 0xffff_ffff_ffff_fffe 0 false (Exactly 7) ∷
    case (op.Divide SignedRemainderOrDividend) 64 7 0xffff_ffff_ffff_fffe 0 false (Exactly 1) ∷
    case (op.Divide QuotientOrZero) 64 0x8000_0000_0000_0000 0xffff_ffff_ffff_ffff 0 false (Exactly 0) ∷
    case (op.Divide SignedQuotientOrZero) 64 0x8000_0000_0000_0000 0xffff_ffff_ffff_ffff 0 false (Exactly 0x8000_0000_0000_0000) ∷
    case (op.Divide QuotientOrOnes) 64 0x8000_0000_0000_0000 0xffff_ffff_ffff_ffff 0 false (Exactly 0) ∷
    case (op.Divide SignedQuotientOrOnes) 64 0x8000_0000_0000_0000 0xffff_ffff_ffff_ffff 0 false (Exactly 0x8000_0000_0000_0000) ∷
    case (op.Divide RemainderOrDividend) 64 0x8000_0000_0000_0000 0xffff_ffff_ffff_ffff 0 false (Exactly 0x8000_0000_0000_0000) ∷
    case (op.Divide SignedRemainderOrDividend) 64 0x8000_0000_0000_0000 0xffff_ffff_ffff_ffff 0 false (Exactly 0) ∷
    case (op.Divide QuotientOrZero) 64 9 0 0 false (Exactly 0) ∷
    case (op.Divide SignedQuotientOrZero) 64 9 0 0 false (Exactly 0) ∷
    case (op.Divide QuotientOrOnes) 64 9 0 0 false (Exactly 0xffff_ffff_ffff_ffff) ∷
    case (op.Divide SignedQuotientOrOnes) 64 9 0 0 false (Exactly 0xffff_ffff_ffff_ffff) ∷
    case (op.Divide RemainderOrDividend) 64 9 0 0 false (Exactly 9) ∷
    case (op.Divide SignedRemainderOrDividend) 64 9 0 0 false (Exactly 9) ∷
    case (op.Divide QuotientOrZero) 64 0x8000_0000_0000_0000 0 0 false (Exactly 0) ∷
    case (op.Divide SignedQuotientOrZero) 64 0x8000_0000_0000_0000 0 0 false (Exactly 0) ∷
    case (op.Divide QuotientOrOnes) 64 0x8000_0000_0000_0000 0 0 false (Exactly 0xffff_ffff_ffff_ffff) ∷
    case (op.Divide SignedQuotientOrOnes) 64 0x8000_0000_0000_0000 0 0 false (Exactly 0xffff_ffff_ffff_ffff) ∷
    case (op.Divide RemainderOrDividend) 64 0x8000_0000_0000_0000 0 0 false (Exactly 0x8000_0000_0000_0000) ∷
    case (op.Divide SignedRemainderOrDividend) 64 0x8000_0000_0000_0000 0 0 false (Exactly 0x8000_0000_0000_0000) ∷
    case (op.Word word.Add) 64 0x7fff_ffff 1 0 false (Exactly 0xffff_ffff_8000_0000) ∷
    case (op.Word word.Add) 64 0xffff_ffff 1 0 false (Exactly 0) ∷
    case (op.Word word.Add) 64 0x5_0000_0001 2 0 false (Exactly 3) ∷
    case (op.Word word.Subtract) 64 0 1 0 false (Exactly 0xffff_ffff_ffff_ffff) ∷
    case (op.Word word.Subtract) 64 0x8000_0000 1 0 false (Exactly 0x7fff_ffff) ∷
    case (op.Word (word.Shift Left)) 64 1 31 0 false (Exactly 0xffff_ffff_8000_0000) ∷
    case (op.Word (word.Shift Left)) 64 3 32 0 false (Exactly 3) ∷
    case (op.Word (word.Shift Right)) 64 0xffff_ffff_8000_0000 0 0 false (Exactly 0xffff_ffff_8000_0000) ∷
    case (op.Word (word.Shift Right)) 64 0xffff_ffff_8000_0000 4 0 false (Exactly 0x800_0000) ∷
    case (op.Word (word.Shift RightSigned)) 64 0x8000_0000 4 0 false (Exactly 0xffff_ffff_f800_0000) ∷
    case (op.Word word.Multiply) 64 0x1_0001 0x8000 0 false (Exactly 0xffff_ffff_8000_8000) ∷
    case (op.Word word.Multiply) 64 0xffff_ffff 0xffff_ffff 0 false (Exactly 1) ∷
    case (op.Word (word.Divide SignedQuotientOrOnes)) 64 0x8000_0000 0xffff_ffff 0 false (Exactly 0xffff_ffff_8000_0000) ∷
    case (op.Word (word.Divide SignedQuotientOrOnes)) 64 5 0x1_0000_0000 0 false (Exactly 0xffff_ffff_ffff_ffff) ∷
    case (op.Word (word.Divide QuotientOrOnes)) 64 0xffff_fff8 2 0 false (Exactly 0x7fff_fffc) ∷
    case (op.Word (word.Divide QuotientOrOnes)) 64 0xffff_ffff 1 0 false (Exactly 0xffff_ffff_ffff_ffff) ∷
    case (op.Word (word.Divide QuotientOrOnes)) 64 7 0 0 false (Exactly 0xffff_ffff_ffff_ffff) ∷
    case (op.Word (word.Divide SignedRemainderOrDividend)) 64 0xffff_fff9 2 0 false (Exactly 0xffff_ffff_ffff_ffff) ∷
    case (op.Word (word.Divide SignedRemainderOrDividend)) 64 0x8000_0000 0xffff_ffff 0 false (Exactly 0) ∷
    case (op.Word (word.Divide RemainderOrDividend)) 64 0x8000_0001 0 0 false (Exactly 0xffff_ffff_8000_0001) ∷
    case (op.Word (word.Divide RemainderOrDividend)) 64 0xffff_ffff 16 0 false (Exactly 15) ∷
    case op.BitField 64 0x8765_4321_0fed_cba9 60 59 false (Exactly 0x7654_3210_fedc_ba90) ∷
    case op.BitField 64 0x8765_4321_0fed_cba9 4 63 false (Exactly 0x876_5432_10fe_dcba) ∷
    case op.BitField 64 0x8765_4321_0fed_cba9 0 7 false (Exactly 169) ∷
    case op.BitField 64 0x8765_4321_0fed_cba9 8 15 false (Exactly 203) ∷
    case op.BitField 64 0x8765_4321_0fed_cba9 56 3 false (Exactly 0x900) ∷
    case op.BitField 64 0x8765_4321_0fed_cba9 0 63 false (Exactly 0x8765_4321_0fed_cba9) ∷
    case op.SignedBitField 64 0x8765_4321_0fed_cba9 4 63 false (Exactly 0xf876_5432_10fe_dcba) ∷
    case op.SignedBitField 64 0x8765_4321_0fed_cba9 0 7 false (Exactly 0xffff_ffff_ffff_ffa9) ∷
    case op.SignedBitField 64 0x8765_4321_0fed_cba9 0 31 false (Exactly 0xfed_cba9) ∷
    case op.SignedBitField 64 0x8765_4321_0fed_cba9 56 3 false (Exactly 0xffff_ffff_ffff_f900) ∷
    case op.SignedBitField 64 0x8765_4321_0fed_cba9 0 63 false (Exactly 0x8765_4321_0fed_cba9) ∷
    case op.SignedBitField 64 0x8765_4321_0fed_cba9 63 63 false (Exactly 0xffff_ffff_ffff_ffff) ∷
    case op.LowestSet 64 1 0 0 false (Exactly 0) ∷
    case op.LowestSet 64 0x8000_0000_0000_0000 0 0 false (Exactly 63) ∷
    case op.LowestSet 64 160 0 0 false (Exactly 5) ∷
    case op.LowestSet 64 0xffff_ffff_ffff_ffff 0 0 false (Exactly 0) ∷
    case op.LowestSet 64 0 0 0 false (AnyOfBits 64) ∷
    case op.LowestSet 32 1 0 0 false (Exactly 0) ∷
    case op.LowestSet 32 0x8000_0000 0 0 false (Exactly 31) ∷
    case op.LowestSet 32 160 0 0 false (Exactly 5) ∷
    case op.LowestSet 32 0xffff_ffff 0 0 false (Exactly 0) ∷
    case op.LowestSet 32 0 0 0 false (AnyOfBits 64) ∷
    case op.LowestSet 32 0xff_0000_0000 0 0 false (AnyOfBits 64) ∷
    case op.HighestSet 64 1 0 0 false (Exactly 0) ∷
    case op.HighestSet 64 0x8000_0000_0000_0000 0 0 false (Exactly 63) ∷
    case op.HighestSet 64 160 0 0 false (Exactly 7) ∷
    case op.HighestSet 64 0xffff_ffff_ffff_ffff 0 0 false (Exactly 63) ∷
    case op.HighestSet 64 0 0 0 false (AnyOfBits 64) ∷
    case op.HighestSet 32 1 0 0 false (Exactly 0) ∷
    case op.HighestSet 32 0x8000_0000 0 0 false (Exactly 31) ∷
    case op.HighestSet 32 160 0 0 false (Exactly 7) ∷
    case op.HighestSet 32 0xffff_ffff 0 0 false (Exactly 31) ∷
    case op.HighestSet 32 0 0 0 false (AnyOfBits 64) ∷
    case op.CountOnes 64 1 0 0 false (Exactly 1) ∷
    case op.CountOnes 64 0x8000_0000_0000_0000 0 0 false (Exactly 1) ∷
    case op.CountOnes 64 160 0 0 false (Exactly 2) ∷
    case op.CountOnes 64 0xffff_ffff_ffff_ffff 0 0 false (Exactly 64) ∷
    case op.CountOnes 64 0 0 0 false (Exactly 0) ∷
    case op.CountOnes 32 1 0 0 false (Exactly 1) ∷
    case op.CountOnes 32 0x8000_0000 0 0 false (Exactly 1) ∷
    case op.CountOnes 32 160 0 0 false (Exactly 2) ∷
    case op.CountOnes 32 0xffff_ffff 0 0 false (Exactly 32) ∷
    case op.CountOnes 32 0 0 0 false (Exactly 0) ∷
    case op.CountOnes 32 0xff_0000_0001 0 0 false (Exactly 1) ∷
    case op.LeadingZeros 64 0 0 0 false (Exactly 64) ∷
    case op.LeadingZeros 64 1 0 0 false (Exactly 63) ∷
    case op.LeadingZeros 64 0x8000_0000_0000_0000 0 0 false (Exactly 0) ∷
    case op.LeadingZeros 64 0xf0_0000_0000_0000 0 0 false (Exactly 8) ∷
    case op.ReverseBits 64 1 0 0 false (Exactly 0x8000_0000_0000_0000) ∷
    case op.ReverseBits 64 0x8000_0000_0000_0003 0 0 false (Exactly 0xc000_0000_0000_0001) ∷
    case op.ReverseBits 64 0x123_4567_89ab_cdef 0 0 false (Exactly 0xf7b3_d591_e6a2_c480) ∷
    case op.ReverseBytes 64 0x123_4567_89ab_cdef 0 0 false (Exactly 0xefcd_ab89_6745_2301) ∷
    case op.ReverseBytes 32 0xffff_ffff_1234_5678 0 0 false (Exactly 0x7856_3412) ∷
    case op.ReverseBytes 64 255 0 0 false (Exactly 0xff00_0000_0000_0000) ∷
    case (op.Choose cond.Zero) 64 5 9 0 true (Exactly 5) ∷
    case (op.Choose cond.Zero) 32 0x1_0000_0005 0x1_0000_0009 0 true (Exactly 5) ∷
    case (op.Choose cond.Zero) 64 5 9 0 false (Exactly 9) ∷
    case (op.Choose cond.Zero) 32 0x1_0000_0005 0x1_0000_0009 0 false (Exactly 9) ∷
    case (op.ChooseIncrement cond.Zero) 64 5 0xffff_ffff_ffff_ffff 0 true (Exactly 5) ∷
    case (op.ChooseIncrement cond.Zero) 64 5 0xffff_ffff_ffff_ffff 0 false (Exactly 0) ∷
    case (op.ChooseInvert cond.Zero) 64 5 9 0 true (Exactly 5) ∷
    case (op.ChooseInvert cond.Zero) 64 5 9 0 false (Exactly 0xffff_ffff_ffff_fff6) ∷
    case (op.ChooseNegate cond.Zero) 64 5 9 0 true (Exactly 5) ∷
    case (op.ChooseNegate cond.Zero) 64 5 0 0 true (Exactly 5) ∷
    case (op.ChooseNegate cond.Zero) 64 5 9 0 false (Exactly 0xffff_ffff_ffff_fff7) ∷
    case (op.ChooseNegate cond.Zero) 64 5 0 0 false (Exactly 0) ∷
    case (op.SetByte cond.Zero) 64 0x1234_5678_9abc_deff 0 0 true (Exactly 0x1234_5678_9abc_de01) ∷
    case (op.SetByte cond.Zero) 8 0 0 0 true (Exactly 1) ∷
    case (op.SetByte cond.Zero) 64 0x1234_5678_9abc_deff 0 0 false (Exactly 0x1234_5678_9abc_de00) ∷
    case (op.SetByte cond.Zero) 8 0 0 0 false (Exactly 0) ∷
    case op.Any 32 1 2 3 false (AnyOfBits 32) ∷
    case op.Any 64 1 2 3 false (AnyOfBits 64) ∷
    []
