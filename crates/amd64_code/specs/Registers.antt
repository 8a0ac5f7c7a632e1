-- Registers and conditions by their bits.
use Rattle.std.specs.Prelude.{ℕ, Bool, ◌==◌, if◌then◌else◌}
use Rattle.amd64_table.specs.declared.reg.Reg.{Reg}
use Rattle.amd64_table.specs.declared.reg.Reg.TheVariants.{Ax, Cx, Dx, Bx, Sp, Bp, Si, Di, R8, R9, R10, R11, R12, R13, R14, R15}
use Rattle.amd64_table.specs.declared.xmm.Xmm.{Xmm}
use Rattle.amd64_table.specs.declared.xmm.Xmm.TheVariants.{X0, X1, X2, X3, X4, X5, X6, X7, X8, X9, X10, X11, X12, X13, X14, X15}
use Rattle.amd64_table.specs.declared.condition.Cc.{Cc}
use Rattle.amd64_table.specs.declared.condition.Cc.TheVariants.{Over, NotOver, Carry, NotCarry, Zero, NotZero, CarryOrZero, NeitherCarryNorZero, Negative, NotNegative, ParityEven, ParityOdd, Less, GreaterOrEqual, LessOrEqual, Greater}

-- one of two, by a bit
abbrev pub pick : {X : Type 0} → Bool → X → X → X
pick high above below = if high then above else below

-- the general register with this fourth bit and these low three
unfoldable pub reg_at : Bool → ℕ → Reg
reg_at high low =
    if low == 0 then pick high R8 Ax
    else (if low == 1 then pick high R9 Cx
    else (if low == 2 then pick high R10 Dx
    else (if low == 3 then pick high R11 Bx
    else (if low == 4 then pick high R12 Sp
    else (if low == 5 then pick high R13 Bp
    else (if low == 6 then pick high R14 Si
    else pick high R15 Di))))))

-- the X register with these bits
unfoldable pub xmm_at : Bool → ℕ → Xmm
xmm_at high low =
    if low == 0 then pick high X8 X0
    else (if low == 1 then pick high X9 X1
    else (if low == 2 then pick high X10 X2
    else (if low == 3 then pick high X11 X3
    else (if low == 4 then pick high X12 X4
    else (if low == 5 then pick high X13 X5
    else (if low == 6 then pick high X14 X6
    else pick high X15 X7))))))

-- the condition of a number
unfoldable pub cc_at : ℕ → Cc
cc_at number =
    if number == 0 then Over
    else (if number == 1 then NotOver
    else (if number == 2 then Carry
    else (if number == 3 then NotCarry
    else (if number == 4 then Zero
    else (if number == 5 then NotZero
    else (if number == 6 then CarryOrZero
    else (if number == 7 then NeitherCarryNorZero
    else (if number == 8 then Negative
    else (if number == 9 then NotNegative
    else (if number == 10 then ParityEven
    else (if number == 11 then ParityOdd
    else (if number == 12 then Less
    else (if number == 13 then GreaterOrEqual
    else (if number == 14 then LessOrEqual
    else Greater))))))))))))))
