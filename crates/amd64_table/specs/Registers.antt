-- Registers by number and by name.
use Rattle.std.specs.Prelude.{Bool, nat_le, ◌%◌, ℕ, List, codes}
use Rattle.amd64_table.specs.declared.reg.Reg.{Reg}
use Rattle.amd64_table.specs.declared.reg.Reg.TheVariants.{Ax, Cx, Dx, Bx, Sp, Bp, Si, Di, R8, R9, R10, R11, R12, R13, R14, R15}
use Rattle.amd64_table.specs.declared.xmm.Xmm.{Xmm}
use Rattle.amd64_table.specs.declared.xmm.Xmm.TheVariants.{X0, X1, X2, X3, X4, X5, X6, X7, X8, X9, X10, X11, X12, X13, X14, X15}

-- a general register's number, in spellings and in the state of a machine
unfoldable pub number_of : Reg → ℕ
number_of Ax = 0
number_of Cx = 1
number_of Dx = 2
number_of Bx = 3
number_of Sp = 4
number_of Bp = 5
number_of Si = 6
number_of Di = 7
number_of R8 = 8
number_of R9 = 9
number_of R10 = 10
number_of R11 = 11
number_of R12 = 12
number_of R13 = 13
number_of R14 = 14
number_of R15 = 15

-- an X register's number
unfoldable pub xmm_number : Xmm → ℕ
xmm_number X0 = 0
xmm_number X1 = 1
xmm_number X2 = 2
xmm_number X3 = 3
xmm_number X4 = 4
xmm_number X5 = 5
xmm_number X6 = 6
xmm_number X7 = 7
xmm_number X8 = 8
xmm_number X9 = 9
xmm_number X10 = 10
xmm_number X11 = 11
xmm_number X12 = 12
xmm_number X13 = 13
xmm_number X14 = 14
xmm_number X15 = 15

-- the three bits of a number that stand in ModRM, SIB or the opcode
abbrev pub low_bits : Reg → ℕ
low_bits reg = number_of reg % 8

-- whether the number has a fourth bit, which stands in REX
abbrev pub is_high : Reg → Bool
is_high reg = nat_le 8 (number_of reg)

-- as an operand of one byte a register needs REX from SP on; without it the numbers 4 to 7 name the second bytes of AX to BX
abbrev pub is_byte_high : Reg → Bool
is_byte_high reg = nat_le 4 (number_of reg)

abbrev pub low_bits_xmm : Xmm → ℕ
low_bits_xmm xmm = xmm_number xmm % 8

abbrev pub is_high_xmm : Xmm → Bool
is_high_xmm xmm = nat_le 8 (xmm_number xmm)

-- the names in Go's assembler
unfoldable pub reg_text : Reg → List ℕ
reg_text Ax = codes "AX"
reg_text Cx = codes "CX"
reg_text Dx = codes "DX"
reg_text Bx = codes "BX"
reg_text Sp = codes "SP"
reg_text Bp = codes "BP"
reg_text Si = codes "SI"
reg_text Di = codes "DI"
reg_text R8 = codes "R8"
reg_text R9 = codes "R9"
reg_text R10 = codes "R10"
reg_text R11 = codes "R11"
reg_text R12 = codes "R12"
reg_text R13 = codes "R13"
reg_text R14 = codes "R14"
reg_text R15 = codes "R15"

unfoldable pub xmm_text : Xmm → List ℕ
xmm_text X0 = codes "X0"
xmm_text X1 = codes "X1"
xmm_text X2 = codes "X2"
xmm_text X3 = codes "X3"
xmm_text X4 = codes "X4"
xmm_text X5 = codes "X5"
xmm_text X6 = codes "X6"
xmm_text X7 = codes "X7"
xmm_text X8 = codes "X8"
xmm_text X9 = codes "X9"
xmm_text X10 = codes "X10"
xmm_text X11 = codes "X11"
xmm_text X12 = codes "X12"
xmm_text X13 = codes "X13"
xmm_text X14 = codes "X14"
xmm_text X15 = codes "X15"
