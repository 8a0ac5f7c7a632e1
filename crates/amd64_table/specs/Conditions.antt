-- The sixteen condition codes.
use Rattle.std.specs.Prelude.{ℕ, List, codes}
use Rattle.machine_effect.specs.declared.cond.Cond.{Cond}
use Rattle.machine_effect.specs.declared.cond.Cond.TheVariants as cond
use Rattle.amd64_table.specs.declared.condition.Cc.{Cc}
use Rattle.amd64_table.specs.declared.condition.Cc.TheVariants.{Over, NotOver, Carry, NotCarry, Zero, NotZero, CarryOrZero, NeitherCarryNorZero, Negative, NotNegative, ParityEven, ParityOdd, Less, GreaterOrEqual, LessOrEqual, Greater}

-- a condition's number in spellings
unfoldable pub cc_number : Cc → ℕ
cc_number Over = 0
cc_number NotOver = 1
cc_number Carry = 2
cc_number NotCarry = 3
cc_number Zero = 4
cc_number NotZero = 5
cc_number CarryOrZero = 6
cc_number NeitherCarryNorZero = 7
cc_number Negative = 8
cc_number NotNegative = 9
cc_number ParityEven = 10
cc_number ParityOdd = 11
cc_number Less = 12
cc_number GreaterOrEqual = 13
cc_number LessOrEqual = 14
cc_number Greater = 15

-- its name in Go's assembler
unfoldable pub cc_text : Cc → List ℕ
cc_text Over = codes "OS"
cc_text NotOver = codes "OC"
cc_text Carry = codes "CS"
cc_text NotCarry = codes "CC"
cc_text Zero = codes "EQ"
cc_text NotZero = codes "NE"
cc_text CarryOrZero = codes "LS"
cc_text NeitherCarryNorZero = codes "HI"
cc_text Negative = codes "MI"
cc_text NotNegative = codes "PL"
cc_text ParityEven = codes "PS"
cc_text ParityOdd = codes "PC"
cc_text Less = codes "LT"
cc_text GreaterOrEqual = codes "GE"
cc_text LessOrEqual = codes "LE"
cc_text Greater = codes "GT"

-- when it holds, by the flags
unfoldable pub cond_of : Cc → Cond
cond_of Over = cond.Over
cond_of NotOver = cond.NotOver
cond_of Carry = cond.Carry
cond_of NotCarry = cond.NoCarry
cond_of Zero = cond.Zero
cond_of NotZero = cond.NotZero
cond_of CarryOrZero = cond.CarryOrZero
cond_of NeitherCarryNorZero = cond.NeitherCarryNorZero
cond_of Negative = cond.Negative
cond_of NotNegative = cond.NotNegative
cond_of ParityEven = cond.ParityEven
cond_of ParityOdd = cond.ParityOdd
cond_of Less = cond.Less
cond_of GreaterOrEqual = cond.GreaterOrEqual
cond_of LessOrEqual = cond.LessOrEqual
cond_of Greater = cond.Greater
