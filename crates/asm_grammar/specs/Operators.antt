-- Operators on numbers of 64 bits. Sums, differences and products wrap; `/`, `%` and `>>` are unsigned; a shift by 64 or
-- more gives 0.
use Rattle.std.specs.Prelude.{ℕ, Bool, List, ◌+◌, ◌-◌, ◌*◌, ◌/◌, ◌%◌, ◌^◌, ◌==◌, ◌||◌, nat_lt, bit_and, bit_or, bit_xor, bytes_eq, codes, Option, Some, None, if◌then◌else◌}
use Rattle.std.specs.Int.{w64, bit_not}
use Rattle.asm_grammar.specs.declared.operator.Operator.{Operator}
use Rattle.asm_grammar.specs.declared.operator.Operator.TheVariants.{Add, Sub, Or, Xor, Mul, Div, Rem, Shl, Shr, And}
use Rattle.asm_grammar.specs.declared.operator.Group.{Group}
use Rattle.asm_grammar.specs.declared.operator.Group.TheVariants.{Sum, Product}

abbrev pub sum_operator : List ℕ → Option Operator
sum_operator sign =
    if bytes_eq sign (codes "+") then Some Add
    else (if bytes_eq sign (codes "-") then Some Sub
    else (if bytes_eq sign (codes "|") then Some Or
    else (if bytes_eq sign (codes "^") then Some Xor
    else None)))

abbrev pub product_operator : List ℕ → Option Operator
product_operator sign =
    if bytes_eq sign (codes "*") then Some Mul
    else (if bytes_eq sign (codes "/") then Some Div
    else (if bytes_eq sign (codes "%") then Some Rem
    else (if bytes_eq sign (codes "<<") then Some Shl
    else (if bytes_eq sign (codes ">>") then Some Shr
    else (if bytes_eq sign (codes "&") then Some And
    else None)))))

-- the operator of a group that a sign is
abbrev pub operator_of : Group → List ℕ → Option Operator
operator_of Sum sign = sum_operator sign
operator_of Product sign = product_operator sign

abbrev pub quotient : ℕ → ℕ → Option ℕ
quotient left right = if right == 0 then None else Some (left / right)

abbrev pub remainder : ℕ → ℕ → Option ℕ
remainder left right = if right == 0 then None else Some (left % right)

abbrev pub shifted_left : ℕ → ℕ → ℕ
shifted_left left right = if nat_lt right 64 then (left * 2 ^ right) % 2 ^ 64 else 0

abbrev pub shifted_right : ℕ → ℕ → ℕ
shifted_right left right = if nat_lt right 64 then left / 2 ^ right else 0

-- the value of an operation; `None` where the divisor is 0
abbrev pub applied : Operator → ℕ → ℕ → Option ℕ
applied Add left right = Some ((left + right) % 2 ^ 64)
applied Sub left right = Some ((left + (2 ^ 64 - right)) % 2 ^ 64)
applied Or left right = Some (bit_or left right)
applied Xor left right = Some (bit_xor left right)
applied Mul left right = Some ((left * right) % 2 ^ 64)
applied Div left right = quotient left right
applied Rem left right = remainder left right
applied Shl left right = Some (shifted_left left right)
applied Shr left right = Some (shifted_right left right)
applied And left right = Some (bit_and left right)

-- the value behind a sign that stands before it
abbrev pub prefixed : ℕ → List ℕ → ℕ
prefixed value sign =
    if bytes_eq sign (codes "-") then (2 ^ 64 - value) % 2 ^ 64
    else (if bytes_eq sign (codes "~") then bit_not w64 value
    else value)

abbrev pub is_prefix : List ℕ → Bool
is_prefix sign = bytes_eq sign (codes "+") || bytes_eq sign (codes "-") || bytes_eq sign (codes "~")
