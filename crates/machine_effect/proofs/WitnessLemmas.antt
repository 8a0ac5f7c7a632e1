-- What the letters of a flag rule tell.
use Rattle.std.proofs.Common.{◌≡◌, ℕ, Bool, false, Some, None, refl, inl, inr}
use Rattle.machine_effect.specs.declared.state.Flags.{Flags}
use Rattle.machine_effect.specs.declared.effect.Atom.{Atom}
use Rattle.machine_effect.specs.declared.flag_rule.FlagRule.{FlagRule}
use Rattle.machine_effect.specs.declared.flag_rule.FlagRule.TheVariants as rule
use Rattle.machine_effect.specs.FlagsAfter.{flags_by}
use Rattle.machine_effect.specs.Witness.{clear, free, kept, set, flags_told, is_by_zero, IsTold, AreTold}

keeps : (before : Bool) → IsTold kept before (Some before)
keeps before = inl (refl, refl)

frees : (before : Bool) → IsTold free before None
frees before = inr (inl (refl, refl))

clears : (before : Bool) → IsTold clear before (Some false)
clears before = inr (inr (inl (refl, refl)))

sets : (before after : Bool) → IsTold set before (Some after)
sets before after = inr (inr (inr (refl, refl)))

pub letters_tell : (told : FlagRule) (before : Flags) (atom : Atom → ℕ) → is_by_zero atom told ≡ false
    → AreTold (flags_told told) before (flags_by before atom told)
unfolding flags_by
letters_tell rule.Keep before atom counts =
    record { carry = keeps _; zero = keeps _; sign = keeps _; over = keeps _; parity = keeps _ }
letters_tell rule.Free before atom counts =
    record { carry = frees _; zero = frees _; sign = frees _; over = frees _; parity = frees _ }
letters_tell (rule.Add a b width) before atom counts =
    record { carry = sets _ _; zero = sets _ _; sign = sets _ _; over = sets _ _; parity = sets _ _ }
letters_tell (rule.AddCarry a b width) before atom counts =
    record { carry = sets _ _; zero = sets _ _; sign = sets _ _; over = sets _ _; parity = sets _ _ }
letters_tell (rule.Subtract a b width) before atom counts =
    record { carry = sets _ _; zero = sets _ _; sign = sets _ _; over = sets _ _; parity = sets _ _ }
letters_tell (rule.SubtractBorrow a b width) before atom counts =
    record { carry = sets _ _; zero = sets _ _; sign = sets _ _; over = sets _ _; parity = sets _ _ }
letters_tell (rule.Logic logic a b width) before atom counts =
    record { carry = clears _; zero = sets _ _; sign = sets _ _; over = clears _; parity = sets _ _ }
letters_tell (rule.Increment a width) before atom counts =
    record { carry = keeps _; zero = sets _ _; sign = sets _ _; over = sets _ _; parity = sets _ _ }
letters_tell (rule.Decrement a width) before atom counts =
    record { carry = keeps _; zero = sets _ _; sign = sets _ _; over = sets _ _; parity = sets _ _ }
letters_tell (rule.Shift shift a count width) before atom counts =
    rw counts (record { carry = frees _; zero = sets _ _; sign = sets _ _; over = frees _; parity = sets _ _ })
letters_tell (rule.Rotate count width) before atom counts =
    rw counts (record { carry = frees _; zero = keeps _; sign = keeps _; over = frees _; parity = keeps _ })
letters_tell (rule.Multiply a b width) before atom counts =
    record { carry = sets _ _; zero = frees _; sign = frees _; over = sets _ _; parity = frees _ }
letters_tell (rule.SignedMultiply a b width) before atom counts =
    record { carry = sets _ _; zero = frees _; sign = frees _; over = sets _ _; parity = frees _ }
letters_tell (rule.Scan a width) before atom counts =
    record { carry = frees _; zero = sets _ _; sign = frees _; over = frees _; parity = frees _ }
letters_tell (rule.CountOnes a width) before atom counts =
    record { carry = clears _; zero = sets _ _; sign = clears _; over = clears _; parity = clears _ }
letters_tell (rule.AddShifted a b shift count) before atom counts =
    record { carry = sets _ _; zero = sets _ _; sign = sets _ _; over = sets _ _; parity = keeps _ }
letters_tell (rule.SubtractShifted a b shift count) before atom counts =
    record { carry = sets _ _; zero = sets _ _; sign = sets _ _; over = sets _ _; parity = keeps _ }
letters_tell (rule.AndShifted a b shift count) before atom counts =
    record { carry = clears _; zero = sets _ _; sign = sets _ _; over = clears _; parity = keeps _ }
