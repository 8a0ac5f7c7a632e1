-- The five flags after an instruction. What a manual leaves undefined is free: any value is allowed.
use Rattle.std.specs.Prelude.{◌≡◌, ℕ, pos, Bool, true, false, ◌+◌, ◌*◌, ◌+ℤ◌, ◌-ℤ◌, ◌*ℤ◌, ◌%◌, ◌^◌, ◌==◌, not, nat_lt, nat_le, Option, Some, None, IfSome, if◌then◌else◌}
use Rattle.std.specs.Option.{option_map}
use lib.Count.{ones_in}
use Rattle.machine_effect.specs.declared.state.State.{State}
use Rattle.machine_effect.specs.declared.state.Flags.{Flags}
use Rattle.machine_effect.specs.declared.effect.Atom.{Atom}
use Rattle.machine_effect.specs.declared.flag_rule.FlagRule.{FlagRule}
use Rattle.machine_effect.specs.declared.flag_rule.FlagRule.TheVariants as rule
use Rattle.machine_effect.specs.declared.op.Logic.TheVariants.{And}
use Rattle.machine_effect.specs.Numbers.{signed, fits}
use Rattle.machine_effect.specs.Operations.{bit_of, difference, logic_of, shifted}
use Rattle.machine_effect.specs.Values.{atom_of}

-- what each flag may be: one value, or none named where it is free
pub record FlagChoice : Type 0 where
  pub carry : Option Bool
  pub zero : Option Bool
  pub sign : Option Bool
  pub over : Option Bool
  pub parity : Option Bool

abbrev pub kept : Flags → FlagChoice
kept flags = record {
  carry = Some flags.carry;
  zero = Some flags.zero;
  sign = Some flags.sign;
  over = Some flags.over;
  parity = Some flags.parity;
}

abbrev pub all_free : FlagChoice
all_free = record { carry = None; zero = None; sign = None; over = None; parity = None }

-- the highest of w bits is set
abbrev pub sign_of : ℕ → ℕ → Bool
sign_of w result = nat_le (2 ^ w) (2 * (result % 2 ^ w))

-- the lowest byte has an even number of ones
abbrev pub parity_of : ℕ → Bool
parity_of result = ones_in 8 result % 2 == 0

-- zero, sign and parity by a result of w bits, beside what carry and over may be
abbrev pub by_result : ℕ → ℕ → Option Bool → Option Bool → FlagChoice
by_result w result carry over = record {
  carry = carry;
  zero = Some (result == 0);
  sign = Some (sign_of w result);
  over = over;
  parity = Some (parity_of result);
}

abbrev pub sum_flags : ℕ → ℕ → ℕ → Bool → FlagChoice
sum_flags w a b carry =
    by_result w ((a + b + bit_of carry) % 2 ^ w)
    (Some (nat_le (2 ^ w) (a % 2 ^ w + b % 2 ^ w + bit_of carry)))
    (Some (not (fits w (signed w a +ℤ signed w b +ℤ pos (bit_of carry)))))

abbrev pub difference_flags : ℕ → ℕ → ℕ → Bool → FlagChoice
difference_flags w a b borrow =
    by_result w (difference w a b (bit_of borrow))
    (Some (nat_lt (a % 2 ^ w) (b % 2 ^ w + bit_of borrow)))
    (Some (not (fits w (signed w a -ℤ signed w b -ℤ pos (bit_of borrow)))))

abbrev pub keep_carry : Flags → FlagChoice → FlagChoice
keep_carry flags choice = record choice { carry = Some flags.carry }

-- arm64 has no parity flag
abbrev pub keep_parity : Flags → FlagChoice → FlagChoice
keep_parity flags choice = record choice { parity = Some flags.parity }

abbrev pub invert_carry : FlagChoice → FlagChoice
invert_carry choice = record choice { carry = option_map not choice.carry }

abbrev pub product_flags : Bool → FlagChoice
product_flags large = record { carry = Some large; zero = None; sign = None; over = Some large; parity = None }

-- what the flags may be, by the atoms
unfoldable pub flags_by : Flags → (Atom → ℕ) → FlagRule → FlagChoice
flags_by flags atom rule.Keep = kept flags
flags_by flags atom rule.Free = all_free
flags_by flags atom (rule.Add a b w) = sum_flags w (atom a) (atom b) false
flags_by flags atom (rule.AddCarry a b w) = sum_flags w (atom a) (atom b) flags.carry
flags_by flags atom (rule.Subtract a b w) = difference_flags w (atom a) (atom b) false
flags_by flags atom (rule.SubtractBorrow a b w) = difference_flags w (atom a) (atom b) flags.carry
flags_by flags atom (rule.Logic logic a b w) = by_result w (logic_of logic w (atom a) (atom b)) (Some false) (Some false)
flags_by flags atom (rule.Increment a w) = keep_carry flags (sum_flags w (atom a) 1 false)
flags_by flags atom (rule.Decrement a w) = keep_carry flags (difference_flags w (atom a) 1 false)
flags_by flags atom (rule.Shift shift a count w) =
    if atom count % w == 0 then kept flags else by_result w (shifted shift w (atom a) (atom count)) None None
flags_by flags atom (rule.Rotate count w) =
    if atom count % w == 0 then kept flags else record (kept flags) { carry = None; over = None }
flags_by flags atom (rule.Multiply a b w) = product_flags (nat_le (2 ^ w) (atom a % 2 ^ w * (atom b % 2 ^ w)))
flags_by flags atom (rule.SignedMultiply a b w) =
    product_flags (not (fits w (signed w (atom a) *ℤ signed w (atom b))))
flags_by flags atom (rule.Scan a w) = record all_free { zero = Some (atom a % 2 ^ w == 0) }
flags_by flags atom (rule.CountOnes a w) = record {
  carry = Some false;
  zero = Some (atom a % 2 ^ w == 0);
  sign = Some false;
  over = Some false;
  parity = Some false;
}
flags_by flags atom (rule.AddShifted a b shift count) =
    keep_parity flags (sum_flags 64 (atom a) (shifted shift 64 (atom b) count) false)
flags_by flags atom (rule.SubtractShifted a b shift count) =
    keep_parity flags (invert_carry (difference_flags 64 (atom a) (shifted shift 64 (atom b) count) false))
flags_by flags atom (rule.AndShifted a b shift count) =
    keep_parity flags (by_result 64 (logic_of And 64 (atom a) (shifted shift 64 (atom b) count)) (Some false) (Some false))

-- a flag is what was named, or anything
abbrev pub IsChoice : Option Bool → Bool → Type 0
IsChoice choice flag = IfSome choice (λ named. flag ≡ named)

pub record IsFlagChoice (choice : FlagChoice) (flags : Flags) : Type 0 where
  pub carry : IsChoice choice.carry flags.carry
  pub zero : IsChoice choice.zero flags.zero
  pub sign : IsChoice choice.sign flags.sign
  pub over : IsChoice choice.over flags.over
  pub parity : IsChoice choice.parity flags.parity

-- the flags may be these after a rule
abbrev pub FlagsAfter : State → ℕ → FlagRule → Flags → Type 0
FlagsAfter before loaded rule after = IsFlagChoice (flags_by before.flags (atom_of before loaded) rule) after

-- whether a rule sets all five flags: it leaves none free and keeps none
abbrev pub sets_all_five : FlagRule → Bool
sets_all_five (rule.Add a b w) = true
sets_all_five (rule.AddCarry a b w) = true
sets_all_five (rule.Subtract a b w) = true
sets_all_five (rule.SubtractBorrow a b w) = true
sets_all_five (rule.Logic logic a b w) = true
sets_all_five (rule.CountOnes a w) = true
sets_all_five _ = false
