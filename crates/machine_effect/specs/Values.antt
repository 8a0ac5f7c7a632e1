-- Atoms, conditions and values in a state. `loaded` is the number that the effect loads, 0 where it loads nothing.
use Rattle.std.specs.Prelude.{ℕ, Bool, ◌/◌, ◌%◌, ◌^◌, ◌==◌, ◌&&◌, ◌||◌, not, nat_lt, int_lt, slice_index}
use Rattle.std.specs.Bool.{beq}
use Rattle.machine_effect.specs.declared.state.State.{State}
use Rattle.machine_effect.specs.declared.state.Flags.{Flags}
use Rattle.machine_effect.specs.declared.effect.Atom.{Atom}
use Rattle.machine_effect.specs.declared.effect.Atom.TheVariants.{Reg, Const, Loaded, Wide}
use Rattle.machine_effect.specs.declared.effect.Value.{Value}
use Rattle.machine_effect.specs.declared.cond.Cond.{Cond}
use Rattle.machine_effect.specs.declared.cond.Cond.TheVariants as cond
use Rattle.machine_effect.specs.Numbers.{signed}
use Rattle.machine_effect.specs.Operations.{Outcome, IsOutcome, operate}

-- the general register of this number
abbrev pub reg_of : State → ℕ → ℕ
reg_of state register = slice_index state.regs register

abbrev pub atom_of : State → ℕ → Atom → ℕ
atom_of state loaded (Reg register) = reg_of state register
atom_of state loaded (Const number) = number
atom_of state loaded Loaded = loaded
atom_of state loaded (Wide register) = slice_index state.wide register

-- the tests that a condition makes of two numbers
abbrev pub equal : ℕ → ℕ → ℕ → Bool
equal w a b = a % 2 ^ w == b % 2 ^ w

abbrev pub signed_below : ℕ → ℕ → ℕ → Bool
signed_below w a b = int_lt (signed w a) (signed w b)

abbrev pub below : ℕ → ℕ → ℕ → Bool
below w a b = nat_lt (a % 2 ^ w) (b % 2 ^ w)

abbrev pub is_bit_set : ℕ → ℕ → Bool
is_bit_set a bit = a / 2 ^ bit % 2 == 1

-- whether a condition holds, by the flags and the atoms
unfoldable pub holds_by : Flags → (Atom → ℕ) → Cond → Bool
holds_by flags atom cond.Carry = flags.carry
holds_by flags atom cond.NoCarry = not flags.carry
holds_by flags atom cond.Zero = flags.zero
holds_by flags atom cond.NotZero = not flags.zero
holds_by flags atom cond.Negative = flags.sign
holds_by flags atom cond.NotNegative = not flags.sign
holds_by flags atom cond.Over = flags.over
holds_by flags atom cond.NotOver = not flags.over
holds_by flags atom cond.ParityEven = flags.parity
holds_by flags atom cond.ParityOdd = not flags.parity
holds_by flags atom cond.CarryOrZero = flags.carry || flags.zero
holds_by flags atom cond.NeitherCarryNorZero = not (flags.carry || flags.zero)
holds_by flags atom cond.CarryNotZero = flags.carry && not flags.zero
holds_by flags atom cond.NoCarryOrZero = not flags.carry || flags.zero
holds_by flags atom cond.Less = not (beq flags.sign flags.over)
holds_by flags atom cond.GreaterOrEqual = beq flags.sign flags.over
holds_by flags atom cond.LessOrEqual = flags.zero || not (beq flags.sign flags.over)
holds_by flags atom cond.Greater = not (flags.zero || not (beq flags.sign flags.over))
holds_by flags atom (cond.Equal a b w) = equal w (atom a) (atom b)
holds_by flags atom (cond.NotEqual a b w) = not (equal w (atom a) (atom b))
holds_by flags atom (cond.SignedBelow a b w) = signed_below w (atom a) (atom b)
holds_by flags atom (cond.SignedNotBelow a b w) = not (signed_below w (atom a) (atom b))
holds_by flags atom (cond.Below a b w) = below w (atom a) (atom b)
holds_by flags atom (cond.NotBelow a b w) = not (below w (atom a) (atom b))
holds_by flags atom (cond.BitSet a bit) = is_bit_set (atom a) bit
holds_by flags atom (cond.BitClear a bit) = not (is_bit_set (atom a) bit)

abbrev pub holds : State → ℕ → Cond → Bool
holds state loaded = holds_by state.flags (atom_of state loaded)

-- what a value may be
abbrev pub outcome_of : State → ℕ → Value → Outcome
outcome_of state loaded value =
    operate (holds state loaded) state.flags.carry value.op value.width
    (atom_of state loaded value.a) (atom_of state loaded value.b) (atom_of state loaded value.c)

-- the value may be this number
abbrev pub Gives : State → ℕ → Value → ℕ → Type 0
Gives state loaded value x = IsOutcome (outcome_of state loaded value) x
