-- A second witness for effects: runs of single instructions on a processor, or told by a manual's words, and the test that an effect
-- allows just what was seen; and what a manual's table of flags says of a flag rule.
use Rattle.std.specs.Prelude.{◌≡◌, ◌⊎◌, ℕ, Bool, true, false, List, [], ◌∷◌, ◌+◌, ◌-◌, ◌*◌, ◌/◌, ◌%◌, ◌^◌, ◌==◌, ◌&&◌, not, nat_le, nat_lt, replicate, slice_index, slice_set, codes, Option, Some, None, IsSome, if◌then◌else◌}
use Rattle.std.specs.Bool.{beq}
use Rattle.std.specs.Option.{option_map, option_and_then}
use Rattle.std.specs.List.{list_any}
use Rattle.std.specs.Str.{bytes_eq}
use Rattle.std.specs.FinMap as map
use Rattle.machine_effect.specs.declared.state.State.{State}
use Rattle.machine_effect.specs.declared.state.Flags.{Flags}
use Rattle.machine_effect.specs.declared.effect.Atom.{Atom}
use Rattle.machine_effect.specs.declared.effect.Effect.{Effect}
use Rattle.machine_effect.specs.declared.effect.Access.{Access}
use Rattle.machine_effect.specs.declared.effect.Value.{Value}
use Rattle.machine_effect.specs.declared.flag_rule.FlagRule.{FlagRule}
use Rattle.machine_effect.specs.declared.flag_rule.FlagRule.TheVariants as rule
use Rattle.machine_effect.specs.declared.next.Next.{Next}
use Rattle.machine_effect.specs.declared.next.Next.TheVariants as next
use Rattle.machine_effect.specs.Operations.{Outcome, Exactly, AnyOfBits, Fails}
use Rattle.machine_effect.specs.Values.{atom_of, holds, outcome_of}
use Rattle.machine_effect.specs.FlagsAfter.{FlagChoice, flags_by}
use Rattle.machine_effect.specs.Applies.{address_of, link_of, with_link, with_wide}

-- the general registers and the X registers that are named, by number; sixteen bytes of memory as one number, lowest byte first; and
-- carry, zero, sign, over and parity as five letters: `-` where the flag is clear, `?` where the manual leaves it free, and another
-- letter where it is set
pub record Seen : Type 0 where
  pub regs : List (ℕ × ℕ)
  pub wide : List (ℕ × ℕ)
  pub bytes : ℕ
  pub flags : List ℕ

-- a run of an instruction that ends at `past`. The registers that aren't named before are 0, and those that aren't named after stay
pub record Run : Type 0 where
  pub effect : Effect
  pub past : ℕ
  -- where the sixteen bytes stand
  pub at : ℕ
  pub before : Seen
  pub after : Seen
  -- the registers that the manual leaves free
  pub free : List ℕ
  -- where the machine went on: behind the instruction, or by a jump, a call, a return, a system call or a stop
  pub goes : Next

-- the codes of the letters `-`, `?`, `k` and `s`
abbrev pub clear : ℕ
clear = 45

abbrev pub free : ℕ
free = 63

abbrev pub kept : ℕ
kept = 107

abbrev pub set : ℕ
set = 115

abbrev is_set : List ℕ → ℕ → Bool
is_set letters k = not (slice_index letters k == clear)

abbrev with_numbers : List (ℕ × ℕ) → List ℕ → List ℕ
with_numbers [] regs = regs
with_numbers (named ∷ rest) regs = with_numbers rest (slice_set regs named.0 named.1)

abbrev state_of : Seen → State
state_of seen = record {
  pc = 0;
  regs = with_numbers seen.regs (replicate 33 0);
  wide = with_numbers seen.wide (replicate 16 0);
  flags = record {
    carry = is_set seen.flags 0;
    zero = is_set seen.flags 1;
    sign = is_set seen.flags 2;
    over = is_set seen.flags 3;
    parity = is_set seen.flags 4;
  };
  mem = map.empty;
}

-- where among the sixteen bytes an access begins
abbrev place_of : ℕ → ℕ → ℕ → Option ℕ
place_of at address width = if nat_le at address && nat_le (address + width) (at + 16) then Some (address - at) else None

abbrev access_place : Run → State → Access → Option ℕ
access_place run state access = place_of run.at (address_of state 0 access) access.width

-- this many bytes from a place on, and the bytes with others in their stead
abbrev part : ℕ → ℕ → ℕ → ℕ
part bytes width place = bytes / 2 ^ (8 * place) % 2 ^ (8 * width)

abbrev with_part : ℕ → ℕ → ℕ → ℕ → ℕ
with_part bytes width x place = bytes - part bytes width place * 2 ^ (8 * place) + x % 2 ^ (8 * width) * 2 ^ (8 * place)

abbrev loaded_by : Run → State → Option Access → Option ℕ
loaded_by run state None = Some 0
loaded_by run state (Some access) = option_map (part run.before.bytes access.width) (access_place run state access)

abbrev is_free : Run → ℕ → Bool
is_free run register = list_any (λ named. named == register) run.free

-- the number of an outcome; where the manual leaves the register free, and only there, the one that was seen
abbrev allowed : Bool → Outcome → ℕ → Option ℕ
allowed free (Exactly n) x = if free then None else Some n
allowed free (AnyOfBits w) x = if free && nat_lt x (2 ^ w) then Some x else None
allowed free Fails x = None

-- the registers after the writes
abbrev written : Run → State → ℕ → List ℕ → List (ℕ × Value) → List ℕ → Option (List ℕ)
written run state loaded wanted [] regs = Some regs
written run state loaded wanted (write ∷ writes) regs =
    option_and_then (λ x. written run state loaded wanted writes (slice_set regs write.0 (x % 2 ^ 64)))
    (allowed (is_free run write.0) (outcome_of state loaded write.1) (slice_index wanted write.0))

-- the bytes after the store
abbrev stored : Run → State → ℕ → Option (Access × Value) → Option ℕ
stored run state loaded None = Some run.before.bytes
stored run state loaded (Some store) =
    option_and_then (λ x. option_map (with_part run.before.bytes store.0.width x) (access_place run state store.0))
    (allowed false (outcome_of state loaded store.1) 0)

abbrev is_flag : ℕ → Option Bool → Bool
is_flag letter None = letter == free
is_flag letter (Some named) = not (letter == free) && beq named (not (letter == clear))

abbrev are_flags : List ℕ → FlagChoice → Bool
are_flags letters choice =
    is_flag (slice_index letters 0) choice.carry && is_flag (slice_index letters 1) choice.zero
    && is_flag (slice_index letters 2) choice.sign && is_flag (slice_index letters 3) choice.over
    && is_flag (slice_index letters 4) choice.parity

-- where the machine goes on in a state
abbrev pub resolved : State → ℕ → Next → Next
resolved state loaded (next.Branch held goal) = if holds state loaded held then next.Jump goal else next.Fall
resolved state loaded (next.JumpTo goal) = next.Jump (atom_of state loaded goal)
resolved state loaded (next.CallTo goal link) = next.Call (atom_of state loaded goal) link
resolved state loaded other = other

abbrev is_next : Next → Next → Bool
is_next next.Fall next.Fall = true
is_next (next.Jump goal) (next.Jump other) = goal == other
is_next (next.Call goal link) (next.Call other _) = goal == other
is_next next.Return next.Return = true
is_next next.System next.System = true
is_next next.Stop next.Stop = true
is_next _ _ = false

abbrev are_same : List ℕ → Option (List ℕ) → Bool
are_same wanted None = false
are_same wanted (Some regs) = bytes_eq regs wanted

abbrev is_same : ℕ → Option ℕ → Bool
is_same wanted None = false
is_same wanted (Some bytes) = bytes == wanted

abbrev agrees : Run → Effect → State → Option ℕ → Bool
agrees run effect state None = false
agrees run effect state (Some loaded) =
    are_same (with_numbers run.after.regs state.regs)
    (option_map (with_link (link_of effect.next) run.past)
    (written run state loaded (with_numbers run.after.regs state.regs) effect.writes.items state.regs))
    && bytes_eq (with_wide state loaded effect.wide) (with_numbers run.after.wide state.wide)
    && is_same run.after.bytes (stored run state loaded effect.store)
    && are_flags run.after.flags (flags_by state.flags (atom_of state loaded) effect.flags)
    && is_next (resolved state loaded effect.next) run.goes

-- the effect allows what was seen, and nothing else but where the manual leaves a flag or a register free
abbrev pub is_allowed : Run → Bool
is_allowed run =
    agrees run run.effect (state_of run.before) (loaded_by run (state_of run.before) run.effect.load)

-- what a rule does to carry, zero, sign, over and parity, in five letters: `s` set by the result, `k` kept, `-` cleared, `?` free. Of
-- a shift and a rotation with a count that isn't 0; with 0 they keep all
abbrev pub flags_told : FlagRule → List ℕ
flags_told rule.Keep = codes "kkkkk"
flags_told rule.Free = codes "?????"
flags_told (rule.Add a b width) = codes "sssss"
flags_told (rule.AddCarry a b width) = codes "sssss"
flags_told (rule.Subtract a b width) = codes "sssss"
flags_told (rule.SubtractBorrow a b width) = codes "sssss"
flags_told (rule.Logic logic a b width) = codes "-ss-s"
flags_told (rule.Increment a width) = codes "kssss"
flags_told (rule.Decrement a width) = codes "kssss"
flags_told (rule.Shift shift a count width) = codes "?ss?s"
flags_told (rule.Rotate count width) = codes "?kk?k"
flags_told (rule.Multiply a b width) = codes "s??s?"
flags_told (rule.SignedMultiply a b width) = codes "s??s?"
flags_told (rule.Scan a width) = codes "?s???"
flags_told (rule.CountOnes a width) = codes "-s---"
flags_told (rule.AddShifted a b shift count) = codes "ssssk"
flags_told (rule.SubtractShifted a b shift count) = codes "ssssk"
flags_told (rule.AndShifted a b shift count) = codes "-ss-k"

-- a letter tells what a flag may be, which was so before
abbrev pub IsTold : ℕ → Bool → Option Bool → Type 0
IsTold letter before choice =
    ((letter ≡ kept) × (choice ≡ Some before))
    ⊎ (((letter ≡ free) × (choice ≡ None))
    ⊎ (((letter ≡ clear) × (choice ≡ Some false))
    ⊎ ((letter ≡ set) × IsSome choice)))

pub record AreTold (letters : List ℕ) (before : Flags) (choice : FlagChoice) : Type 0 where
  pub carry : IsTold (slice_index letters 0) before.carry choice.carry
  pub zero : IsTold (slice_index letters 1) before.zero choice.zero
  pub sign : IsTold (slice_index letters 2) before.sign choice.sign
  pub over : IsTold (slice_index letters 3) before.over choice.over
  pub parity : IsTold (slice_index letters 4) before.parity choice.parity

-- a shift or a rotation by a count of 0
abbrev pub is_by_zero : (Atom → ℕ) → FlagRule → Bool
is_by_zero atom (rule.Shift shift a count width) = atom count % width == 0
is_by_zero atom (rule.Rotate count width) = atom count % width == 0
is_by_zero atom _ = false
