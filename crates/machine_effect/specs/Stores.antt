-- What is said of the memory of a state, and of what a step leaves of it.
use Rattle.std.specs.Prelude.{◌≡◌, ℕ, ◌+◌, ◌*◌, ◌^◌, ◌<◌, ◌≤◌, ◌⊎◌, Option, Some, None}
use Rattle.machine_effect.specs.declared.state.State.{State}
use Rattle.machine_effect.specs.declared.effect.Effect.{Effect}
use Rattle.machine_effect.specs.declared.effect.Access.{Access}
use Rattle.machine_effect.specs.declared.effect.Value.{Value}
use Rattle.machine_effect.specs.Memory.{Memory, byte_at, number_at}
use Rattle.machine_effect.specs.Applies.{Applies, address_of}

-- a number in this many bytes of the state's memory has no more bits than they have
abbrev pub HasLowNumbers : State → ℕ → Type 0
HasLowNumbers state width = (at number : ℕ) → number_at state.mem at width ≡ Some number → number < 2 ^ (8 * width)

-- these many bytes from an address on are as before
abbrev pub BytesStay : Memory → Memory → ℕ → ℕ → Type 0
BytesStay before after at count = (k : ℕ) → k < count → byte_at after (at + k) ≡ byte_at before (at + k)

-- what is stored ends at this address or below, or begins behind this many bytes from it on
abbrev pub StoreMisses : State → ℕ → Option (Access × Value) → ℕ → ℕ → Type 0
StoreMisses state loaded None at count = Unit {0}
StoreMisses state loaded (Some store) at count =
    (address_of state loaded store.0 + store.0.width ≤ at) ⊎ (at + count ≤ address_of state loaded store.0)

-- each step leaves the bytes that its store misses
abbrev pub LeavesMissed : Effect → Type 0
LeavesMissed effect =
    (past : ℕ) (before after : State) (at count : ℕ) (applies : Applies effect past before after)
    → StoreMisses before applies.loaded effect.store at count → BytesStay before.mem after.mem at count

-- each step by this load loads the number that stands at its address
abbrev pub LoadsNumber : Effect → Access → Type 0
LoadsNumber effect access =
    (past : ℕ) (before after : State) (applies : Applies effect past before after)
    → number_at before.mem (address_of before 0 access) access.width ≡ Some applies.loaded
