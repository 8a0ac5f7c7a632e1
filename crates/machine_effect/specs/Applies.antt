-- What an effect does to a state.
use Rattle.std.specs.Prelude.{◌≡◌, ℕ, List, [], ◌∷◌, ◌+◌, ◌*◌, ◌%◌, ◌^◌, ◌<◌, length, slice_index, slice_set, bit_xor, Option, Some, None}
use Rattle.machine_effect.specs.declared.state.State.{State}
use Rattle.machine_effect.specs.declared.effect.Effect.{Effect}
use Rattle.machine_effect.specs.declared.effect.Access.{Access}
use Rattle.machine_effect.specs.declared.effect.Value.{Value}
use Rattle.machine_effect.specs.declared.effect.WideValue.{WideValue}
use Rattle.machine_effect.specs.declared.effect.WideValue.TheVariants.{Loaded, Xor}
use Rattle.machine_effect.specs.declared.next.Next.{Next}
use Rattle.machine_effect.specs.declared.next.Next.TheVariants as next
use Rattle.machine_effect.specs.Numbers.{unsigned}
use Rattle.machine_effect.specs.Memory.{Memory, byte_at, number_at, bytes_of, IsMapped, put}
use Rattle.machine_effect.specs.Values.{atom_of, Gives}
use Rattle.machine_effect.specs.FlagsAfter.{FlagsAfter}

-- the numbers of a state have their widths
pub record IsState (state : State) : Type 0 where
  pub pc : state.pc < 2 ^ 64
  pub regs_len : length state.regs ≡ 33
  pub regs : (r : ℕ) → slice_index state.regs r < 2 ^ 64
  pub wide_len : length state.wide ≡ 16
  pub wide : (r : ℕ) → slice_index state.wide r < 2 ^ 128
  pub addresses : (at byte : ℕ) → byte_at state.mem at ≡ Some byte → at < 2 ^ 64
  pub bytes : (at byte : ℕ) → byte_at state.mem at ≡ Some byte → byte < 2 ^ 8

-- where an access begins
abbrev pub address_of : State → ℕ → Access → ℕ
address_of state loaded access =
    (atom_of state loaded access.base + atom_of state loaded access.index * access.scale + unsigned 64 access.disp) % 2 ^ 64

-- what an effect loads: nothing where a byte of it is missing, and 0 where it loads nothing. An address is made of registers and
-- constants, so `Loaded` has no meaning in it and counts as 0
abbrev pub loaded_of : State → Option Access → Option ℕ
loaded_of state None = Some 0
loaded_of state (Some access) = number_at state.mem (address_of state 0 access) access.width

-- the registers after some writes, one after another. Each value is of the state before all of them, and a register takes
-- its lowest 64 bits
abbrev pub Writes : State → ℕ → List (ℕ × Value) → List ℕ → List ℕ → Type 0
Writes state loaded [] regs after = after ≡ regs
Writes state loaded (write ∷ writes) regs after =
    (x : ℕ) × Gives state loaded write.1 x × Writes state loaded writes (slice_set regs write.0 (x % 2 ^ 64)) after

-- the register that a call links through
abbrev pub link_of : Next → Option ℕ
link_of (next.Call goal link) = link
link_of (next.CallTo goal link) = link
link_of _ = None

-- the registers after a call's link: the address just behind the instruction
abbrev pub with_link : Option ℕ → ℕ → List ℕ → List ℕ
with_link (Some link) past regs = slice_set regs link past
with_link None past regs = regs

abbrev pub wide_of : State → ℕ → WideValue → ℕ
wide_of state loaded Loaded = loaded % 2 ^ 128
wide_of state loaded (Xor a b) = bit_xor (slice_index state.wide a) (slice_index state.wide b)

abbrev pub with_wide : State → ℕ → Option (ℕ × WideValue) → List ℕ
with_wide state loaded None = state.wide
with_wide state loaded (Some write) = slice_set state.wide write.0 (wide_of state loaded write.1)

-- the memory after a store, all of whose bytes have to be there
abbrev pub Stores : State → ℕ → Option (Access × Value) → Memory → Type 0
Stores state loaded None after = after ≡ state.mem
Stores state loaded (Some store) after =
    IsMapped state.mem (address_of state loaded store.0) store.0.width
    × ((x : ℕ) × Gives state loaded store.1 x
    × (after ≡ put state.mem (address_of state loaded store.0) (bytes_of store.0.width x)))

-- An effect may lead from one state to another, where `past` is the address just behind the instruction. It speaks of the
-- effect's own writes, of its load, store and flags, and of the link of its `next`. Registers that it doesn't write and bytes
-- that it doesn't store stay. With a failed division or a missing byte there is no state after it.
-- Not told here, and for a machine's step to add: the program counter; the return address that CALL pushes and RET pops on
-- amd64; what a system call, and a call or jump to code outside the image, change; that nothing follows UNDEF.
pub record Applies (effect : Effect) (past : ℕ) (before after : State) : Type 0 where
  pub loaded : ℕ
  pub loads : loaded_of before effect.load ≡ Some loaded
  pub written : List ℕ
  pub writes : Writes before loaded effect.writes.items before.regs written
  pub regs : after.regs ≡ with_link (link_of effect.next) past written
  pub wide : after.wide ≡ with_wide before loaded effect.wide
  pub mem : Stores before loaded effect.store after.mem
  pub flags : FlagsAfter before loaded effect.flags after.flags
