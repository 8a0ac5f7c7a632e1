-- The steps of a machine over an image. One step is one instruction, or all that is done outside the image by one call, jump or
-- system call.
use Rattle.std.specs.Prelude.{◌≡◌, ℕ, ℤ, pos, ◌+◌, ◌-◌, ◌+ℤ◌, ◌-ℤ◌, ◌≤ℤ◌, ◌<ℤ◌, ◌≤◌, ◌<◌, ◌^◌, ◌&&◌, Bool, true, false, not, nat_le, nat_lt, List, ◌∷◌, slice_set, Option, Some, None, IsSome, if◌then◌else◌}
use Rattle.std.specs.Option.{option_map}
use Rattle.machine_effect.specs.declared.flow.SpMove.{SpMove}
use Rattle.machine_effect.specs.declared.flow.SpMove.TheVariants.{By}
use Rattle.machine_effect.specs.declared.frame.Frame.{Frame}
use Rattle.machine_effect.specs.declared.next.Next.{Next}
use Rattle.machine_effect.specs.declared.next.Next.TheVariants as next
use Rattle.machine_effect.specs.declared.state.State.{State}
use Rattle.machine_effect.specs.Applies.{Applies, IsState, address_of, loaded_of}
use Rattle.machine_effect.specs.Memory.{IsMapped, bytes_of, put, word_at}
use Rattle.machine_effect.specs.Values.{atom_of, holds, reg_of}
use Rattle.asm_target.specs.DepthChange.{is_return}
use Rattle.asm_target.specs.FlowFunction.{is_within}
use Rattle.asm_target.specs.FlowRules.{is_indirect_jump}
use Rattle.image_model.specs.Image.{Image, IsOutside, Line, flow_in, has_link, next_of}

-- a state with the calls that were made and haven't returned, innermost first
pub record Moment : Type 0 where
  pub state : State
  pub calls : List Frame

-- the machine goes on behind the instruction, by itself
abbrev pub passes : State → ℕ → Next → Bool
passes state loaded next.Fall = true
passes state loaded (next.Branch held goal) = not (holds state loaded held)
passes state loaded _ = false

-- where it jumps to
abbrev pub jumps_to : State → ℕ → Next → Option ℕ
jumps_to state loaded (next.Branch held goal) = if holds state loaded held then Some goal else None
jumps_to state loaded (next.Jump goal) = Some goal
jumps_to state loaded (next.JumpTo goal) = Some (atom_of state loaded goal)
jumps_to state loaded _ = None

-- what it calls
abbrev pub calls_to : State → ℕ → Next → Option ℕ
calls_to state loaded (next.Call goal link) = Some goal
calls_to state loaded (next.CallTo goal link) = Some (atom_of state loaded goal)
calls_to state loaded _ = None

-- how far it moves the stack pointer, as far as that is a constant
abbrev pub distance_of : SpMove → ℤ
distance_of (By k) = k
distance_of _ = pos 0

-- an address, before it's taken modulo 2 ^ 64
abbrev pub IsInRange : ℤ → Type 0
IsInRange z = (pos 0 ≤ℤ z) × (z <ℤ pos (2 ^ 64))

-- a slot that a move of the stack pointer passes stands no longer
abbrev pub unless_passed : ℕ → ℕ → Option ℕ → Option ℕ
unless_passed before after None = None
unless_passed before after (Some slot) = if nat_le before slot && nat_lt slot after then None else Some slot

-- where there is no slot, a store of the link register makes one
abbrev pub or_stored : Option ℕ → Option ℕ → Option ℕ
or_stored None stored = stored
or_stored (Some slot) stored = Some slot

abbrev pub register_or_zero : Option ℕ → ℕ
register_or_zero (Some register) = register
register_or_zero None = 0

module _ (img : Image) where
  abbrev pub sp_of : State → ℕ
  sp_of state = reg_of state img.shape.sp

  -- the link register; without one it's never asked for
  abbrev pub link_in : State → ℕ
  link_in state = reg_of state (register_or_zero img.shape.link)

  -- how many bytes a call pushes
  abbrev pub pushed : ℕ
  pushed = if has_link img then 0 else 8

  -- where a function returns to that is left in this state
  abbrev pub return_of : State → Option ℕ
  return_of state = if has_link img then Some (link_in state) else word_at state.mem (sp_of state)

  -- the stack pointer, and it less what the instruction adds to the depth, don't leave the addresses that there are
  pub record HasRoom (line : Line) (state : State) : Type 0 where
    pub move : IsInRange (pos (sp_of state) +ℤ distance_of (flow_in img line).sp)
    pub change : IsInRange (pos (sp_of state) -ℤ line.change)

  -- where the link register is stored, if it is
  abbrev pub stored_at : Line → State → ℕ → Option ℕ
  stored_at line state loaded =
      if (flow_in img line).stores_link then option_map (λ store. address_of state loaded store.0) line.part.effect.store else None

  -- the innermost frame behind an instruction
  abbrev pub frame_after : Line → State → State → ℕ → Frame → Frame
  frame_after line before after loaded frame =
      record frame { slot = unless_passed (sp_of before) (sp_of after) (or_stored frame.slot (stored_at line before loaded)) }

  -- a jump to an entry begins another function in the same frame
  abbrev pub entered : ℕ → Frame → Frame
  entered goal frame = if img.is_entry goal then record frame { func = goal } else frame

  -- the word is pushed: it has to have its eight bytes
  pub record Pushes (word : ℕ) (before after : State) : Type 0 where
    pub room : 8 ≤ sp_of before
    pub mapped : IsMapped before.mem (sp_of before - 8) 8
    pub same : after ≡ record before {
      pc = after.pc;
      regs = slice_set before.regs img.shape.sp (sp_of before - 8);
      mem = put before.mem (sp_of before - 8) (bytes_of 8 word);
    }

  -- eight bytes are popped
  pub record Pops (before after : State) : Type 0 where
    pub room : sp_of before + 8 < 2 ^ 64
    pub same : after ≡ record before { pc = after.pc; regs = slice_set before.regs img.shape.sp (sp_of before + 8) }

  abbrev pub Unmoved : State → State → Type 0
  Unmoved before after = after ≡ record before { pc = after.pc }

  -- the return address is pushed and popped only where there is no link register
  abbrev pub PushesReturn : Bool → ℕ → State → State → Type 0
  PushesReturn true past before after = Unmoved before after
  PushesReturn false past before after = Pushes past before after

  abbrev pub PopsReturn : Bool → State → State → Type 0
  PopsReturn true before after = Unmoved before after
  PopsReturn false before after = Pops before after

  -- the frame of a function that is called
  abbrev pub called : ℕ → ℕ → ℕ → ℕ → Frame
  called goal at past sp = record {
    func = goal;
    call = Some at;
    ret = past;
    base = sp;
    slot = if has_link img then None else Some sp;
  }

  -- the machine goes on at this address, an instruction's, in the frame of the caller
  pub record Resumes (value : ℕ) (further : List Frame) (after : Moment) : Type 0 where
    pub start : IsSome (img.line_at value)
    pub caller : Frame
    pub others : List Frame
    pub stands : further ≡ caller ∷ others
    pub pc : after.state.pc ≡ value
    pub calls : after.calls ≡ further

  module _ (line : Line) (frame : Frame) (further : List Frame) (before after : Moment) where
    -- the instruction does what it does, and the machine goes on behind it
    pub record GoesOn : Type 0 where
      pub applies : Applies line.part.effect line.part.past before.state after.state
      pub goes : passes before.state applies.loaded (next_of line) ≡ true
      pub pc : after.state.pc ≡ line.part.past
      pub calls : after.calls ≡ frame_after line before.state after.state applies.loaded frame ∷ further

    -- or it jumps inside the text, through a register or memory only to an entry
    pub record Jumps : Type 0 where
      pub applies : Applies line.part.effect line.part.past before.state after.state
      pub goal : ℕ
      pub goes : jumps_to before.state applies.loaded (next_of line) ≡ Some goal
      pub inside : is_within img.text goal ≡ true
      pub entry : is_indirect_jump (next_of line) ≡ true → img.is_entry goal ≡ true
      pub pc : after.state.pc ≡ goal
      pub calls : after.calls ≡ entered goal (frame_after line before.state after.state applies.loaded frame) ∷ further

    -- it calls a function of the image
    pub record Calls : Type 0 where
      pub between : State
      pub applies : Applies line.part.effect line.part.past before.state between
      pub goal : ℕ
      pub goes : calls_to before.state applies.loaded (next_of line) ≡ Some goal
      pub entry : img.is_entry goal ≡ true
      pub pushes : PushesReturn (has_link img) line.part.past between after.state
      pub pc : after.state.pc ≡ goal
      pub calls : after.calls ≡ called goal before.state.pc line.part.past (sp_of after.state) ∷ before.calls

    -- it returns to the caller
    pub record Returns : Type 0 where
      pub between : State
      pub applies : Applies line.part.effect line.part.past before.state between
      pub goes : is_return (next_of line) ≡ true
      pub value : ℕ
      pub back : return_of between ≡ Some value
      pub pops : PopsReturn (has_link img) between after.state
      pub resumes : Resumes value further after

    -- It calls something outside, or the system, and that comes back behind the instruction. Registers, flags and memory may have
    -- any values then
    abbrev pub AsksOutside : ℕ → Next → Type 0
    AsksOutside loaded next.System = Unit {0}
    AsksOutside loaded (next.Call goal link) = IsOutside img goal
    AsksOutside loaded (next.CallTo goal link) = IsOutside img (atom_of before.state loaded goal)
    AsksOutside loaded _ = ⊥

    pub record Asks : Type 0 where
      pub loaded : ℕ
      pub loads : loaded_of before.state line.part.effect.load ≡ Some loaded
      pub goes : AsksOutside loaded (next_of line)
      pub pc : after.state.pc ≡ line.part.past
      pub calls : after.calls ≡ before.calls

    -- it jumps to something outside, and that returns to the caller
    pub record Leaves : Type 0 where
      pub loaded : ℕ
      pub loads : loaded_of before.state line.part.effect.load ≡ Some loaded
      pub goal : ℕ
      pub goes : jumps_to before.state loaded (next_of line) ≡ Some goal
      pub outside : IsOutside img goal
      pub value : ℕ
      pub back : return_of before.state ≡ Some value
      pub resumes : Resumes value further after

    pub data Way : Type 0 where
      ByPassing : GoesOn → Way
      ByJump : Jumps → Way
      ByCall : Calls → Way
      ByReturn : Returns → Way
      ByAsking : Asks → Way
      ByLeaving : Leaves → Way

  -- The machine takes one step. There is none where bytes of an access are missing, a division fails, the instruction is UNDEF, the
  -- stack pointer would leave the addresses, code is entered amid a function, or the run ends by a return to the outside
  pub record Step (before after : Moment) : Type 0 where
    pub state : IsState after.state
    pub line : Line
    pub here : img.line_at before.state.pc ≡ Some line
    pub frame : Frame
    pub further : List Frame
    pub calls : before.calls ≡ frame ∷ further
    pub room : HasRoom line before.state
    pub way : Way line frame further before after
