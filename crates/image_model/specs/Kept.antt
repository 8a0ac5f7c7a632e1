-- Runs of a machine over an image; those that leave saved return addresses alone; and the calls of a moment as a chain.
use Rattle.std.specs.Prelude.{◌≡◌, ◌⊎◌, ℕ, ◌+◌, ◌≤◌, Bool, true, false, List, [], ◌∷◌, All, Option, Some, None, IfSome, if◌then◌else◌}
use Rattle.machine_effect.specs.declared.effect.Access.{Access}
use Rattle.machine_effect.specs.declared.effect.Value.{Value}
use Rattle.machine_effect.specs.declared.frame.Frame.{Frame}
use Rattle.machine_effect.specs.declared.next.Next.TheVariants as next
use Rattle.machine_effect.specs.declared.state.State.{State}
use Rattle.machine_effect.specs.Applies.{IsState}
use Rattle.machine_effect.specs.Memory.{Memory}
use Rattle.machine_effect.specs.Stores.{BytesStay, StoreMisses}
use Rattle.machine_effect.specs.Values.{reg_of}
use Rattle.image_model.specs.Image.{Image, IsOutside, Line, has_link, is_growth_call, next_of}
use Rattle.image_model.specs.Steps.{Moment, Step, Way, ByPassing, ByJump, ByCall, ByReturn, ByAsking, ByLeaving, link_in, pushed, return_of, sp_of}

-- each saved return address has this
abbrev pub AtSlots : (ℕ → Type 0) → List Frame → Type 0
AtSlots At calls = All (λ frame. IfSome frame.slot At) calls

-- its bytes are as before
abbrev pub SlotsStay : Memory → Memory → List Frame → Type 0
SlotsStay before after calls = AtSlots (λ slot. BytesStay before after slot 8) calls

-- a store writes none of its bytes
abbrev pub MissesSlots : State → ℕ → Option (Access × Value) → List Frame → Type 0
MissesSlots state loaded store calls = AtSlots (λ slot. StoreMisses state loaded store slot 8) calls

module _ (img : Image) where
  -- nor does what is pushed
  abbrev pub PushMisses : State → List Frame → Type 0
  PushMisses state calls = AtSlots (λ slot. (sp_of img state ≤ slot) ⊎ (slot + 16 ≤ sp_of img state)) calls

  -- What is called outside, or the system, leaves saved return addresses and the stack pointer; the system leaves the link register,
  -- and a routine that grows the stack leaves there what the growth register held
  pub record KeepsCall (line : Line) (before after : Moment) : Type 0 where
    pub slots : SlotsStay before.state.mem after.state.mem before.calls
    pub sp : sp_of img after.state ≡ sp_of img before.state
    pub system : next_of line ≡ next.System → has_link img ≡ true → link_in img after.state ≡ link_in img before.state
    pub growth : is_growth_call img.is_growth_routine (next_of line) ≡ true → (register : ℕ) → img.growth ≡ Some register
        → link_in img after.state ≡ reg_of before.state register

  -- what is jumped to outside leaves saved return addresses, and the stack pointer as a return in its place would
  pub record KeepsJump (before after : Moment) : Type 0 where
    pub slots : SlotsStay before.state.mem after.state.mem before.calls
    pub sp : sp_of img after.state ≡ sp_of img before.state + pushed img

  module _ (line : Line) (frame : Frame) (further : List Frame) (before after : Moment) where
    abbrev pub IsKeptBy : Way img line frame further before after → Type 0
    IsKeptBy (ByPassing way) = MissesSlots before.state way.applies.loaded line.part.effect.store before.calls
    IsKeptBy (ByJump way) = MissesSlots before.state way.applies.loaded line.part.effect.store before.calls
    IsKeptBy (ByCall way) =
        MissesSlots before.state way.applies.loaded line.part.effect.store before.calls
        × (has_link img ≡ false → PushMisses way.between before.calls)
    IsKeptBy (ByReturn way) = MissesSlots before.state way.applies.loaded line.part.effect.store before.calls
    IsKeptBy (ByAsking way) = KeepsCall line before after
    IsKeptBy (ByLeaving way) = KeepsJump before after

  -- the step writes no byte of a saved return address, and what is outside does as it should
  abbrev pub IsKept : (before after : Moment) → Step img before after → Type 0
  IsKept before after step = IsKeptBy step.line step.frame step.further before after step.way

  -- The machine stands at an entry, in a state that a caller outside left: the return address leads there
  pub record Opens (first : Moment) : Type 0 where
    pub state : IsState first.state
    pub entry : img.is_entry first.state.pc ≡ true
    pub ret : ℕ
    pub back : return_of img first.state ≡ Some ret
    pub outside : IsOutside img ret
    pub calls : first.calls ≡ record {
      func = first.state.pc;
      call = None;
      ret = ret;
      base = sp_of img first.state;
      slot = if has_link img then None else Some (sp_of img first.state);
    } ∷ []

  -- each moment follows from the one before it
  abbrev pub Runs : Moment → List Moment → Type 0
  Runs first [] = Unit {0}
  Runs first (second ∷ more) = Step img first second × Runs second more

  -- by a step that is kept
  abbrev pub RunsKept : Moment → List Moment → Type 0
  RunsKept first [] = Unit {0}
  RunsKept first (second ∷ more) = (step : Step img first second) × IsKept first second step × RunsKept second more

-- A call of a chain: the function that runs; where it goes on once the calls inside it have returned; and the place that tells its
-- source line, that of the innermost instruction or of the call that it made
pub record ChainCall : Type 0 where
  pub func : ℕ
  pub pc : ℕ
  pub look : ℕ

abbrev pub call_place : Option ℕ → ℕ
call_place (Some at) = at
call_place None = 0

abbrev pub chain_from : ℕ → ℕ → List Frame → List ChainCall
chain_from pc look [] = []
chain_from pc look (frame ∷ further) =
    record { func = frame.func; pc = pc; look = look } ∷ chain_from frame.ret (call_place frame.call) further

-- the calls of a moment, innermost first
abbrev pub chain_of : Moment → List ChainCall
chain_of moment = chain_from moment.state.pc moment.state.pc moment.calls

-- up to the first function of this kind, with it
abbrev pub until : (ℕ → Bool) → List ChainCall → List ChainCall
until is_last [] = []
until is_last (call ∷ more) = if is_last call.func then call ∷ [] else call ∷ until is_last more
