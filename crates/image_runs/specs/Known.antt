-- What is known of the state and the calls of each moment of a run, where the image is sound and the run is kept.
use Rattle.std.specs.Prelude.{◌≡◌, ℕ, ◌+◌, ◌==◌, ◌^◌, ◌<◌, ◌&&◌, Bool, true, false, List, [], ◌∷◌, Option, Some, None, if◌then◌else◌}
use Rattle.machine_effect.specs.declared.frame.Frame.{Frame}
use Rattle.machine_effect.specs.declared.state.State.{State}
use Rattle.machine_effect.specs.Applies.{IsState}
use Rattle.machine_effect.specs.Flow.{flow_of}
use Rattle.machine_effect.specs.Memory.{Memory, word_at}
use Rattle.asm_target.specs.declared.sequence.Sequence.{Sequence}
use Rattle.asm_target.specs.declared.sequence.Sequence.TheVariants.{Plain, Saving}
use Rattle.asm_target.specs.DepthChange.{any_below}
use Rattle.asm_target.specs.Runs.{Leads, PlacedEffect}
use Rattle.asm_target.specs.SequenceLaws.{below}
use Rattle.image_model.specs.Image.{Image, IsOutside, Line, has_link, is_served, next_of}
use Rattle.image_model.specs.Steps.{Moment, link_in, pushed, sp_of}

module _ (img : Image) where
  -- the return address is in the link register, and not in memory
  abbrev pub in_link : ℕ → Bool
  in_link depth = has_link img && (depth == 0)

  -- where it's saved otherwise, by the stack pointer and the depth
  abbrev pub slot_place : ℕ → ℕ → ℕ
  slot_place sp depth = if has_link img then sp else sp + depth

  -- one of a sequence's first instructions stores the link register
  abbrev pub stored_before : (ℕ → PlacedEffect) → ℕ → Bool
  stored_before parts n = any_below (λ k. (flow_of (parts k).effect img.shape).stores_link) n

  -- Where the return address is saved while it's also in the link register: inside a sequence that makes a frame, once it's stored
  abbrev pub slot_by : Sequence → (ℕ → PlacedEffect) → ℕ → ℕ → Option ℕ
  slot_by (Saving count total) parts index sp = if stored_before parts index then Some (below sp total) else None
  slot_by _ parts index sp = None

  abbrev pub slot_in : Line → ℕ → Option ℕ
  slot_in line sp = slot_by line.role line.parts line.index sp

  -- the innermost frame's base and return address at a depth
  pub record Holds (depth : ℕ) (unsaved : Option ℕ) (state : State) (frame : Frame) : Type 0 where
    pub base : frame.base ≡ sp_of img state + depth
    pub low : frame.base < 2 ^ 64
    pub link : in_link depth ≡ true → link_in img state ≡ frame.ret
    pub unsaved_slot : in_link depth ≡ true → frame.slot ≡ unsaved
    pub slot : in_link depth ≡ false → frame.slot ≡ Some (slot_place (sp_of img state) depth)
    pub word : in_link depth ≡ false → word_at state.mem (slot_place (sp_of img state) depth) ≡ Some frame.ret

  -- the run came from the first instruction of the line's sequence, where the return address stood as it should
  pub record Began (line : Line) (state : State) (frame : Frame) : Type 0 where
    pub start : State
    pub fine : IsState start
    pub came : Leads line.parts line.index start state
    pub sp : sp_of img start ≡ sp_of img state
    pub link : in_link line.depth ≡ true → link_in img start ≡ frame.ret
    pub word : in_link line.depth ≡ false → word_at start.mem (slot_place (sp_of img start) line.depth) ≡ Some frame.ret

  pub record IsInner (line : Line) (state : State) (frame : Frame) : Type 0 where
    pub entry : frame.func ≡ line.entry
    pub holds : Holds line.depth (slot_in line (sp_of img state)) state frame
    pub began : Began line state frame

  -- the inner frame was made by a call in the outer one, which waits behind it
  pub record IsCaller (inner outer : Frame) : Type 0 where
    pub at : ℕ
    pub line : Line
    pub call : inner.call ≡ Some at
    pub here : img.line_at at ≡ Some line
    pub served : is_served img.is_growth_routine (next_of line) ≡ true
    pub plain : line.role ≡ Plain
    pub deep : in_link line.depth ≡ false
    pub entry : outer.func ≡ line.entry
    pub ret : inner.ret ≡ line.part.past
    pub base : outer.base ≡ inner.base + pushed img + line.depth
    pub low : outer.base < 2 ^ 64
    pub slot : outer.slot ≡ Some (slot_place (inner.base + pushed img) line.depth)

  -- the frames outside of one, up to the first
  abbrev pub Standing : Memory → Frame → List Frame → Type 0
  Standing memory inner [] = (inner.call ≡ None) × IsOutside img inner.ret
  Standing memory inner (outer ∷ more) =
      (caller : IsCaller inner outer)
      × (word_at memory (slot_place (inner.base + pushed img) caller.line.depth) ≡ Some outer.ret)
      × Standing memory outer more

  pub record IsKnown (moment : Moment) : Type 0 where
    pub state : IsState moment.state
    pub line : Line
    pub here : img.line_at moment.state.pc ≡ Some line
    pub frame : Frame
    pub further : List Frame
    pub calls : moment.calls ≡ frame ∷ further
    pub inner : IsInner line moment.state frame
    pub standing : Standing moment.state.mem frame further

  -- each moment of a run is known
  abbrev pub AreKnown : Moment → List Moment → Type 0
  AreKnown first [] = IsKnown first
  AreKnown first (second ∷ more) = IsKnown first × AreKnown second more
