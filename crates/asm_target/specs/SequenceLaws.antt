-- What the sequences of a target do.
use Rattle.std.specs.Prelude.{◌≡◌, ℕ, ◌+◌, ◌-◌, ◌%◌, ◌^◌, ◌<◌, ◌≤◌, List, ◌++◌, All, true, false, map, length, take, drop, Option, Some, None}
use Rattle.std.specs.List.{slice_get}
use Rattle.machine_effect.specs.declared.effect.Access.{Access}
use Rattle.machine_effect.specs.declared.effect.Value.{Value}
use Rattle.machine_effect.specs.declared.flow.Flow.{Flow}
use Rattle.machine_effect.specs.declared.flow.Shape.{Shape}
use Rattle.machine_effect.specs.declared.flow.SpMove.TheVariants.{Keep}
use Rattle.machine_effect.specs.declared.next.Next.TheVariants as next
use Rattle.machine_effect.specs.declared.state.State.{State}
use Rattle.machine_effect.specs.Applies.{IsState, address_of}
use Rattle.machine_effect.specs.Flow.{flow_of}
use Rattle.machine_effect.specs.Memory.{word_at}
use Rattle.machine_effect.specs.Values.{reg_of}
use Rattle.asm_target.specs.declared.sequence.Sequence.{Sequence}
use Rattle.asm_target.specs.declared.sequence.Sequence.TheVariants.{Plain, Saving, Restoring, Growth}
use Rattle.asm_target.specs.Aiming.{Aiming}
use Rattle.asm_target.specs.DepthChange.{longest}
use Rattle.asm_target.specs.FlowFunction.{call_goal, jump_goal}
use Rattle.asm_target.specs.Frames.{greatest_total}
use Rattle.asm_target.specs.InstructionSet.{InstructionSet}
use Rattle.asm_target.specs.Runs.{Leads, LeadsOver, effects_from}
use Rattle.asm_target.specs.Sequences.{count_of, span_of, is_plain}

-- a number below another, modulo 2 ^ 64
abbrev pub below : ℕ → ℕ → ℕ
below number distance = (number + (2 ^ 64 - distance)) % 2 ^ 64

module _ {Instr : Type 0} (begins : List Instr → Sequence) where
  -- A sequence has its instructions, at most five, and no other sequence begins inside it
  pub record StandsApart (code : List Instr) : Type 0 where
    pub some : 0 < span_of (begins code)
    pub short : count_of (begins code) ≤ longest
    pub there : is_plain (begins code) ≡ false → count_of (begins code) ≤ length code
    pub apart : (k : ℕ) → 0 < k → k < count_of (begins code) → begins (drop k code) ≡ Plain

  -- it's told by its own instructions, whatever stands behind them
  abbrev pub IsTold : List Instr → Type 0
  IsTold code =
      (more : List Instr) → is_plain (begins code) ≡ false
      → begins (take (count_of (begins code)) code ++ more) ≡ begins code

module _ {Instr : Type 0} (set : InstructionSet Instr) (shape : Shape) where
  abbrev flow_at : Instr → ℕ → Flow
  flow_at i pc = flow_of (set.effect i pc) shape

  -- the machine goes on behind each instruction
  abbrev pub FallThrough : List Instr → Type 0
  FallThrough code = (k pc : ℕ) (i : Instr) → slice_get code k ≡ Some i → (set.effect i pc).next ≡ next.Fall

  -- none of the first n instructions writes the stack pointer
  abbrev pub KeepStack : List Instr → ℕ → Type 0
  KeepStack code n = (k pc : ℕ) (i : Instr) → k < n → slice_get code k ≡ Some i → (flow_at i pc).sp ≡ Keep

  -- none of them writes the link register
  abbrev pub KeepLink : List Instr → ℕ → Type 0
  KeepLink code n = (k pc : ℕ) (i : Instr) → k < n → slice_get code k ≡ Some i → (flow_at i pc).writes_link ≡ false

  -- none stores anything
  abbrev pub StoreNothing : List Instr → Type 0
  StoreNothing code = (k pc : ℕ) (i : Instr) → slice_get code k ≡ Some i → (set.effect i pc).store ≡ None

  -- Run from its start, a sequence that makes a frame of `total` bytes lowers the stack pointer by them, at its last instruction; it
  -- stores the link register once, as eight bytes at the final stack pointer, and stores nothing else and doesn't write that
  -- register
  pub record IsSaving (link total : ℕ) (code : List Instr) : Type 0 where
    pub falls : FallThrough code
    pub keeps : KeepStack code (length code - 1)
    pub unwritten : KeepLink code (length code)
    pub position : ℕ
    pub saver : Instr
    pub inside : slice_get code position ≡ Some saver
    pub stores : (pc : ℕ) → (flow_at saver pc).stores_link ≡ true
    pub once : (k pc : ℕ) (i : Instr) → slice_get code k ≡ Some i → ¬ (k ≡ position) → (set.effect i pc).store ≡ None
    pub place : (at loaded : ℕ) (before between : State) (access : Access) (value : Value) → IsState before
        → Leads (effects_from set code at) position before between
        → (effects_from set code at position).effect.store ≡ Some (access, value)
        → address_of between loaded access ≡ below (reg_of before shape.sp) total
    pub lowers : (at : ℕ) (before after : State) → IsState before → LeadsOver set code at before after
        → reg_of after shape.sp ≡ below (reg_of before shape.sp) total
    pub saves : (at : ℕ) (before after : State) → IsState before → LeadsOver set code at before after
        → word_at after.mem (reg_of after shape.sp) ≡ Some (reg_of before link)

  -- Run from its start, a sequence that leaves a frame of `total` bytes raises the stack pointer by them, at its last instruction; it
  -- writes the link register once, with the word at the first stack pointer, and stores nothing
  pub record IsRestoring (link total : ℕ) (code : List Instr) : Type 0 where
    pub falls : FallThrough code
    pub keeps : KeepStack code (length code - 1)
    pub stores_nothing : StoreNothing code
    pub position : ℕ
    pub loader : Instr
    pub inside : slice_get code position ≡ Some loader
    pub writes : (pc : ℕ) → (flow_at loader pc).writes_link ≡ true
    pub once : (k pc : ℕ) (i : Instr) → slice_get code k ≡ Some i → ¬ (k ≡ position)
        → (flow_at i pc).writes_link ≡ false
    pub raises : (at : ℕ) (before after : State) → IsState before → LeadsOver set code at before after
        → reg_of after shape.sp ≡ (reg_of before shape.sp + total) % 2 ^ 64
    pub restores : (at word : ℕ) (before after : State) → IsState before → LeadsOver set code at before after
        → word_at before.mem (reg_of before shape.sp) ≡ Some word → reg_of after link ≡ word

  -- A sequence that has the stack grow ends with a direct call and a direct jump. It doesn't write the stack pointer and stores
  -- nothing; up to its call it falls through and keeps the link register, and just before the call the target's growth register
  -- holds what the link register held at its start
  pub record IsGrowing (link growth : ℕ) (code : List Instr) : Type 0 where
    pub most : 2 ≤ length code
    pub keeps : KeepStack code (length code)
    pub stores_nothing : StoreNothing code
    pub falls : FallThrough (take (length code - 2) code)
    pub unwritten : KeepLink code (length code - 2)
    pub calls : (pc : ℕ) (i : Instr) → slice_get code (length code - 2) ≡ Some i
        → call_goal (set.effect i pc).next ≡ None → ⊥
    pub jumps : (pc : ℕ) (i : Instr) → slice_get code (length code - 1) ≡ Some i
        → jump_goal (set.effect i pc).next ≡ None → ⊥
    pub hands : (at : ℕ) (before between : State) → IsState before
        → Leads (effects_from set code at) (length code - 2) before between
        → reg_of between growth ≡ reg_of before link

  -- the size of a frame that sequences make and leave
  abbrev pub IsTotal : ℕ → Type 0
  IsTotal total = (0 < total) × (total ≤ greatest_total)

  -- there are sequences only where there is a link register
  abbrev pub DoesAs : Option ℕ → Option ℕ → Sequence → List Instr → Type 0
  DoesAs link growth Plain code = Unit {0}
  DoesAs (Some link) growth (Saving count total) code = IsTotal total × IsSaving link total code
  DoesAs (Some link) growth (Restoring count total) code = IsTotal total × IsRestoring link total code
  DoesAs (Some link) (Some growth) (Growth count) code = IsGrowing link growth code
  DoesAs link growth found code = ⊥

  -- the instructions that begin some code do what their sequence is for
  abbrev pub DoSequences : (Instr → Type 0) → (List Instr → Sequence) → Option ℕ → Type 0
  DoSequences fits begins growth =
      (code : List Instr) → All fits code → DoesAs shape.link growth (begins code) (take (count_of (begins code)) code)

-- a sequence that has the stack grow is one wherever its call and its jump go
abbrev pub GrowsAnywhere : {Instr : Type 0} → Aiming Instr → (List Instr → Sequence) → Type 0
GrowsAnywhere {Instr} aiming begins =
    (count : ℕ) (code others : List Instr) → begins code ≡ Growth count
    → map aiming.undirected (take count others) ≡ map aiming.undirected (take count code) → begins others ≡ Growth count
