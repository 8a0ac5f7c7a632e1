-- What the instructions of a sequence do at their places, run from the first one on.
use Rattle.std.specs.Prelude.{◌≡◌, ℕ, suc, ◌+◌, ◌-◌, ◌%◌, ◌^◌, ◌<◌, ◌≤◌, true, false, Option, Some, None}
use Rattle.machine_effect.specs.declared.effect.Access.{Access}
use Rattle.machine_effect.specs.declared.effect.Value.{Value}
use Rattle.machine_effect.specs.declared.flow.Flow.{Flow}
use Rattle.machine_effect.specs.declared.flow.Shape.{Shape}
use Rattle.machine_effect.specs.declared.flow.SpMove.TheVariants.{Keep}
use Rattle.machine_effect.specs.declared.next.Next.TheVariants as next
use Rattle.machine_effect.specs.declared.state.State.{State}
use Rattle.machine_effect.specs.Applies.{IsState, address_of}
use Rattle.machine_effect.specs.Flow.{flow_of}
use Rattle.machine_effect.specs.Memory.{word_at}
use Rattle.machine_effect.specs.Values.{reg_of}
use Rattle.asm_target.specs.declared.sequence.Sequence.{Sequence}
use Rattle.asm_target.specs.declared.sequence.Sequence.TheVariants.{Plain, Saving, Restoring, Growth}
use Rattle.asm_target.specs.Frames.{greatest_total}
use Rattle.asm_target.specs.Runs.{Leads, PlacedEffect}
use Rattle.asm_target.specs.SequenceLaws.{below}

-- the size of a frame that sequences make and leave
abbrev pub IsTotal : ℕ → Type 0
IsTotal total = (0 < total) × (total ≤ greatest_total)

module _ (shape : Shape) (parts : ℕ → PlacedEffect) where
  abbrev pub flow_part : ℕ → Flow
  flow_part k = flow_of (parts k).effect shape

  -- The sequence lowers the stack pointer by `total` bytes, at its last instruction; it stores the link register once, as eight bytes
  -- at the final stack pointer, and stores nothing else and doesn't write that register
  pub record SavesLink (link count total : ℕ) : Type 0 where
    pub falls : (k : ℕ) → k < count → (parts k).effect.next ≡ next.Fall
    pub keeps : (k : ℕ) → suc k < count → (flow_part k).sp ≡ Keep
    pub unwritten : (k : ℕ) → k < count → (flow_part k).writes_link ≡ false
    pub position : ℕ
    pub inside : position < count
    pub stores : (flow_part position).stores_link ≡ true
    pub once : (k : ℕ) → k < count → ¬ (k ≡ position) → (parts k).effect.store ≡ None
    pub place : (loaded : ℕ) (before between : State) (access : Access) (value : Value) → IsState before
        → Leads parts position before between → (parts position).effect.store ≡ Some (access, value)
        → address_of between loaded access ≡ below (reg_of before shape.sp) total
    pub lowers : (before after : State) → IsState before → Leads parts count before after
        → reg_of after shape.sp ≡ below (reg_of before shape.sp) total
    pub saves : (before after : State) → IsState before → Leads parts count before after
        → word_at after.mem (reg_of after shape.sp) ≡ Some (reg_of before link)

  -- The sequence raises the stack pointer by `total` bytes, at its last instruction; it writes the link register once, with the word
  -- at the first stack pointer, and stores nothing
  pub record RestoresLink (link count total : ℕ) : Type 0 where
    pub falls : (k : ℕ) → k < count → (parts k).effect.next ≡ next.Fall
    pub keeps : (k : ℕ) → suc k < count → (flow_part k).sp ≡ Keep
    pub stores_nothing : (k : ℕ) → k < count → (parts k).effect.store ≡ None
    pub position : ℕ
    pub inside : position < count
    pub writes : (flow_part position).writes_link ≡ true
    pub once : (k : ℕ) → k < count → ¬ (k ≡ position) → (flow_part k).writes_link ≡ false
    pub raises : (before after : State) → IsState before → Leads parts count before after
        → reg_of after shape.sp ≡ (reg_of before shape.sp + total) % 2 ^ 64
    pub restores : (word : ℕ) (before after : State) → IsState before → Leads parts count before after
        → word_at before.mem (reg_of before shape.sp) ≡ Some word → reg_of after link ≡ word

  -- The sequence stores nothing and leaves the stack pointer. Its last instruction but one is reached through all before, which leave
  -- the link register; there the growth register holds what the link register held at the start
  pub record GrowsStack (link growth count : ℕ) : Type 0 where
    pub most : 2 ≤ count
    pub keeps : (k : ℕ) → k < count → (flow_part k).sp ≡ Keep
    pub stores_nothing : (k : ℕ) → k < count → (parts k).effect.store ≡ None
    pub falls : (k : ℕ) → k < count - 2 → (parts k).effect.next ≡ next.Fall
    pub unwritten : (k : ℕ) → k < count - 2 → (flow_part k).writes_link ≡ false
    pub hands : (before between : State) → IsState before → Leads parts (count - 2) before between
        → reg_of between growth ≡ reg_of before link

  -- there are sequences only where there is a link register
  abbrev pub ActsAs : Option ℕ → Option ℕ → Sequence → Type 0
  ActsAs link growth Plain = Unit {0}
  ActsAs (Some link) growth (Saving count total) = IsTotal total × SavesLink link count total
  ActsAs (Some link) growth (Restoring count total) = IsTotal total × RestoresLink link count total
  ActsAs (Some link) (Some growth) (Growth count) = GrowsStack link growth count
  ActsAs link growth found = ⊥
