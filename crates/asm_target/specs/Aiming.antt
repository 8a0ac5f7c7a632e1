-- The forms of an instruction, and the addresses that it holds.
use Rattle.std.specs.Prelude.{◌≡◌, ◌↔◌, ℕ, ℤ, pos, ◌-ℤ◌, ◌≤ℤ◌, ◌+◌, ◌%◌, ◌^◌, ◌<◌, ◌≤◌, List, [], ◌∷◌, ◌++◌, All, Bool, true, not, length, Option, Some, None}
use Rattle.std.specs.List.{flat_map}
use Rattle.machine_effect.specs.declared.cond.Cond.{Cond}
use Rattle.machine_effect.specs.declared.flow.Shape.{Shape}
use Rattle.machine_effect.specs.declared.next.Next.{Next}
use Rattle.machine_effect.specs.declared.next.Next.TheVariants as next
use Rattle.machine_effect.specs.declared.state.State.{State}
use Rattle.machine_effect.specs.Flow.{flow_of}
use Rattle.machine_effect.specs.Values.{holds}
use Rattle.asm_target.specs.declared.refer.Part.{Part}
use Rattle.asm_target.specs.declared.refer.Part.TheVariants.{Whole}
use Rattle.asm_target.specs.declared.refer.Picked.{Picked}
use Rattle.asm_target.specs.declared.refer.Refer.{Refer}
use Rattle.asm_target.specs.declared.refer.To.{To}
use Rattle.asm_target.specs.FlowFunction.{jump_goal, call_goal}
use Rattle.asm_target.specs.InstructionSet.{InstructionSet}

-- Of each instruction: its short form, numbered 0, and its long form, 1; what it is but for the address that it holds; and whether
-- it holds a whole address, as a distance from its own place. Then the parts of addresses: what an instruction holds in a part,
-- where `place` is its own address for `Whole` and that of its pair's first instruction for the others; and what that part of a goal
-- is, seen from that place
pub record Aiming (Instr : Type 0) : Type 0 where
  pub forms : Instr → ℕ → List Instr
  pub undirected : Instr → Instr
  pub is_directed : Instr → Bool
  pub held : Instr → Part → ℕ → Option ℕ
  pub part_of : Part → ℕ → ℕ → ℕ

-- where the machine goes on, with another goal
abbrev pub with_goal : ℕ → Next → Next
with_goal goal (next.Branch held old) = next.Branch held goal
with_goal goal (next.Jump old) = next.Jump goal
with_goal goal (next.Call old link) = next.Call goal link
with_goal goal other = other

-- one condition holds exactly where the other doesn't
abbrev pub AreOpposite : Cond → Cond → Type 0
AreOpposite one other = (state : State) (loaded : ℕ) → holds state loaded one ≡ not (holds state loaded other)

-- how many bytes some instructions have
abbrev pub bytes_of : {Instr : Type 0} → InstructionSet Instr → List Instr → ℕ
bytes_of set code = length (flat_map set.spelling code)

-- the bytes of instructions that are picked, each in its long form
abbrev pub most_bytes : {Instr : Type 0} → InstructionSet Instr → Aiming Instr → List (Picked Instr) → ℕ
most_bytes set aiming picks = bytes_of set (flat_map (λ pick. aiming.forms pick.instr 1) picks)

module _ {Instr : Type 0} (fits : Instr → Type 0) (aiming : Aiming Instr) where
  -- an instruction that is picked is listed, and one that refers to a whole address is directed
  pub record IsPickable (pick : Picked Instr) : Type 0 where
    pub fit : fits pick.instr
    pub directed : (to : To) → pick.refer ≡ Some (record { to = to; part = Whole }) → aiming.is_directed pick.instr ≡ true

module _ {Instr : Type 0} (set : InstructionSet Instr) (fits : Instr → Type 0) (shape : Shape) where
  -- what an instruction does to the stack pointer, and where the machine goes on but for the goal, is the same at each address
  pub record IsSteady (i : Instr) : Type 0 where
    pub sp : (pc other : ℕ) → pc < 2 ^ 64 → other < 2 ^ 64
        → (flow_of (set.effect i pc) shape).sp ≡ (flow_of (set.effect i other) shape).sp
    pub next : (pc other : ℕ) → pc < 2 ^ 64 → other < 2 ^ 64
        → with_goal 0 (set.effect i pc).next ≡ with_goal 0 (set.effect i other).next

  abbrev pub AreSteady : Type 0
  AreSteady = (i : Instr) → fits i → IsSteady i

module _ {Instr : Type 0} (set : InstructionSet Instr) (fits : Instr → Type 0) (aiming : Aiming Instr) where
  -- j is the instruction i, aimed at the goal
  pub record Aims (i : Instr) (part : Part) (place goal : ℕ) (j : Instr) : Type 0 where
    pub fit : fits j
    pub same : aiming.undirected j ≡ aiming.undirected i
    pub aimed : aiming.held j part place ≡ Some (aiming.part_of part place goal)

  -- i can be aimed at the goal
  abbrev pub CanReach : Instr → ℕ → ℕ → Type 0
  CanReach i place goal = (j : Instr) × Aims i Whole place goal j

  -- the first instruction jumps over the second where the condition doesn't hold, and the second jumps
  pub record JumpsOver (held : Cond) (first second : Instr) : Type 0 where
    pub opposite : Cond
    pub opposed : AreOpposite opposite held
    pub over : (pc : ℕ) → pc < 2 ^ 64
        → (set.effect first pc).next
        ≡ next.Branch opposite ((pc + (length (set.spelling first) + length (set.spelling second))) % 2 ^ 64)
    pub jumps : (pc : ℕ) → pc < 2 ^ 64 → with_goal 0 (set.effect second pc).next ≡ next.Jump 0

  -- the instructions jump where an instruction with this `next` does: one by itself, or one past a branch over it
  abbrev pub JumpsAs : Next → List Instr → Type 0
  JumpsAs goes (one ∷ []) = (pc : ℕ) → pc < 2 ^ 64 → with_goal 0 (set.effect one pc).next ≡ with_goal 0 goes
  JumpsAs (next.Branch held goal) (first ∷ second ∷ []) = JumpsOver held first second
  JumpsAs goes _ = ⊥

  -- What each instruction's forms are. What isn't a direct jump has itself alone in both; a direct jump's forms jump under its
  -- condition. The short form is one instruction; that, and the last one of the long form, hold an address where the instruction
  -- does
  pub record HasForms (i : Instr) : Type 0 where
    pub fit : (form : ℕ) → form ≤ 1 → All fits (aiming.forms i form)
    pub short : (one : Instr) × (aiming.forms i 0 ≡ one ∷ []) × (aiming.is_directed one ≡ aiming.is_directed i)
    pub long : (front : List Instr) × (last : Instr) × (aiming.forms i 1 ≡ front ++ last ∷ [])
        × (aiming.is_directed last ≡ aiming.is_directed i)
    pub longer : bytes_of set (aiming.forms i 0) ≤ bytes_of set (aiming.forms i 1)
    pub alone : (form pc : ℕ) → form ≤ 1 → pc < 2 ^ 64 → jump_goal (set.effect i pc).next ≡ None
        → aiming.forms i form ≡ i ∷ []
    pub jumps : (form pc goal : ℕ) → form ≤ 1 → pc < 2 ^ 64 → jump_goal (set.effect i pc).next ≡ Some goal
        → JumpsAs (set.effect i pc).next (aiming.forms i form)

  abbrev pub HaveForms : Type 0
  HaveForms = (i : Instr) → fits i → HasForms i

  -- an instruction has as many bytes, whatever address it holds
  abbrev pub KeepLengths : Type 0
  KeepLengths =
      (i j : Instr) → fits i → fits j → aiming.undirected i ≡ aiming.undirected j
      → length (set.spelling i) ≡ length (set.spelling j)

  -- The whole of a goal is the goal. Where the machine goes on is the address that an instruction holds, and aiming it changes
  -- nothing else of that. A direct jump or call is directed
  pub record HoldGoals : Type 0 where
    pub whole : (place goal : ℕ) → aiming.part_of Whole place goal ≡ goal
    pub jump : (i : Instr) (pc goal : ℕ) → fits i → pc < 2 ^ 64 → jump_goal (set.effect i pc).next ≡ Some goal
        → (aiming.held i Whole pc ≡ Some goal) × (aiming.is_directed i ≡ true)
    pub call : (i : Instr) (pc goal : ℕ) → fits i → pc < 2 ^ 64 → call_goal (set.effect i pc).next ≡ Some goal
        → (aiming.held i Whole pc ≡ Some goal) × (aiming.is_directed i ≡ true)
    pub aimed : (i j : Instr) (pc place goal : ℕ) → fits i → pc < 2 ^ 64 → place < 2 ^ 64 → goal < 2 ^ 64
        → Aims i Whole place goal j → (set.effect j place).next ≡ with_goal goal (set.effect i pc).next

  -- An instruction reaches the goals whose distance from its place lies in a range that has 0 in it and is the same everywhere. It's
  -- told of places and goals below 2^32 that differ by whole quanta
  pub record HasReach (quantum : ℕ) (i : Instr) : Type 0 where
    pub low : ℤ
    pub high : ℤ
    pub low_most : low ≤ℤ pos 0
    pub high_least : pos 0 ≤ℤ high
    pub reach : (place goal : ℕ) → place < 2 ^ 32 → goal < 2 ^ 32 → place % quantum ≡ goal % quantum
        → CanReach i place goal ↔ ((low ≤ℤ (pos goal -ℤ pos place)) × ((pos goal -ℤ pos place) ≤ℤ high))

  abbrev pub HaveReach : ℕ → Type 0
  HaveReach quantum = (i : Instr) → fits i → aiming.is_directed i ≡ true → HasReach quantum i

  -- the instruction j stands for i at a place: aimed where i refers to something whose address is known
  abbrev pub IsAimed : (To → Option ℕ) → Option Refer → ℕ → Instr → Instr → Type 0
  IsAimed goal_of None place i j = j ≡ i
  IsAimed goal_of (Some refer) place i j = (goal : ℕ) × (goal_of refer.to ≡ Some goal) × Aims i refer.part place goal j

  -- of a form the last instruction is aimed, and those before it stay as they are
  abbrev pub IsAimedForm : (To → Option ℕ) → Option Refer → ℕ → List Instr → List Instr → Type 0
  IsAimedForm goal_of refer place [] code = code ≡ []
  IsAimedForm goal_of refer place (i ∷ []) code = (j : Instr) × IsAimed goal_of refer place i j × (code ≡ j ∷ [])
  IsAimedForm goal_of refer place (i ∷ k ∷ form) code =
      (rest : List Instr) × IsAimedForm goal_of refer (place + length (set.spelling i)) (k ∷ form) rest × (code ≡ i ∷ rest)

  -- the code that picked instructions make from a place on, each in one of its forms
  abbrev pub IsPlaced : (To → Option ℕ) → ℕ → List (Picked Instr) → List Instr → Type 0
  IsPlaced goal_of place [] code = code ≡ []
  IsPlaced goal_of place (pick ∷ picks) code =
      (form : ℕ) × (front : List Instr) × (back : List Instr) × (form ≤ 1)
      × IsAimedForm goal_of pick.refer place (aiming.forms pick.instr form) front
      × IsPlaced goal_of (place + bytes_of set front) picks back × (code ≡ front ++ back)
