-- Code that stands in a function, by which the laws on entering, leaving and checking are told in terms of the flow rules.
use Rattle.std.specs.Prelude.{◌≡◌, ℕ, suc, pos, ◌+◌, ◌^◌, ◌<◌, ◌≤◌, List, [], ◌++◌, All, true, false, length, drop, Option, Some, None}
use Rattle.std.specs.List.{slice_get}
use Rattle.machine_effect.specs.declared.flow.Shape.{Shape}
use Rattle.machine_effect.specs.Flow.{flow_of}
use Rattle.asm_target.specs.declared.frame.FrameShape.{FrameShape}
use Rattle.asm_target.specs.declared.frame.Guard.{Guard}
use Rattle.asm_target.specs.declared.refer.To.{To}
use Rattle.asm_target.specs.declared.refer.To.TheVariants as to
use Rattle.asm_target.specs.declared.sequence.Sequence.{Sequence}
use Rattle.asm_target.specs.Aiming.{Aiming, IsPlaced}
use Rattle.asm_target.specs.FlowFunction.{FlowFunction, is_target, is_within, outgoing}
use Rattle.asm_target.specs.FlowRules.{breaks}
use Rattle.asm_target.specs.Frames.{IsFrame}
use Rattle.asm_target.specs.InstructionSet.{InstructionSet}

-- the n instructions from a position on break no rule
abbrev pub IsClean : FlowFunction → ℕ → ℕ → Type 0
IsClean f at n = (k rule : ℕ) → k < n → rule ≤ 9 → breaks f (at + k) rule ≡ false

-- their depths are as they follow from one another
abbrev pub IsLinear : FlowFunction → ℕ → ℕ → Type 0
IsLinear f at n = (k : ℕ) → k < n → pos (f.depth (at + suc k)) ≡ outgoing f (at + k)

-- no jump goes to one of them but the first
abbrev pub IsUnhit : FlowFunction → ℕ → ℕ → Type 0
IsUnhit f at n = (k : ℕ) → suc k < n → is_target f (at + suc k) ≡ false

-- they and what stands behind them have one depth
abbrev pub IsLevel : FlowFunction → ℕ → ℕ → ℕ → Type 0
IsLevel f at n depth = (k : ℕ) → k ≤ n → f.depth (at + k) ≡ depth

-- where the code of a check goes: to the function's first instruction, the block's first, the one behind the block, and the routine
-- that grows the stack
abbrev pub guard_goal : FlowFunction → ℕ → ℕ → ℕ → To → Option ℕ
guard_goal f block past routine to.Entry = Some (f.at 0)
guard_goal f block past routine to.Block = Some (f.at block)
guard_goal f block past routine to.Past = Some (f.at past)
guard_goal f block past routine to.Grow = Some routine
guard_goal f block past routine _ = None

module _ {Instr : Type 0} (set : InstructionSet Instr) (fits : Instr → Type 0) (begins : List Instr → Sequence) (shape : Shape) where
  -- the function has these instructions, one behind the other
  pub record HasCode (f : FlowFunction) (code : List Instr) : Type 0 where
    pub fit : All fits code
    pub count : f.count ≡ length code
    pub addresses : (k : ℕ) → k < f.count → f.at k < 2 ^ 64
    pub follows : (k : ℕ) (i : Instr) → slice_get code k ≡ Some i → suc k < f.count
        → f.at (suc k) ≡ f.at k + length (set.spelling i)
    pub flow : (k : ℕ) (i : Instr) → slice_get code k ≡ Some i → f.flow k ≡ flow_of (set.effect i (f.at k)) shape
    pub found : (k : ℕ) → f.found k ≡ begins (drop k code)
    pub link : f.link ≡ shape.link

  -- code stands at a position of a function that goes on after it. The function's depths follow from one another there, and no jump
  -- goes to an instruction of the code but the first
  pub record StandsAt (f : FlowFunction) (at : ℕ) (code : List Instr) : Type 0 where
    pub all : List Instr
    pub whole : HasCode f all
    pub rest : List Instr
    pub here : drop at all ≡ code ++ rest
    pub goes_on : at + length code < f.count
    pub unhit : IsUnhit f at (length code)
    pub linear : IsLinear f at (length code)

  -- Placed anywhere at one depth, the code breaks no rule and ends at the other depth. At the function's entry the depth has to be 0
  pub record Leads (before after : ℕ) (code : List Instr) (f : FlowFunction) (at : ℕ) : Type 0 where
    pub clean : IsClean f at (length code)
    pub ends : f.depth (at + length code) ≡ after

  abbrev pub KeepsRules : List Instr → ℕ → ℕ → Type 0
  KeepsRules code before after =
      (f : FlowFunction) (at : ℕ) → StandsAt f at code → f.depth at ≡ before → (at ≡ 0 → before ≡ 0)
      → Leads before after code f at

  -- without a frame there is nothing to do, and the code for a frame leads from one depth to the other
  pub record MovesDepth (code : FrameShape → List Instr) (frame : FrameShape) (before after : ℕ) : Type 0 where
    pub none : frame.total ≡ 0 → code frame ≡ []
    pub keeps : KeepsRules (code frame) before after

  abbrev pub Enters : ℕ → (FrameShape → List Instr) → Type 0
  Enters machine entry = (frame : FrameShape) → IsFrame machine frame → MovesDepth entry frame 0 frame.total

  abbrev pub Leaves : ℕ → (FrameShape → List Instr) → Type 0
  Leaves machine exit = (frame : FrameShape) → IsFrame machine frame → MovesDepth exit frame frame.total 0

  module _ (aiming : Aiming Instr) where
    -- A check stands at a function's first instruction, and its block in its place: directly behind the check, or as the function's
    -- last instructions. The function goes on behind the check, and behind a block in its place. No jump goes to an instruction of the block
    -- but the first. The routine that grows the stack lies outside the text
    pub record StandsGuarded (f : FlowFunction) (guard : Guard Instr) (block routine : ℕ) (head body : List Instr) : Type 0 where
      pub all : List Instr
      pub whole : HasCode f all
      pub rest : List Instr
      pub head_here : all ≡ head ++ rest
      pub behind : List Instr
      pub body_here : drop block all ≡ body ++ behind
      pub head_placed : IsPlaced set fits aiming (guard_goal f block (block + length body) routine) (f.at 0) guard.head head
      pub body_placed : IsPlaced set fits aiming (guard_goal f block (block + length body) routine) (f.at block) guard.block body
      pub in_place : guard.in_place ≡ true → (block ≡ length head) × (block + length body < f.count)
      pub at_end : guard.in_place ≡ false → (length head ≤ block) × (block + length body ≡ f.count)
      pub goes_on : length head < f.count
      pub unhit : IsUnhit f block (length body)
      pub level : (f.depth 0 ≡ 0) × (f.depth block ≡ 0) × (guard.in_place ≡ true → f.depth (block + length body) ≡ 0)
      pub head_linear : IsLinear f 0 (length head)
      pub body_linear : (k : ℕ) → suc k < length body → pos (f.depth (block + suc k)) ≡ outgoing f (block + k)
      pub routine_told : f.is_growth_routine routine ≡ true
      pub routine_outside : is_within f.text routine ≡ false
      pub routine_low : routine < 2 ^ 64

    -- both break no rule and stay at depth 0
    pub record IsGuarded (f : FlowFunction) (block : ℕ) (head body : List Instr) : Type 0 where
      pub head_clean : IsClean f 0 (length head)
      pub head_level : IsLevel f 0 (length head) 0
      pub body_clean : IsClean f block (length body)
      pub body_level : (k : ℕ) → k < length body → f.depth (block + k) ≡ 0

    abbrev pub KeepsLevel : Guard Instr → Type 0
    KeepsLevel guard =
        (f : FlowFunction) (block routine : ℕ) (head body : List Instr)
        → StandsGuarded f guard block routine head body → IsGuarded f block head body
