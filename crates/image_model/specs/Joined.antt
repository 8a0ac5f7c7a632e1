-- An image out of functions.
use Rattle.std.specs.Prelude.{◌≡◌, ℕ, zero, suc, ◌+◌, ◌-◌, ◌^◌, ◌<◌, ◌≤◌, ◌==◌, ◌&&◌, Bool, true, false, Option, Some, None, is_some, if◌then◌else◌}
use Rattle.std.specs.Option.{option_map, option_or}
use Rattle.machine_effect.specs.declared.flow.Shape.{Shape}
use Rattle.machine_effect.specs.declared.flow.SpMove.TheVariants.{Keep}
use Rattle.machine_effect.specs.declared.next.Next.TheVariants as next
use Rattle.machine_effect.specs.Applies.{link_of}
use Rattle.machine_effect.specs.Flow.{flow_of}
use Rattle.asm_target.specs.DepthChange.{depth_change, is_call}
use Rattle.asm_target.specs.FlowFunction.{FlowFunction, Range, depth_view, is_within, role_at, start_at}
use Rattle.asm_target.specs.FlowRules.{IsFlowSound}
use Rattle.asm_target.specs.Runs.{PlacedEffect}
use Rattle.flow_rules.specs.Lawful.{IsLawful}
use Rattle.image_model.specs.Actions.{ActsAs}
use Rattle.image_model.specs.Image.{Image, Line, is_served}
use Rattle.image_model.specs.Soundness.{HasRegisters, IsSoundLine}

-- a function as the flow rules see it, and what each of its instructions does at its place
pub record Code : Type 0 where
  pub rules : FlowFunction
  pub placed : ℕ → PlacedEffect

-- functions by number, with the registers, the text, its entries and the routines outside of the image that they make
pub record Text : Type 0 where
  pub count : ℕ
  pub code : ℕ → Code
  pub shape : Shape
  pub growth : Option ℕ
  pub range : Range
  pub is_entry : ℕ → Bool
  pub is_growth_routine : ℕ → Bool

-- what is found at the last number below n where anything is
abbrev pub some_below : {A : Type 0} → (ℕ → Option A) → ℕ → Option A
some_below find zero = None
some_below find (suc n) = option_or (find n) (some_below find n)

abbrev pub only_if : {A : Type 0} → Bool → A → Option A
only_if test x = if test then Some x else None

module _ (code : Code) where
  -- the instruction at a position
  abbrev pub line_of : ℕ → Line
  line_of k = record {
    entry = code.rules.at 0;
    depth = code.rules.depth k;
    change = depth_change (depth_view code.rules) k;
    part = code.placed k;
    role = role_at code.rules k;
    parts = λ j. code.placed (start_at code.rules k + j);
    index = k - start_at code.rules k;
  }

  -- the position of the instruction that begins at an address
  abbrev pub position : ℕ → Option ℕ
  position at = some_below (λ k. only_if (code.rules.at k == at) k) code.rules.count

  -- the place of the call that ends there
  abbrev pub call_behind : (ℕ → Bool) → ℕ → Option ℕ
  call_behind is_routine past =
      some_below (λ k. only_if (is_served is_routine (code.placed k).effect.next && ((code.placed k).past == past)) (code.rules.at k))
      code.rules.count

-- the functions as one image
abbrev pub joined : Text → Image
joined text = record {
  shape = text.shape;
  growth = text.growth;
  text = text.range;
  is_entry = text.is_entry;
  is_growth_routine = text.is_growth_routine;
  line_at = λ at. some_below (λ i. option_map (line_of (text.code i)) (position (text.code i) at)) text.count;
  after_call = λ past. some_below (λ i. call_behind (text.code i) text.is_growth_routine past) text.count;
}

-- each instruction has bytes, the last of them below 2 ^ 64, and stands where the one before it ends; and the function's own bytes
-- are theirs
pub record IsInRow (code : Code) : Type 0 where
  pub some : 0 < code.rules.count
  pub long : (k : ℕ) → k < code.rules.count → code.rules.at k < (code.placed k).past
  pub room : (k : ℕ) → k < code.rules.count → (code.placed k).past ≤ 2 ^ 64
  pub follows : (k : ℕ) → suc k < code.rules.count → code.rules.at (suc k) ≡ (code.placed k).past
  pub first : code.rules.own.first ≡ code.rules.at 0
  pub past : (k : ℕ) → suc k ≡ code.rules.count → code.rules.own.past ≡ (code.placed k).past

-- the function tells what the text does
pub record IsTold (text : Text) (code : Code) : Type 0 where
  pub link : code.rules.link ≡ text.shape.link
  pub range : code.rules.text ≡ text.range
  pub flow : (k : ℕ) → k < code.rules.count → code.rules.flow k ≡ flow_of (code.placed k).effect text.shape
  pub is_entry : (at : ℕ) → code.rules.is_entry at ≡ text.is_entry at
  pub is_growth_routine : (at : ℕ) → code.rules.is_growth_routine at ≡ text.is_growth_routine at

-- Functions lie in the text, one behind the other; the entries are their first instructions; what grows the stack lies outside
pub record IsText (text : Text) : Type 0 where
  pub row : (i : ℕ) → i < text.count → IsInRow (text.code i)
  pub told : (i : ℕ) → i < text.count → IsTold text (text.code i)
  pub apart : (i j : ℕ) → i < j → j < text.count → (text.code i).rules.own.past ≤ (text.code j).rules.own.first
  pub low : (i : ℕ) → i < text.count → text.range.first ≤ (text.code i).rules.own.first
  pub high : (i : ℕ) → i < text.count → (text.code i).rules.own.past ≤ text.range.past
  pub entry : (i : ℕ) → i < text.count → text.is_entry ((text.code i).rules.at 0) ≡ true
  pub entries : (at : ℕ) → text.is_entry at ≡ true → (i : ℕ) × (i < text.count) × (at ≡ (text.code i).rules.at 0)
  pub growth : (at : ℕ) → text.is_growth_routine at ≡ true → is_within text.range at ≡ false

-- A function's sequences lie apart and do what they're for; an instruction behind which the machine doesn't go on leaves the
-- stack pointer; and a call links exactly where there is a link register
pub record IsMachineCode (text : Text) (code : Code) : Type 0 where
  pub lawful : IsLawful code.rules
  pub acts : (k : ℕ) → k < code.rules.count
      → ActsAs text.shape (λ j. code.placed (k + j)) text.shape.link text.growth (code.rules.found k)
  pub still : (k : ℕ) → k < code.rules.count → ¬ ((code.placed k).effect.next ≡ next.Fall)
      → (flow_of (code.placed k).effect text.shape).sp ≡ Keep
  pub links : (k : ℕ) → k < code.rules.count → is_call (code.placed k).effect.next ≡ true
      → is_some (link_of (code.placed k).effect.next) ≡ is_some text.shape.link

pub record IsMachine (text : Text) : Type 0 where
  pub registers : HasRegisters (joined text)
  pub code : (i : ℕ) → i < text.count → IsMachineCode text (text.code i)

-- each function breaks no flow rule
abbrev pub AreFlowSound : Text → Type 0
AreFlowSound text = (i : ℕ) → i < text.count → IsFlowSound (text.code i).rules

-- The instructions of a function stand in the image, and are sound there
pub record IsSoundFunction (img : Image) (code : Code) : Type 0 where
  pub stands : (k : ℕ) → k < code.rules.count → img.line_at (code.rules.at k) ≡ Some (line_of code k)
  pub lines : (k : ℕ) → k < code.rules.count → IsSoundLine img (code.rules.at k) (line_of code k)

-- an instruction of a function stands at the address
pub record IsLineOf (text : Text) (address : ℕ) (line : Line) : Type 0 where
  pub function : ℕ
  pub known : function < text.count
  pub position : ℕ
  pub inside : position < (text.code function).rules.count
  pub at : (text.code function).rules.at position ≡ address
  pub line_is : line_of (text.code function) position ≡ line

-- a call that isn't one of a routine that grows the stack stands at the place and ends at the address
pub record IsCallOf (text : Text) (address place : ℕ) : Type 0 where
  pub function : ℕ
  pub known : function < text.count
  pub position : ℕ
  pub inside : position < (text.code function).rules.count
  pub past : ((text.code function).placed position).past ≡ address
  pub at : (text.code function).rules.at position ≡ place
  pub served : is_served text.is_growth_routine ((text.code function).placed position).effect.next ≡ true
