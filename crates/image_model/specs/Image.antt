-- An image as a machine sees it: what is done at each address, without the instruction that says so.
use Rattle.std.specs.Prelude.{◌≡◌, ℕ, ℤ, ◌&&◌, Bool, false, not, Option, is_some}
use Rattle.machine_effect.specs.declared.flow.Flow.{Flow}
use Rattle.machine_effect.specs.declared.flow.Shape.{Shape}
use Rattle.machine_effect.specs.declared.next.Next.{Next}
use Rattle.machine_effect.specs.Flow.{flow_of}
use Rattle.asm_target.specs.declared.sequence.Sequence.{Sequence}
use Rattle.asm_target.specs.DepthChange.{is_call}
use Rattle.asm_target.specs.FlowFunction.{Range, call_goal, is_among, is_within}
use Rattle.asm_target.specs.Runs.{PlacedEffect}

-- An instruction of an image: the entry of its function; by how many bytes the stack pointer lies below its value at that entry, and
-- how many the instruction adds to them; what it does at its place; the sequence that it stands in; what the instructions do that are
-- judged by this sequence, by their numbers, and its own number among them. A plain instruction stands alone, with the number 0
pub record Line : Type 0 where
  pub entry : ℕ
  pub depth : ℕ
  pub change : ℤ
  pub part : PlacedEffect
  pub role : Sequence
  pub parts : ℕ → PlacedEffect
  pub index : ℕ

-- The registers of the stack pointer and of return addresses, and the one that holds the return address before the stack grows; the
-- bytes of the text; which addresses are entries of its functions, and which are those of the routines outside that grow the stack;
-- the instruction that begins at an address; and the place of the call that ends there and is no call of such a routine
pub record Image : Type 0 where
  pub shape : Shape
  pub growth : Option ℕ
  pub text : Range
  pub is_entry : ℕ → Bool
  pub is_growth_routine : ℕ → Bool
  pub line_at : ℕ → Option Line
  pub after_call : ℕ → Option ℕ

abbrev pub next_of : Line → Next
next_of line = line.part.effect.next

-- a call to one of these routines
abbrev pub is_growth_call : (ℕ → Bool) → Next → Bool
is_growth_call is_routine next = is_among is_routine (call_goal next)

-- a call to anything else
abbrev pub is_served : (ℕ → Bool) → Next → Bool
is_served is_routine next = is_call next && not (is_growth_call is_routine next)

module _ (img : Image) where
  -- a call leaves its return address in a register, and not on the stack
  abbrev pub has_link : Bool
  has_link = is_some img.shape.link

  abbrev pub IsOutside : ℕ → Type 0
  IsOutside at = is_within img.text at ≡ false

  abbrev pub flow_in : Line → Flow
  flow_in line = flow_of line.part.effect img.shape
