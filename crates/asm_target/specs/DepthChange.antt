-- By how much an instruction changes the depth of the stack: by how many bytes the stack pointer lies below its value at the
-- function's entry.
use Rattle.std.specs.Prelude.{ℕ, zero, suc, ℤ, pos, ◌-ℤ◌, ◌+◌, ◌-◌, ◌==◌, ◌&&◌, ◌||◌, List, Bool, true, false, not, nat_le, drop, Option, Some, None, is_some, if◌then◌else◌}
use Rattle.std.specs.List.{slice_get}
use Rattle.machine_effect.specs.declared.flow.Flow.{Flow}
use Rattle.machine_effect.specs.declared.flow.Shape.{Shape}
use Rattle.machine_effect.specs.declared.flow.SpMove.{SpMove}
use Rattle.machine_effect.specs.declared.flow.SpMove.TheVariants.{Keep, By, Other}
use Rattle.machine_effect.specs.declared.next.Next.{Next}
use Rattle.machine_effect.specs.declared.next.Next.TheVariants as next
use Rattle.machine_effect.specs.Flow.{flow_of}
use Rattle.asm_target.specs.declared.sequence.Sequence.{Sequence}
use Rattle.asm_target.specs.declared.sequence.Sequence.TheVariants.{Saving, Restoring}
use Rattle.asm_target.specs.InstructionSet.{InstructionSet}
use Rattle.asm_target.specs.Sequences.{count_of, depth_added_by}

-- the test holds of a number below this one
abbrev pub any_below : (ℕ → Bool) → ℕ → Bool
any_below test zero = false
any_below test (suc n) = any_below test n || test n

abbrev pub is_call : Next → Bool
is_call (next.Call goal link) = true
is_call (next.CallTo goal link) = true
is_call _ = false

abbrev pub is_return : Next → Bool
is_return next.Return = true
is_return _ = false

-- the depth that a move of the stack pointer adds; 0 where the move isn't by a constant
abbrev pub depth_added : SpMove → ℤ
depth_added Keep = pos 0
depth_added (By k) = pos 0 -ℤ k
depth_added Other = pos 0

-- a jump goes to one of the n instructions behind this position
abbrev pub is_hit : (ℕ → Bool) → ℕ → ℕ → Bool
is_hit is_target start n = any_below (λ j. is_target (start + suc j)) n

-- a function's code as far as depths need it: the link register, and of the instruction at each position what it does, at which
-- depth it stands, which sequence begins with it by the instructions alone, and whether a jump goes to it
pub record DepthView : Type 0 where
  pub link : Option ℕ
  pub flow : ℕ → Flow
  pub depth : ℕ → ℕ
  pub found : ℕ → Sequence
  pub is_target : ℕ → Bool

-- a sequence that leaves a frame does so at the depth that is the frame's size
abbrev pub is_at_depth : Sequence → ℕ → Bool
is_at_depth (Saving count total) depth = true
is_at_depth (Restoring count total) depth = total == depth
is_at_depth _ depth = false

-- the most instructions that a sequence has: those that make a frame of more than 2,032 bytes on riscv64
abbrev pub longest : ℕ
longest = 5

-- by how much an instruction changes the depth where there is no link register: as the stack pointer moves, but for the return
-- address that a call pushes and a return pops
abbrev pub moved_by : Flow → ℤ
moved_by flow = if is_call flow.next || is_return flow.next then pos 0 else depth_added flow.sp

module _ (view : DepthView) where
  -- the instruction at k is the last of a sequence that makes or leaves a frame and begins n instructions before it. A sequence
  -- counts only where no jump goes to its instructions but the first
  unfoldable pub ends_sequence : ℕ → ℕ → Bool
  ends_sequence k n =
      nat_le n k
      && (count_of (view.found (k - n)) == suc n
      && (is_at_depth (view.found (k - n)) (view.depth (k - n)) && not (is_hit view.is_target (k - n) n)))

  -- what the sequence adds that ends at k and has at most this many instructions
  abbrev pub added_within : ℕ → ℕ → ℤ
  added_within k zero = pos 0
  added_within k (suc n) = if ends_sequence k n then depth_added_by (view.found (k - n)) else added_within k n

  -- with a link register, a frame is made or left by a sequence, and the depth changes at its last instruction
  unfoldable pub depth_change : ℕ → ℤ
  depth_change k =
      if is_some view.link then added_within k longest
      else moved_by (view.flow k)

-- the flow of an instruction that a list has at a place; past the list's end nothing is done
abbrev pub flow_in : {Instr : Type 0} → InstructionSet Instr → Shape → Option Instr → Flow
flow_in set shape (Some i) = flow_of (set.effect i 0) shape
flow_in set shape None = record { sp = Keep; writes_link = false; stores_link = false; next = next.Stop }

abbrev pub is_marked : Option Bool → Bool
is_marked (Some mark) = mark
is_marked None = false

abbrev pub depth_or_zero : Option ℕ → ℕ
depth_or_zero (Some depth) = depth
depth_or_zero None = 0

-- Instructions that aren't placed yet, each with its depth and whether a jump goes to it; `begins` tells which sequence
-- instructions begin with. How the stack pointer moves doesn't depend on the address, so that is taken as 0
abbrev pub depth_view_of : {Instr : Type 0} → InstructionSet Instr → Shape → (List Instr → Sequence) → List Instr → List ℕ
    → List Bool → DepthView
depth_view_of set shape begins code depths targets = record {
  link = shape.link;
  flow = λ k. flow_in set shape (slice_get code k);
  depth = λ k. depth_or_zero (slice_get depths k);
  found = λ k. begins (drop k code);
  is_target = λ k. is_marked (slice_get targets k);
}
