-- A function as the flow rules see it, and its sequences.
use Rattle.std.specs.Prelude.{ℕ, zero, suc, ℤ, pos, ◌+ℤ◌, ◌+◌, ◌-◌, ◌==◌, ◌&&◌, Bool, false, not, nat_le, nat_lt, Option, Some, None, if◌then◌else◌}
use Rattle.machine_effect.specs.declared.flow.Flow.{Flow}
use Rattle.machine_effect.specs.declared.next.Next.{Next}
use Rattle.machine_effect.specs.declared.next.Next.TheVariants as next
use Rattle.asm_target.specs.declared.sequence.Sequence.{Sequence}
use Rattle.asm_target.specs.declared.sequence.Sequence.TheVariants.{Plain, Growth}
use Rattle.asm_target.specs.Sequences.{count_of, span_of}
use Rattle.asm_target.specs.DepthChange.{DepthView, any_below, depth_change, is_at_depth, is_hit}

-- the addresses from the first on and before the other
pub record Range : Type 0 where
  pub first : ℕ
  pub past : ℕ

abbrev pub is_within : Range → ℕ → Bool
is_within range at = nat_le range.first at && nat_lt at range.past

-- Of the instruction at each position: its address, the depth that the function's table has for it, what it does there, and which
-- sequence begins with it by the instructions alone. Then the link register; the bytes of the text and of the function; which
-- addresses are entries of the text's functions; and which are those of the routines outside that grow the stack
pub record FlowFunction : Type 0 where
  pub count : ℕ
  pub at : ℕ → ℕ
  pub depth : ℕ → ℕ
  pub flow : ℕ → Flow
  pub found : ℕ → Sequence
  pub link : Option ℕ
  pub text : Range
  pub own : Range
  pub is_entry : ℕ → Bool
  pub is_growth_routine : ℕ → Bool

-- where a direct jump goes, if its condition holds
abbrev pub jump_goal : Next → Option ℕ
jump_goal (next.Branch held goal) = Some goal
jump_goal (next.Jump goal) = Some goal
jump_goal _ = None

-- where a direct call goes
abbrev pub call_goal : Next → Option ℕ
call_goal (next.Call goal link) = Some goal
call_goal _ = None

abbrev pub is_goal : Option ℕ → ℕ → Bool
is_goal (Some goal) at = goal == at
is_goal None at = false

abbrev pub is_among : (ℕ → Bool) → Option ℕ → Bool
is_among test (Some goal) = test goal
is_among test None = false

-- the position where the sequence begins that an instruction stands in, where sequences of these lengths are told apart from the
-- first position on: one goes as far as its length, and the next begins behind it
unfoldable pub start_of : (ℕ → ℕ) → ℕ → ℕ
start_of len zero = zero
start_of len (suc k) = if nat_lt (suc k) (start_of len k + len (start_of len k)) then start_of len k else suc k

module _ (f : FlowFunction) where
  abbrev pub next_at : ℕ → Next
  next_at k = (f.flow k).next

  -- a direct jump of the function goes to this instruction
  abbrev pub is_target : ℕ → Bool
  is_target j = any_below (λ i. is_goal (jump_goal (next_at i)) (f.at j)) f.count

  -- the n instructions from k on call a routine that grows the stack and jump to the function's entry, at depth 0
  abbrev pub is_grown : ℕ → ℕ → Bool
  is_grown k n =
      f.depth k == 0
      && (is_among f.is_growth_routine (call_goal (next_at (k + (n - 2))))
      && is_goal (jump_goal (next_at (k + (n - 1)))) (f.at 0))

  -- the sequence does here what it's meant to do
  abbrev pub is_in_order : ℕ → Sequence → Bool
  is_in_order k (Growth count) = is_grown k count
  is_in_order k found = is_at_depth found (f.depth k)

  -- the sequence that counts as one from k on: no jump goes to its instructions but the first
  unfoldable pub sequence_at : ℕ → Sequence
  sequence_at k =
      if is_in_order k (f.found k) && not (is_hit is_target k (count_of (f.found k) - 1)) then f.found k else Plain

  -- how many instructions from k on are judged by it
  abbrev pub span_at : ℕ → ℕ
  span_at k = span_of (sequence_at k)

  -- where the sequence begins that the instruction at k stands in, and which it is
  abbrev pub start_at : ℕ → ℕ
  start_at k = start_of span_at k

  abbrev pub role_at : ℕ → Sequence
  role_at k = sequence_at (start_at k)

  -- the instruction is the last one that's judged by it
  abbrev pub is_last : ℕ → Bool
  is_last k = suc k == start_at k + span_at (start_at k)

  abbrev pub depth_view : DepthView
  depth_view = record { link = f.link; flow = f.flow; depth = f.depth; found = f.found; is_target = is_target }

  -- the depth behind the instruction
  unfoldable pub outgoing : ℕ → ℤ
  outgoing k = pos (f.depth k) +ℤ depth_change depth_view k
