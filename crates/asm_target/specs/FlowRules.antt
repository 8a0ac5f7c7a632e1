-- The rules that a function's depth table has to keep, each by the code under which its breach is told.
use Rattle.std.specs.Prelude.{◌≡◌, ℕ, suc, ℤ, pos, ◌<◌, ◌≤◌, ◌==◌, ◌&&◌, ◌||◌, Bool, true, false, not, int_lt, Option, Some, None, is_some, if◌then◌else◌}
use Rattle.std.specs.Ordering.{int_eq}
use Rattle.machine_effect.specs.declared.flow.SpMove.{SpMove}
use Rattle.machine_effect.specs.declared.flow.SpMove.TheVariants.{Keep, Other}
use Rattle.machine_effect.specs.declared.next.Next.{Next}
use Rattle.machine_effect.specs.declared.next.Next.TheVariants as next
use Rattle.machine_effect.specs.Applies.{link_of}
use Rattle.machine_effect.specs.Flow.{is_named}
use Rattle.asm_target.specs.Sequences.{is_growth, is_of_frame, is_saving}
use Rattle.asm_target.specs.DepthChange.{any_below, is_call, is_return}
use Rattle.asm_target.specs.FlowFunction.{FlowFunction, call_goal, is_among, is_goal, is_last, is_within, jump_goal, next_at, outgoing, role_at, start_at}

-- the machine may go on at the next address: also behind a call, once it returns, and behind a system call
abbrev pub can_pass : Next → Bool
can_pass next.Fall = true
can_pass (next.Branch held goal) = true
can_pass (next.Call goal link) = true
can_pass (next.CallTo goal link) = true
can_pass next.System = true
can_pass _ = false

abbrev pub is_indirect_jump : Next → Bool
is_indirect_jump (next.JumpTo goal) = true
is_indirect_jump _ = false

abbrev pub is_kept : SpMove → Bool
is_kept Keep = true
is_kept _ = false

abbrev pub is_other : SpMove → Bool
is_other Other = true
is_other _ = false

-- a call links through a register that isn't the link register, as CALL X5 of riscv64 does
abbrev pub links_elsewhere : Option ℕ → Option ℕ → Bool
links_elsewhere (Some register) link = not (is_named register link)
links_elsewhere None link = false

-- the greatest depth: that of the largest frame, 1 MiB, and a page for what is pushed in it
abbrev pub greatest_depth : ℕ
greatest_depth = 1052672

module _ (f : FlowFunction) where
  -- the instruction at j can follow the one at k in the function
  abbrev pub can_follow : ℕ → ℕ → Bool
  can_follow k j = (can_pass (next_at f k) && (suc k == j)) || is_goal (jump_goal (next_at f k)) (f.at j)

  -- and its depth isn't the one behind k
  abbrev pub differs : ℕ → ℕ → Bool
  differs k j = can_follow k j && not (int_eq (outgoing f k) (pos (f.depth j)))

  -- the address is that of one of the function's instructions
  abbrev pub is_start : ℕ → Bool
  is_start at = any_below (λ j. f.at j == at) f.count

  -- the address lies in the text, and is neither an instruction of the function nor an entry
  abbrev pub is_stray : ℕ → Bool
  is_stray at = is_within f.text at && not (is_start at || f.is_entry at)

  -- the address lies in the text and is no entry
  abbrev pub is_amid : ℕ → Bool
  is_amid at = is_within f.text at && not (f.is_entry at)

  -- the machine leaves the function, but not by a call
  abbrev pub is_leaving : Next → Bool
  is_leaving goes =
      is_return goes || (is_indirect_jump goes || is_among (λ goal. not (is_within f.own goal)) (jump_goal goes))

  -- the call of a sequence that grows the stack
  abbrev pub is_growth_call : ℕ → Bool
  is_growth_call k = is_growth (role_at f k) && is_last f k

  -- what follows has another depth
  abbrev pub breaks_f1 : ℕ → Bool
  breaks_f1 k = any_below (differs k) f.count

  -- the stack pointer is written otherwise than by a constant, or with a link register by a sequence of its frame
  abbrev pub breaks_f2 : ℕ → Bool
  breaks_f2 k =
      if is_some f.link then not (is_kept (f.flow k).sp) && not (is_of_frame (role_at f k)) else is_other (f.flow k).sp

  -- the function is left at a depth other than 0
  abbrev pub breaks_f3 : ℕ → Bool
  breaks_f3 k = is_leaving (next_at f k) && not (f.depth k == 0)

  -- a jump goes into the middle of code
  abbrev pub breaks_f4 : ℕ → Bool
  breaks_f4 k = is_among is_stray (jump_goal (next_at f k))

  -- a call goes into the middle of code
  abbrev pub breaks_f5 : ℕ → Bool
  breaks_f5 k = is_among is_amid (call_goal (next_at f k))

  -- the function's code ends where the machine can go on
  abbrev pub breaks_f6 : ℕ → Bool
  breaks_f6 k = can_pass (next_at f k) && (suc k == f.count)

  -- a call overwrites the return address before it is saved, or leaves its own elsewhere
  abbrev pub breaks_f7 : ℕ → Bool
  breaks_f7 k =
      is_some f.link
      && (is_call (next_at f k)
      && (not (is_growth_call k) && ((f.depth k == 0) || links_elsewhere (link_of (next_at f k)) f.link)))

  -- at depth 0 the link register holds the return address and stays; it's saved by a sequence, and from depth 0 on
  abbrev pub breaks_f8 : ℕ → Bool
  breaks_f8 k =
      is_some f.link
      && (((f.depth k == 0) && ((f.flow k).writes_link && not (is_growth_call k)))
      || (((f.depth k == 0) && ((f.flow k).stores_link && not (is_saving (role_at f k))))
      || (is_saving (role_at f k) && ((start_at f k == k) && not (f.depth k == 0)))))

  -- the depth lies outside its bounds, or isn't 0 at the entry
  abbrev pub breaks_f9 : ℕ → Bool
  breaks_f9 k =
      int_lt (outgoing f k) (pos 0)
      || (int_lt (pos greatest_depth) (outgoing f k) || ((k == 0) && not (f.depth k == 0)))

  -- the instruction at k breaks the rule of this number
  unfoldable pub breaks : ℕ → ℕ → Bool
  breaks k rule =
      if rule == 1 then breaks_f1 k
      else (if rule == 2 then breaks_f2 k
      else (if rule == 3 then breaks_f3 k
      else (if rule == 4 then breaks_f4 k
      else (if rule == 5 then breaks_f5 k
      else (if rule == 6 then breaks_f6 k
      else (if rule == 7 then breaks_f7 k
      else (if rule == 8 then breaks_f8 k
      else rule == 9 && breaks_f9 k)))))))

  -- no instruction breaks a rule
  abbrev pub IsFlowSound : Type 0
  IsFlowSound = (k rule : ℕ) → k < f.count → rule ≤ 9 → breaks k rule ≡ false

-- a rule's number, the address of an instruction that breaks it, and two depths: with the first rule the one behind the
-- instruction and the table's, with another 0 and 0
pub record Breach : Type 0 where
  pub rule : ℕ
  pub address : ℕ
  pub depths : ℤ × ℤ

module _ (f : FlowFunction) where
  -- the depths that a breach at k carries: of the instructions that can follow and have another depth, the first one's counts
  pub record HasDepths (k : ℕ) (breach : Breach) : Type 0 where
    pub others : (breach.rule ≡ 1 → ⊥) → breach.depths ≡ (pos 0, pos 0)
    pub pair : breach.rule ≡ 1
        → (j : ℕ) × (differs f k j ≡ true) × ((i : ℕ) → i < j → differs f k i ≡ false)
        × (breach.depths ≡ (outgoing f k, pos (f.depth j)))

  -- of the rules that the instruction at k breaks, the breach tells the lowest
  pub record IsBreachAt (k : ℕ) (breach : Breach) : Type 0 where
    pub place : breach.address ≡ f.at k
    pub broken : breaks f k breach.rule ≡ true
    pub lowest : (rule : ℕ) → rule < breach.rule → breaks f k rule ≡ false
    pub depths : HasDepths k breach

  -- and no instruction before it breaks one
  pub record IsFirstBreach (breach : Breach) : Type 0 where
    pub position : ℕ
    pub inside : position < f.count
    pub told : IsBreachAt position breach
    pub before : (k rule : ℕ) → k < position → rule ≤ 9 → breaks f k rule ≡ false
