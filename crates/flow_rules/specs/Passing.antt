-- What holds while a function's instructions are gone through.
use Rattle.std.specs.Prelude.{◌≡◌, ℕ, ℤ, pos, ◌+◌, ◌-◌, ◌<◌, ◌≤◌, Bool, true, false, Option, Some, None, if◌then◌else◌}
use Rattle.asm_target.specs.DepthChange.{is_hit}
use Rattle.asm_target.specs.FlowFunction.{FlowFunction, is_in_order, is_last, is_target, outgoing, role_at, span_at, start_at}
use Rattle.asm_target.specs.FlowRules.{HasDepths}
use Rattle.asm_target.specs.Sequences.{count_of, depth_added_by}
use Rattle.flow_rules.specs.declared.here.Here.{Here}
use Rattle.flow_rules.specs.declared.role.Role.{Role}

-- the first number below a count that meets a test
abbrev pub IsFirst : (ℕ → Bool) → ℕ → Option ℕ → Type 0
IsFirst test count (Some first) = (first < count) × (test first ≡ true) × ((j : ℕ) → j < first → test j ≡ false)
IsFirst test count None = (j : ℕ) → j < count → test j ≡ false

module _ (f : FlowFunction) where
  -- the sequence that begins at s is in order and has the instruction at k
  pub record GoesOver (s k : ℕ) : Type 0 where
    pub order : is_in_order f s (f.found s) ≡ true
    pub over : k < s + count_of (f.found s)

  -- the sequence that begins at s is in order, and a jump goes into it
  pub record IsBroken (s : ℕ) : Type 0 where
    pub order : is_in_order f s (f.found s) ≡ true
    pub hit : is_hit (is_target f) s (count_of (f.found s) - 1) ≡ true

  -- no jump goes into one of the sequences that begin before `first` and are in order
  abbrev pub AreUnhit : ℕ → Type 0
  AreUnhit first = (s : ℕ) → s < first → is_in_order f s (f.found s) ≡ true
      → is_hit (is_target f) s (count_of (f.found s) - 1) ≡ false

  -- the sequence that the instruction at k stands in
  pub record IsRole (k : ℕ) (role : Role) : Type 0 where
    pub start : role.start ≡ start_at f k
    pub past : role.past ≡ start_at f k + span_at f (start_at f k)
    pub found : role.found ≡ role_at f k

  -- the sequence of the instruction before k, or none
  pub record LeadsTo (k : ℕ) (role : Role) : Type 0 where
    pub inside : k < role.past → IsRole k role
    pub over : role.past ≤ k → start_at f k ≡ k

  -- by how much the instruction changes the depth as one of its sequence
  abbrev pub role_adds : ℕ → ℤ
  role_adds k = if is_last f k then depth_added_by (role_at f k) else pos 0

  -- the depths that come with a breach of a rule at k
  abbrev pub HasPair : ℕ → ℕ → ℤ × ℤ → Type 0
  HasPair k rule depths = HasDepths f k (record { rule = rule; address = f.at k; depths = depths })

  -- what is known of the instruction that is judged
  pub record IsHere (here : Here) : Type 0 where
    pub inside : here.number < f.count
    pub depth : here.depth ≡ f.depth here.number
    pub flow : here.flow ≡ f.flow here.number
    pub role : IsRole here.number here.role
    pub outgoing : here.outgoing ≡ outgoing f here.number
