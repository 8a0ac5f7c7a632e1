-- What the flow rules say of a function that breaks none.
use Rattle.std.proofs.Common.{◌≡◌, ℕ, pos, ◌<◌, ◌==◌, ◌&&◌, ◌||◌, Bool, true, false, not, refl, sym, ◌∙◌, arith}
use Rattle.std.proofs.lemmas.Bool.Decides.{Decides-eqb, Decides-int_eq}
use Rattle.std.specs.Ordering.{int_eq}
use Rattle.std.specs.Prelude.{◌+ℤ◌}
use Rattle.asm_target.specs.DepthChange.{depth_change}
use Rattle.asm_target.specs.FlowFunction.{FlowFunction, depth_view, outgoing}
use Rattle.asm_target.specs.FlowRules.{IsFlowSound, breaks, can_follow, differs}
use Rattle.asm_target.proofs.CleanLemmas.{Unbroken}
use Rattle.image_model.proofs.PositionLemmas.{none_under}

pub unless_not : (one other : Bool) → one ≡ true → (one && not other) ≡ false → other ≡ true
unless_not true true is off = refl
unless_not true false is off = sym off
unless_not false other is off = absurd (cc)

pub or_off : (one other : Bool) → (one || other) ≡ false → (one ≡ false) × (other ≡ false)
or_off true other off = absurd (cc)
or_off false other off = (refl, off)

pub and_off : (one other : Bool) → one ≡ true → (one && other) ≡ false → other ≡ false
and_off true other is off = off
and_off false other is off = absurd (cc)

pub not_off : (one : Bool) → not one ≡ false → one ≡ true
not_off true off = refl
not_off false off = sym off

module _ (f : FlowFunction) (sound : IsFlowSound f) (k : ℕ) (inside : k < f.count) where
  -- each rule holds
  pub keeps : Unbroken f k
  unfolding breaks
  keeps = record {
    f1 = sound k 1 inside (omega arith);
    f2 = sound k 2 inside (omega arith);
    f3 = sound k 3 inside (omega arith);
    f4 = sound k 4 inside (omega arith);
    f5 = sound k 5 inside (omega arith);
    f6 = sound k 6 inside (omega arith);
    f7 = sound k 7 inside (omega arith);
    f8 = sound k 8 inside (omega arith);
    f9 = sound k 9 inside (omega arith);
  }

  pub out : outgoing f k ≡ pos (f.depth k) +ℤ depth_change (depth_view f) k
  unfolding outgoing
  out = refl

  -- what can follow has the depth behind the instruction
  pub followed : (j : ℕ) → j < f.count → can_follow f k j ≡ true → pos (f.depth j) ≡ pos (f.depth k) +ℤ depth_change (depth_view f) k
  followed j less follows =
      let same : int_eq (outgoing f k) (pos (f.depth j)) ≡ true =
      unless_not (can_follow f k j) (int_eq (outgoing f k) (pos (f.depth j))) follows (none_under (differs f k) f.count j keeps.f1 less) in
      sym ((Decides-int_eq (outgoing f k) (pos (f.depth j))).0 same) ∙ out

-- the function's first instruction stands at depth 0
pub first_depth : (f : FlowFunction) → IsFlowSound f → 0 < f.count → f.depth 0 ≡ 0
first_depth f sound some =
    let rest = (or_off _ _ (or_off _ _ (keeps f sound 0 some).f9).1).1 in
    (Decides-eqb (f.depth 0) 0).0 (not_off (f.depth 0 == 0) rest)
