-- What follows from what a sequence does.
use Rattle.std.proofs.Common.{◌≡◌, ℕ, pos, suc, ◌<◌, ◌≤◌, true, false, Option, Some, None, is_some, refl, arith}
use Rattle.machine_effect.specs.declared.flow.Shape.{Shape}
use Rattle.machine_effect.specs.declared.next.Next.TheVariants as next
use Rattle.asm_target.specs.declared.sequence.Sequence.{Sequence}
use Rattle.asm_target.specs.declared.sequence.Sequence.TheVariants.{Plain, Saving, Restoring, Growth}
use Rattle.asm_target.specs.Runs.{PlacedEffect}
use Rattle.asm_target.specs.Sequences.{depth_added_by, is_plain, span_of}
use Rattle.image_model.specs.Actions.{ActsAs}

module _ (shape : Shape) (parts : ℕ → PlacedEffect) where
  -- up to its last instruction but one, it falls through
  pub falls_inside : (link growth : Option ℕ) (role : Sequence) → ActsAs shape parts link growth role
      → (j : ℕ) → suc j < span_of role → (parts j).effect.next ≡ next.Fall
  falls_inside link growth Plain acts j less = absurd (omega arith)
  falls_inside (Some link) growth (Saving count total) acts j less = acts.1.falls j (omega arith)
  falls_inside (Some link) growth (Restoring count total) acts j less = acts.1.falls j (omega arith)
  falls_inside (Some link) (Some growth) (Growth count) acts j less = acts.falls j (omega arith)
  falls_inside (Some link) None (Growth count) acts j less = absurd acts
  falls_inside None growth (Saving count total) acts j less = absurd acts
  falls_inside None growth (Restoring count total) acts j less = absurd acts
  falls_inside None growth (Growth count) acts j less = absurd acts

  -- an instruction behind which the machine doesn't go on ends no frame's sequence
  pub adds_nothing : (link growth : Option ℕ) (role : Sequence) → ActsAs shape parts link growth role
      → (j : ℕ) → j < span_of role → ¬ ((parts j).effect.next ≡ next.Fall) → depth_added_by role ≡ pos 0
  adds_nothing link growth Plain acts j less ends = refl
  adds_nothing link growth (Growth count) acts j less ends = refl
  adds_nothing (Some link) growth (Saving count total) acts j less ends = absurd (ends (acts.1.falls j less))
  adds_nothing (Some link) growth (Restoring count total) acts j less ends = absurd (ends (acts.1.falls j less))
  adds_nothing None growth (Saving count total) acts j less ends = absurd acts
  adds_nothing None growth (Restoring count total) acts j less ends = absurd acts

  -- where there is a sequence, there is a link register
  pub acts_linked : (link growth : Option ℕ) (role : Sequence) → ActsAs shape parts link growth role
      → is_plain role ≡ false → is_some link ≡ true
  acts_linked (Some link) growth role acts some = refl
  acts_linked None growth Plain acts some = absurd (cc)
  acts_linked None growth (Saving count total) acts some = absurd acts
  acts_linked None growth (Restoring count total) acts some = absurd acts
  acts_linked None growth (Growth count) acts some = absurd acts

  pub growth_most : (link growth : Option ℕ) (count : ℕ) → ActsAs shape parts link growth (Growth count) → 2 ≤ count
  growth_most (Some link) (Some growth) count acts = acts.most
  growth_most (Some link) None count acts = absurd acts
  growth_most None growth count acts = absurd acts
