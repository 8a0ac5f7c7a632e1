-- A sound image has functions.
use Rattle.std.proofs.Common.{ℕ, ◌<◌, ◌≤◌, ◌⊎◌, List, [], arith, inl, inr}
use Rattle.std.proofs.lemmas.Bool.{cases_lt}
use Rattle.image_model.specs.Listed.{Listed}
use Rattle.image_rules.specs.Functions.{AreFunctionsOf, IsFunction}
use Rattle.image_rules.specs.Machine.{Machine}
use Rattle.image_rules.specs.Parts.{count_in}
use Rattle.image_rules.specs.Sound.{IsSoundImage}

module _ {Instr : Type 0} (machine : Machine Instr) (bytes : List ℕ) (sound : IsSoundImage machine bytes) where
  pick : (index : ℕ) → ((index < count_in bytes) ⊎ (count_in bytes ≤ index)) → Listed Instr
  pick index (inl less) = (sound.functions index less).0
  pick index (inr over) = record { code = []; depths = [] }

  picked : (index : ℕ) (case : (index < count_in bytes) ⊎ (count_in bytes ≤ index)) → index < count_in bytes
      → IsFunction machine bytes index (pick index case)
  unfolding pick
  picked index (inl less) inside = (sound.functions index less).1.function
  picked index (inr over) inside = absurd (omega arith)

  pub family : ℕ → Listed Instr
  family index = pick index (cases_lt index (count_in bytes))

  pub families : AreFunctionsOf machine bytes family (count_in bytes)
  unfolding family
  families index inside = picked index (cases_lt index (count_in bytes)) inside
