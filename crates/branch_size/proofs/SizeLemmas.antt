-- What branch relaxation answers, said of the function.
use Rattle.std.proofs.Common.{◌≡◌, ℕ, ◌<◌, List, Some, length, subst, inl, inr, arith}
use Rattle.std.specs.List.{slice_get}
use Rattle.std.proofs.lemmas.List.{length-map}
use Rattle.std.proofs.lemmas.Option.{slice_get_cases}
use Rattle.goasm_base.specs.declared.pos.Pos.{Pos}
use Rattle.asm_target.specs.declared.body.Line.{Line}
use Rattle.asm_target.specs.declared.frame.Guard.{Guard}
use Rattle.asm_target.specs.Aiming.{Aiming}
use Rattle.asm_target.specs.InstructionSet.{InstructionSet}
use Rattle.least_forms.specs.Assignment.{IsLeast, IsLost}
use Rattle.least_forms.specs.Problem.{Problem}
use Rattle.branch_size.specs.declared.rows.Row.{Row}
use Rattle.branch_size.specs.Rows.{problem_of, row_of, rows_of}
use Rattle.branch_size.specs.Sizing.{branches_of, IsOutOfReach}

module _ {Instr : Type 0} (set : InstructionSet Instr) (fits : Instr → Type 0) (aiming : Aiming Instr) (quantum : ℕ)
    (guard : Guard Instr) (code : List (Line Instr)) where
  -- there are as many lines
  pub count_is : (branches_of set fits aiming quantum guard code).count ≡ length code
  unfolding problem_of
  count_is = length-map code (row_of set aiming guard code)

  -- what the rows' relaxation lacks
  abbrev pub LacksReach : Problem → ℕ → ℕ → Type 0
  LacksReach p line far = (form : ℕ → ℕ) × IsLeast p form × IsLost p form line far

  -- the rows are those of the lines
  pub same_lost : (rows : List (Row Instr)) → rows ≡ rows_of set aiming guard code → (line far : ℕ)
      → LacksReach (problem_of set fits aiming quantum rows) line far → LacksReach (branches_of set fits aiming quantum guard code) line far
  same_lost rows same line far lost = subst (λ r. LacksReach (problem_of set fits aiming quantum r) line far) same lost

  -- the lost branch is a line
  pub lost_line : (line far : ℕ) → LacksReach (branches_of set fits aiming quantum guard code) line far → line < length code
  lost_line line far lost = let within = lost.2.within in omega (arith, count_is)

  -- the first branch that is out of reach, with its place in the sources
  pub out_of_reach : (line far : ℕ) (pos : Pos) → LacksReach (branches_of set fits aiming quantum guard code) line far
      → ((item : Line Instr) → slice_get code line ≡ Some item → item.pos ≡ pos)
      → IsOutOfReach (branches_of set fits aiming quantum guard code) code pos far
  out_of_reach line far pos lost is = elim (slice_get_cases code line).1 [
    | inl some ↦ record {
      form = lost.0;
      least = lost.1;
      line = line;
      lost = lost.2;
      item = some.0;
      here = some.2;
      at = is some.0 some.2;
    }
    | inr none ↦ let past = none.0 in let within = lost_line line far lost in absurd (omega arith)
  ]
