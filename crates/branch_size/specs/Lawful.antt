-- A function's lines are as branch relaxation wants them.
use Rattle.std.specs.Prelude.{pos, ◌-ℤ◌, ◌≤ℤ◌, All}
use Rattle.std.specs.List.{slice_get}
use Rattle.std.proofs.Common.{◌≡◌, ◌⊎◌, ℕ, ℤ, zero, suc, List, [], ◌∷◌, ◌+◌, ◌%◌, ◌<◌, ◌≤◌, true, length, Option, Some, None, refl, sym, ◌∙◌, ap, subst, inl, inr, arith, length-append}
use Rattle.std.proofs.lemmas.Int.{ints}
use Rattle.std.proofs.lemmas.List.Elements.{All-head, All-tail}
use Rattle.machine_effect.specs.declared.flow.Shape.{Shape}
use Rattle.asm_target.specs.Aiming.{Aiming, CanReach, HaveForms, HaveReach, HasReach, bytes_of}
use Rattle.asm_target.specs.Architecture.{IsArchitecture}
use Rattle.asm_target.specs.InstructionSet.{InstructionSet}
use Rattle.asm_target.specs.Laws.{HasLengths}
use Rattle.least_forms.specs.Laws.{IsLawful, IsPlaced, IsAsFar}
use Rattle.branch_size.specs.declared.rows.Row.{Row}
use Rattle.branch_size.specs.Rows.{Reaches, ReachesIn, width_in, goal_in, problem_of, IsRow, AreRows}

-- the laws of a target that are used
pub record TargetLaws {Instr : Type 0} (set : InstructionSet Instr) (fits : Instr → Type 0) (aiming : Aiming Instr) (quantum : ℕ) : Type 0 where
  pub quantum_kind : (quantum ≡ 1) ⊎ (quantum ≡ 4)
  pub lengths : HasLengths set fits quantum
  pub formed : HaveForms set fits aiming
  pub reaches : HaveReach set fits aiming quantum

pub quantum_kinds : (machine quantum : ℕ) (shape : Shape) (growth : Option ℕ)
    → IsArchitecture (record { machine = machine; quantum = quantum; shape = shape; growth = growth })
    → (quantum ≡ 1) ⊎ (quantum ≡ 4)
quantum_kinds machine quantum shape growth (inl one) = inl (ap (λ a. a.quantum) one)
quantum_kinds machine quantum shape growth (inr (inl four)) = inr (ap (λ a. a.quantum) four)
quantum_kinds machine quantum shape growth (inr (inr four)) = inr (ap (λ a. a.quantum) four)

-- sums of whole quanta are whole
whole_sum : (quantum a b : ℕ) → (quantum ≡ 1) ⊎ (quantum ≡ 4) → a % quantum ≡ 0 → b % quantum ≡ 0 → (a + b) % quantum ≡ 0
whole_sum quantum a b (inl one) first second = rw one (omega arith)
whole_sum quantum a b (inr four) first second =
    let first' : a % 4 ≡ 0 = rw four at first in
    let second' : b % 4 ≡ 0 = rw four at second in
    rw four (omega arith)

whole_zero : (quantum : ℕ) → (quantum ≡ 1) ⊎ (quantum ≡ 4) → 0 % quantum ≡ 0
whole_zero quantum (inl one) = rw one refl
whole_zero quantum (inr four) = rw four refl

-- a range of distances that has 0 in it has each nearer one
in_range : (low high : ℤ) (place goal from to : ℕ) → low ≤ℤ pos 0 → pos 0 ≤ℤ high → IsAsFar place goal from to
    → low ≤ℤ (pos to -ℤ pos from) → (pos to -ℤ pos from) ≤ℤ high
    → (low ≤ℤ (pos goal -ℤ pos place)) × ((pos goal -ℤ pos place) ≤ℤ high)
in_range low high place goal from to least most (inl (ahead, ahead', far)) above below = (omega (arith, ints), omega (arith, ints))
in_range low high place goal from to least most (inr (back, back', far)) above below = (omega (arith, ints), omega (arith, ints))

module _ {Instr : Type 0} (set : InstructionSet Instr) (fits : Instr → Type 0) (aiming : Aiming Instr) (quantum : ℕ)
    (laws : TargetLaws set fits aiming quantum) where
  -- listed instructions have whole quanta
  whole_bytes : (code : List Instr) → All fits code → bytes_of set code % quantum ≡ 0
  whole_bytes [] all = whole_zero quantum laws.quantum_kind
  whole_bytes (i ∷ code) all =
      let fit : fits i = All-head fits i code all in
      let rest = whole_bytes code (All-tail fits i code all) in
      rw length-append (whole_sum quantum (length (set.spelling i)) (bytes_of set code) laws.quantum_kind (laws.lengths i fit).whole rest)

  whole_width : (count : ℕ) (row : Option (Row Instr)) → ((r : Row Instr) → row ≡ Some r → IsRow set fits aiming count r)
      → (form : ℕ) → form ≤ 1 → width_in row form % quantum ≡ 0
  whole_width count None right form most = whole_zero quantum laws.quantum_kind
  whole_width count (Some row) right zero most =
      let is = right row refl in
      rw (is.short) (whole_bytes (aiming.forms row.instr 0) ((laws.formed row.instr is.fit).fit 0 (omega arith)))
  whole_width count (Some row) right (suc (suc form)) most = absurd (omega arith)
  whole_width count (Some row) right (suc zero) most =
      let is = right row refl in
      rw (is.long) (whole_bytes (aiming.forms row.instr 1) ((laws.formed row.instr is.fit).fit 1 (omega arith)))

  longer : (count : ℕ) (row : Option (Row Instr)) → ((r : Row Instr) → row ≡ Some r → IsRow set fits aiming count r)
      → width_in row 0 ≤ width_in row 1
  longer count None right = omega arith
  longer count (Some row) right =
      let is = right row refl in
      rw (is.short, is.long) (laws.formed row.instr is.fit).longer

  inside : (count : ℕ) (row : Option (Row Instr)) → ((r : Row Instr) → row ≡ Some r → IsRow set fits aiming count r)
      → (goal : ℕ) → goal_in row ≡ Some goal → goal < count
  inside count None right goal goes = cc
  inside count (Some row) right goal goes = ((right row refl).goal goal goes).0

  -- a directed instruction reaches what is nearer
  one_nearer : (i : Instr) → HasReach set fits aiming quantum i → (place goal from to : ℕ) → IsPlaced quantum place goal
      → IsPlaced quantum from to → IsAsFar place goal from to → CanReach set fits aiming i from to → CanReach set fits aiming i place goal
  one_nearer i reach place goal from to placed origin far reaches =
      let range = (reach.reach from to origin.place_small origin.goal_small (origin.place_whole ∙ sym origin.goal_whole)).0 reaches in
      (reach.reach place goal placed.place_small placed.goal_small (placed.place_whole ∙ sym placed.goal_whole)).1
      (in_range reach.low reach.high place goal from to reach.low_most reach.high_least far range.0 range.1)

  -- so does the short form of a row's instruction
  row_nearer : (count : ℕ) (row : Option (Row Instr)) → ((r : Row Instr) → row ≡ Some r → IsRow set fits aiming count r)
      → (own place goal from to : ℕ) → goal_in row ≡ Some own → IsPlaced quantum place goal → IsPlaced quantum from to
      → IsAsFar place goal from to → ReachesIn set fits aiming row 0 from to → ReachesIn set fits aiming row 0 place goal
  row_nearer count None right own place goal from to goes placed origin far reaches = reaches
  row_nearer count (Some row) right own place goal from to goes placed origin far reaches =
      let is = right row refl in
      let formed = laws.formed row.instr is.fit in
      let one = formed.short.0 in
      let alone : aiming.forms row.instr 0 ≡ one ∷ [] = formed.short.1 in
      let fit : fits one = All-head fits one [] (subst (All fits) alone (formed.fit 0 (omega arith))) in
      let directed : aiming.is_directed one ≡ true = formed.short.2 ∙ (is.goal own goes).1 in
      let P : List Instr → Type 0 = λ form. Reaches set fits aiming form place goal in
      subst P (sym alone) (one_nearer one (laws.reaches one fit directed) place goal from to placed origin far
      (subst (λ form. Reaches set fits aiming form from to) alone reaches))

  pub lawful_rows : (rows : List (Row Instr)) → AreRows set fits aiming rows → IsLawful (problem_of set fits aiming quantum rows)
  unfolding problem_of
  lawful_rows rows right = record {
    quantum = laws.quantum_kind;
    whole = λ line form most. whole_width (length rows) (slice_get rows line) (right line) form most;
    grows = λ line. longer (length rows) (slice_get rows line) (right line);
    goals = λ line goal within goes. inside (length rows) (slice_get rows line) (right line) goal goes;
    nearer = λ line own place goal from to within goes placed origin far reaches.
        row_nearer (length rows) (slice_get rows line) (right line) own place goal from to goes placed origin far reaches;
  }
