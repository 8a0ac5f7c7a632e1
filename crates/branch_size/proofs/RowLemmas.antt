-- The rows of a function's lines.
use Rattle.std.proofs.Common.{◌≡◌, ℕ, ◌+◌, ◌<◌, List, [], ◌∷◌, ◌++◌, Option, Some, None, length, get_or, take, map, true, false, refl, sym, ◌∙◌, ap, subst, inl, inr, arith}
use Rattle.std.specs.List.{slice_get}
use Rattle.std.specs.Option.{option_map}
use Rattle.std.proofs.lemmas.List.{take_more, map-append, length-map}
use Rattle.std.proofs.lemmas.List.Elements.{All-get_or}
use Rattle.std.proofs.lemmas.Option.{slice_get_within, get_or_from_slice_get, slice_get-map, slice_get_cases}
use Rattle.asm_target.specs.declared.body.Line.{Line}
use Rattle.asm_target.specs.declared.frame.Guard.{Guard}
use Rattle.asm_target.specs.declared.refer.Part.{Part}
use Rattle.asm_target.specs.declared.refer.Part.TheVariants.{Whole, High, Low}
use Rattle.asm_target.specs.declared.refer.Refer.{Refer}
use Rattle.asm_target.specs.declared.refer.To.{To}
use Rattle.asm_target.specs.declared.refer.To.TheVariants.{Stmt, Symbol, Entry, Grow, Block, Past}
use Rattle.asm_target.specs.Aiming.{Aiming, IsPickable}
use Rattle.asm_target.specs.InstructionSet.{InstructionSet}
use Rattle.asm_target.specs.Goals.{goal_to, goal_part, line_of, is_outside, picked, HasGoal, IsBody}
use Rattle.branch_size.specs.Rows.{row_of, rows_of, IsRow, AreRows}

-- one more line
pub map_more : {X Y : Type 0} (f : X → Y) (xs : List X) (i : ℕ) (x : X) → slice_get xs i ≡ Some x
    → map f (take (i + 1) xs) ≡ map f (take i xs) ++ f x ∷ []
map_more f xs i x is =
    let within = slice_get_within xs i x is in
    let here : get_or xs i x ≡ x = get_or_from_slice_get xs i x x is in
    ap (map f) (take_more xs i x within ∙ ap (λ y. take i xs ++ y ∷ []) here) ∙ map-append f (take i xs) (x ∷ [])

-- one more row
pub rows_more : {X Y : Type 0} (f : X → Y) (xs : List X) (i : ℕ) (row : Y) → i < length xs
    → ((x : X) → slice_get xs i ≡ Some x → row ≡ f x) → map f (take (i + 1) xs) ≡ map f (take i xs) ++ row ∷ []
rows_more f xs i row within is = elim (slice_get_cases xs i).1 [
  | inl some ↦ map_more f xs i some.0 some.2 ∙ ap (λ y. map f (take i xs) ++ y ∷ []) (sym (is some.0 some.2))
  | inr none ↦ let past = none.0 in absurd (omega arith)
]

some_same : {X : Type 0} {x y : X} → Some x ≡ Some y → x ≡ y
some_same h = cc

none_some : {X : Type 0} {x : X} → None ≡ Some x → ⊥
none_some h = cc

module _ {Instr : Type 0} (guard : Guard Instr) (code : List (Line Instr)) where
  -- what leads to a line leads inside
  is_inside : (to : To) (goal : ℕ) → line_of guard code to ≡ Some goal → is_outside to ≡ false
  is_inside (Stmt number) goal goes = refl
  is_inside (Symbol sym off) goal goes = cc
  is_inside Entry goal goes = refl
  is_inside Grow goal goes = cc
  is_inside Block goal goes = refl
  is_inside Past goal goes = refl

  some_inside : (to : To) (goal : ℕ) → line_of guard code to ≡ Some goal
      → (other : ℕ) × (line_of guard code to ≡ Some other) × (other < length code) → goal < length code
  some_inside to goal goes found =
      let same : Some goal ≡ Some found.0 = sym goes ∙ found.1 in
      let equal : goal ≡ found.0 = cc in
      let below = found.2 in
      omega arith

  module _ (fits : Instr → Type 0) (aiming : Aiming Instr) (line : Line Instr) (pick : IsPickable fits aiming (picked line))
      (has : HasGoal guard code line) where
    part_inside : (part : Part) (to : To) → line.refer ≡ Some (record { to = to; part = part }) → (goal : ℕ)
        → goal_part part (line_of guard code to) ≡ Some goal → (goal < length code) × (aiming.is_directed line.instr ≡ true)
    part_inside Whole to is goal goes =
        (some_inside to goal goes (has to is (is_inside to goal goes)), pick.directed to is)
    part_inside High to is goal goes = cc
    part_inside Low to is goal goes = cc

    refer_inside : (refer : Option Refer) → line.refer ≡ refer → (goal : ℕ) → goal_to guard code refer ≡ Some goal
        → (goal < length code) × (aiming.is_directed line.instr ≡ true)
    refer_inside None is goal goes = cc
    refer_inside (Some refer) is goal goes = part_inside refer.part refer.to is goal goes

  module _ (set : InstructionSet Instr) (fits : Instr → Type 0) (aiming : Aiming Instr) where
    row_right : (line : Line Instr) → IsPickable fits aiming (picked line) → HasGoal guard code line
        → IsRow set fits aiming (length (rows_of set aiming guard code)) (row_of set aiming guard code line)
    row_right line pick has = record {
      fit = pick.fit;
      short = refl;
      long = refl;
      goal = λ goal goes.
          let found = refer_inside fits aiming line pick has line.refer refl goal goes in
          let whole : length (rows_of set aiming guard code) ≡ length code = length-map code (row_of set aiming guard code) in
          let below = found.0 in
          (omega arith, found.1);
    }

    -- the rows of a body are right
    pub rows_right : IsBody fits aiming guard code → AreRows set fits aiming (rows_of set aiming guard code)
    rows_right body number row is = elim (slice_get_cases code number).1 [
      | inl some ↦
          let line = some.0 in
          let here : get_or code number line ≡ line = some.3 in
          let pick : IsPickable fits aiming (picked line)
          = subst (λ item. IsPickable fits aiming (picked item)) here
          (All-get_or (λ item. IsPickable fits aiming (picked item)) code number line some.1 body.pickable) in
          let has : HasGoal guard code line
          = subst (HasGoal guard code) here (All-get_or (HasGoal guard code) code number line some.1 body.goals) in
          let made : Some (row_of set aiming guard code line) ≡ Some row
          = ap (option_map (row_of set aiming guard code)) (sym some.2) ∙ sym (slice_get-map (row_of set aiming guard code) code number) ∙ is in
          let same : row_of set aiming guard code line ≡ row = some_same made in
          subst (IsRow set fits aiming (length (rows_of set aiming guard code))) same (row_right line pick has)
      | inr none ↦
          let nothing : None ≡ Some row
          = ap (option_map (row_of set aiming guard code)) (sym none.1) ∙ sym (slice_get-map (row_of set aiming guard code) code number) ∙ is in
          absurd (none_some nothing)
    ]
