-- The values that a pc-value table gives to stretches of a function's code, one behind the other from place 0 on, each
-- named by the place where it ends.
use Rattle.std.specs.Prelude.{◌≡◌, ℕ, ℤ, List, [], ◌∷◌, ◌<◌, ◌≤◌, drop, true, Some}
use Rattle.std.specs.List.{slice_get}
use Rattle.pcvalue.specs.declared.run.Run.{Run}
use Rattle.pcvalue.specs.declared.answer.Answer.TheVariants.{Value, Past}
use Rattle.pcvalue.specs.Table.{value_of, runs_at, value_in}
use Rattle.pcvalue.specs.Least.{IsLeastForm}

-- the ends strictly rise from above a place
abbrev pub Ascends : ℕ → List ℕ → Type 0
Ascends from [] = Unit {0}
Ascends from (end ∷ ends) = (from < end) × Ascends end ends

-- each place of a stretch has its value, and behind the last stretch the table ends
abbrev pub Covers : ℕ → List ℕ → List ℤ → List Run → Type 0
Covers from (end ∷ ends) (value ∷ values) runs =
    ((place : ℕ) → from ≤ place → place < end → value_of place runs true ≡ Value value) × Covers end ends values runs
Covers from [] [] runs = (place : ℕ) → from ≤ place → value_of place runs true ≡ Past
Covers from [] (value ∷ values) runs = ⊥
Covers from (end ∷ ends) [] runs = ⊥

-- a table is named by the offset, stands there in its least form, and gives these values to the stretches up to these ends
pub record TellsOver (table : List ℕ) (offset quantum : ℕ) (ends : List ℕ) (values : List ℤ) : Type 0 where
  pub named : 0 < offset
  pub least : IsLeastForm quantum (drop offset table)
  pub covers : Covers 0 ends values (runs_at table offset quantum).runs

-- a table has no two lists of values over the same stretches
abbrev pub HasOneList : Type 0
HasOneList =
    (table : List ℕ) (offset quantum : ℕ) (ends : List ℕ) (values others : List ℤ) → Ascends 0 ends
    → TellsOver table offset quantum ends values → TellsOver table offset quantum ends others → values ≡ others

-- a look-up at a place of a stretch, which begins where the stretch before it ends, answers the stretch's value
abbrev pub AnswersPlaces : Type 0
AnswersPlaces =
    (table : List ℕ) (offset quantum : ℕ) (ends : List ℕ) (values : List ℤ) → TellsOver table offset quantum ends values
    → (stretch from end place : ℕ) (value : ℤ)
    → slice_get (0 ∷ ends) stretch ≡ Some from → slice_get ends stretch ≡ Some end → slice_get values stretch ≡ Some value
    → from ≤ place → place < end → value_in table offset quantum place ≡ Value value
