-- What the pc-value table at an offset says of a place. The offset 0 means that there is no table.
use Rattle.std.specs.Prelude.{◌≡◌, ◌⊎◌, ◌<◌, ◌≤◌, ℕ, ℤ, Bool, true, List, [], ◌∷◌, ◌==◌, nat_lt, drop, IsTrue, if◌then◌else◌}
use Rattle.pcvalue.specs.declared.run.Run.{Run}
use Rattle.pcvalue.specs.declared.answer.Answer.{Answer}
use Rattle.pcvalue.specs.declared.answer.Answer.TheVariants.{Absent, Value, Past, Bad}
use Rattle.pcvalue.specs.Runs.{Runs, runs_of}

-- the runs of the table at an offset
abbrev pub runs_at : List ℕ → ℕ → ℕ → Runs
runs_at table offset quantum = runs_of quantum (drop offset table)

-- the value of the first run that ends behind the place; with none, whether the table's end was found
abbrev pub value_of : ℕ → List Run → Bool → Answer
value_of place [] whole = if whole then Past else Bad
value_of place (run ∷ runs) whole = if nat_lt place run.end then Value run.value else value_of place runs whole

abbrev pub answer_of : ℕ → Runs → Answer
answer_of place found = value_of place found.runs found.whole

-- what the table at the offset says of the place
unfoldable pub value_in : List ℕ → ℕ → ℕ → ℕ → Answer
value_in table offset quantum place =
    if offset == 0 then Absent
    else answer_of place (runs_at table offset quantum)

-- whether a whole table stands at the offset, or none is meant
unfoldable pub is_pc_table : List ℕ → ℕ → ℕ → Bool
is_pc_table table offset quantum = if offset == 0 then true else (runs_at table offset quantum).whole

abbrev pub IsPcTable : List ℕ → ℕ → ℕ → Type 0
IsPcTable table offset quantum = IsTrue (is_pc_table table offset quantum)

-- Of runs that follow a place, the one that has a later place keeps this value there: it begins where the run before it
-- ends, at or before the place, and ends behind it.
abbrev pub HasValue : ℕ → List Run → ℕ → ℤ → Type 0
HasValue from [] place value = ⊥
HasValue from (run ∷ runs) place value =
    ((from ≤ place) × (place < run.end) × (run.value ≡ value)) ⊎ HasValue run.end runs place value
