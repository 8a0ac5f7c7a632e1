-- The stretches of a function's code, one behind the other, and their runs.
use Rattle.std.specs.Prelude.{◌≡◌, ◌⊎◌, ◌<◌, ◌≤◌, ◌-◌, ◌^◌, ◌%◌, ◌==◌, ℕ, ℤ, pos, List, [], ◌∷◌, ◌++◌, map, if◌then◌else◌}
use Rattle.pcvalue.specs.declared.run.Run.{Run}
use Rattle.link_tables.specs.declared.stretch.Stretch.{Stretch}

abbrev pub ends_of : List Stretch → List ℕ
ends_of stretches = map (λ stretch. stretch.end) stretches

abbrev pub values_of : List Stretch → List ℤ
values_of stretches = map (λ stretch. pos stretch.value) stretches

-- a stretch ends behind its beginning, and its end and value fit the fields of a table
pub record IsStretch (from : ℕ) (stretch : Stretch) : Type 0 where
  pub longer : from < stretch.end
  pub short : stretch.end < 2 ^ 32
  pub value : stretch.value < 2 ^ 31

-- each stretch begins where the one before it ends, the first at a place
abbrev pub Follow : ℕ → List Stretch → Type 0
Follow from [] = Unit {0}
Follow from (stretch ∷ others) = IsStretch from stretch × Follow stretch.end others

-- The stretches of a function: at least one, from its first byte on. A table tells each value as a change, and begins with -1: so
-- that the first change fits, the first value is less than 2^31 - 1
abbrev pub AreStretches : List Stretch → Type 0
AreStretches [] = ⊥
AreStretches (stretch ∷ others) = IsStretch 0 stretch × (stretch.value ≤ 2 ^ 31 - 2) × Follow stretch.end others

-- a size of the steps by which tables count places
abbrev pub IsQuantum : ℕ → Type 0
IsQuantum quantum = (quantum ≡ 1) ⊎ (quantum ≡ 2) ⊎ (quantum ≡ 4)

-- the stretch ends at a step
abbrev pub IsWhole : ℕ → Stretch → Type 0
IsWhole quantum stretch = stretch.end % quantum ≡ 0

-- a stretch as a run of its own
abbrev pub run_of : Stretch → Run
run_of stretch = record { end = stretch.end; value = pos stretch.value }

-- the run that ends with a stretch: none does where the next one has its value
abbrev pub ended : Stretch → Stretch → List Run
ended stretch next = if stretch.value == next.value then [] else run_of stretch ∷ []

-- the runs of a stretch and of those behind it
unfoldable pub merged_from : Stretch → List Stretch → List Run
merged_from stretch [] = run_of stretch ∷ []
merged_from stretch (next ∷ others) = ended stretch next ++ merged_from next others

-- neighbours of one value are one run
abbrev pub merged : List Stretch → List Run
merged [] = []
merged (stretch ∷ others) = merged_from stretch others
