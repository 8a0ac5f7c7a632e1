-- The files of a build, and the table's.
use Rattle.std.specs.Prelude.{◌≡◌, ◌<◌, ◌≤◌, ◌^◌, ℕ, ◌+◌, List, [], ◌∷◌, length, slice_get, slice_index_or, Option, Some, None}
use Rattle.link_tables.specs.UsedNames.{place_of}

-- the names of a build's files, and those that are used, in the order of first use
pub record FileNames : Type 0 where
  pub build : List (List ℕ)
  pub used : List (List ℕ)

-- the name of the file of this number in the build
abbrev pub file_name : List (List ℕ) → ℕ → List ℕ
file_name build file = slice_index_or build file []

-- how many indices are kept
abbrev pub known_count : List (Option ℕ) → ℕ
known_count [] = 0
known_count (Some index ∷ others) = 1 + known_count others
known_count (None ∷ others) = known_count others

-- the indices that are kept by the build's numbers are right
pub record AreKnown (build used : List (List ℕ)) (known : List (Option ℕ)) : Type 0 where
  pub count : length known ≡ length build
  pub short : length build < 2 ^ 32
  pub few : length used ≤ known_count known
  pub within : (file index : ℕ) → slice_get known file ≡ Some (Some index) → index < length used
  pub place : (file index : ℕ) → slice_get known file ≡ Some (Some index) → index ≡ place_of used (file_name build file)
