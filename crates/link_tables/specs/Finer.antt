-- What covers stretches covers finer ones too.
use Rattle.std.specs.Prelude.{◌≢◌, ℕ, ℤ, List, [], ◌∷◌, ◌++◌, map, All}
use Rattle.std.specs.List.{flat_map}
use Rattle.pcvalue.specs.declared.run.Run.{Run}
use Rattle.pcvalue.specs.Cover.{Ascends, Covers}

-- the last of some places
abbrev pub last_of : List ℕ → ℕ
last_of [] = 0
last_of (end ∷ []) = end
last_of (end ∷ next ∷ ends) = last_of (next ∷ ends)

-- the places of all groups, one behind the other
abbrev pub joined : List (List ℕ) → List ℕ
joined groups = flat_map (λ group. group) groups

-- the value of each group, once for each of its places
abbrev pub repeated : List (List ℕ) → List ℤ → List ℤ
repeated [] values = []
repeated (group ∷ groups) [] = []
repeated (group ∷ groups) (value ∷ values) = map (λ _. value) group ++ repeated groups values

-- Stretches that end with the last places of groups are covered: so are those that end at each place of a group, all with the
-- group's value.
abbrev pub HoldsOfFiner : Type 0
HoldsOfFiner =
    (from : ℕ) (groups : List (List ℕ)) (values : List ℤ) (runs : List Run)
    → All (λ group. group ≢ []) groups → Ascends from (joined groups)
    → Covers from (map last_of groups) values runs → Covers from (joined groups) (repeated groups values) runs
