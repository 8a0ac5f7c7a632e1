-- What covers stretches covers finer ones.
use Rattle.std.proofs.Common.{◌≡◌, ℕ, suc, ℤ, ◌<◌, ◌≤◌, true, List, [], ◌∷◌, ◌++◌, map, refl, arith}
use Rattle.pcvalue.specs.declared.run.Run.{Run}
use Rattle.pcvalue.specs.declared.answer.Answer.TheVariants.{Value}
use Rattle.pcvalue.specs.Table.{value_of}
use Rattle.pcvalue.specs.Cover.{Covers, Ascends}
use Rattle.link_tables.specs.Finer.{last_of, joined, repeated, HoldsOfFiner}

last_above : (from end : ℕ) (ends rest : List ℕ) → Ascends from ((end ∷ ends) ++ rest) → from < last_of (end ∷ ends)
last_above from end [] rest rising = rising.0
last_above from end (next ∷ ends) rest rising =
    let longer : from < end = rising.0 in
    let others : end < last_of (next ∷ ends) = last_above end next ends rest rising.1 in
    omega arith

ascends_behind : (from end : ℕ) (ends rest : List ℕ) → Ascends from ((end ∷ ends) ++ rest) → Ascends (last_of (end ∷ ends)) rest
ascends_behind from end [] rest rising = rising.1
ascends_behind from end (next ∷ ends) rest rising = ascends_behind end next ends rest rising.1

-- the places of one group
group_covers : (from end : ℕ) (ends rest : List ℕ) (value : ℤ) (values : List ℤ) (runs : List Run)
    → Ascends from ((end ∷ ends) ++ rest)
    → ((place : ℕ) → from ≤ place → place < last_of (end ∷ ends) → value_of place runs true ≡ Value value)
    → Covers (last_of (end ∷ ends)) rest values runs
    → Covers from ((end ∷ ends) ++ rest) (map (λ _. value) (end ∷ ends) ++ values) runs
group_covers from end [] rest value values runs rising has covers = (has, covers)
group_covers from end (next ∷ ends) rest value values runs rising has covers =
    let longer : from < end = rising.0 in
    let others : end < last_of (next ∷ ends) = last_above end next ends rest rising.1 in (
      λ place behind inside. has place behind (omega arith),
      group_covers end next ends rest value values runs rising.1 (λ place behind inside. has place (omega arith) inside) covers,
    )

pub holds_of_finer : HoldsOfFiner
holds_of_finer from [] [] runs some rising covers = covers
holds_of_finer from [] (value ∷ values) runs some rising covers = absurd covers
holds_of_finer from (group ∷ groups) [] runs some rising covers = absurd covers
holds_of_finer from ([] ∷ groups) (value ∷ values) runs some rising covers = absurd (some 0 [] (omega arith) refl)
holds_of_finer from ((end ∷ ends) ∷ groups) (value ∷ values) runs some rising covers =
    group_covers from end ends (joined groups) value (repeated groups values) runs rising covers.0
    (holds_of_finer (last_of (end ∷ ends)) groups values runs (λ k d below. some (suc k) d (omega arith))
    (ascends_behind from end ends (joined groups) rising) covers.1)
