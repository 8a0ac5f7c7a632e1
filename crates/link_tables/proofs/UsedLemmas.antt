-- What was numbered stays used.
use Rattle.std.proofs.Common.{◌≡◌, inl, inr, ℕ, zero, suc, ◌+◌, ◌<◌, ◌≤◌, get_or, arith, true, List, [], ◌∷◌, map, length, length-append}
use Rattle.std.proofs.Math.ListN.{get_or-map}
use Rattle.std.specs.Prelude.{bytes_eq}
use Rattle.std.specs.List.{flat_map}
use Rattle.std.proofs.lemmas.Bool.{cases_Bool}
use Rattle.std.proofs.lemmas.List.{length-map}
use Rattle.asm_target.specs.declared.body.Line.{Line}
use Rattle.link_tables.specs.declared.func_lines.FuncLines.{FuncLines}
use Rattle.link_tables.specs.Files.{file_name}
use Rattle.link_tables.specs.UsedNames.{has_name, with_name, place_of, used_after}
use Rattle.link_tables.specs.Table.{names_in}
use Rattle.link_tables.proofs.PlaceLemmas.{place_with, place_with_self, with_longer}
use Rattle.link_tables.proofs.NumberingLemmas.{used_after-append}

-- the name is used
pub record IsUsed (used : List (List ℕ)) (name : List ℕ) : Type 0 where
  pub within : place_of used name < length used

has_within : (used : List (List ℕ)) (name : List ℕ) → has_name used name ≡ true → place_of used name < length used
has_within [] name has = cc
has_within (next ∷ others) name has =
    elim (cases_Bool (bytes_eq name next)) [
      | inl here ↦ rw here (omega arith)
      | inr later ↦
          let rest : place_of others name < length others = has_within others name (rw later at has) in
          rw later (omega arith)
    ]

place_short : (used : List (List ℕ)) (name : List ℕ) → place_of used name ≤ length used
place_short [] name = omega arith
place_short (next ∷ others) name =
    elim (cases_Bool (bytes_eq name next)) [
      | inl here ↦ rw here (omega arith)
      | inr later ↦ let rest : place_of others name ≤ length others = place_short others name in rw later (omega arith)
    ]

pub used_self : (used : List (List ℕ)) (name : List ℕ) → IsUsed (with_name used name) name
used_self used name =
    let same : place_of (with_name used name) name ≡ place_of used name = place_with_self used name in
    elim (cases_Bool (has_name used name)) [
      | inl has ↦ record { within = (let low : place_of used name < length used = has_within used name has in rw has low) }
      | inr absent ↦
          let short : place_of used name ≤ length used = place_short used name in
          let long : length (with_name used name) ≡ length used + 1 = rw absent (omega (arith, length-append used (name ∷ []))) in
          record { within = omega arith }
    ]

used_with : (used : List (List ℕ)) (name next : List ℕ) → IsUsed used name → IsUsed (with_name used next) name
used_with used name next is =
    let within : place_of used name < length used = is.within in
    let same : place_of (with_name used next) name ≡ place_of used name = place_with used name next within in
    let longer : length used ≤ length (with_name used next) = (with_longer used next).0 in
    record { within = omega arith }

still_used : (used names : List (List ℕ)) (name : List ℕ) → IsUsed used name → IsUsed (used_after used names) name
unfolding used_after
still_used used [] name is = is
still_used used (next ∷ names) name is = still_used (with_name used next) names name (used_with used name next is)

all_used : (used names : List (List ℕ)) (k : ℕ) (d : List ℕ) → k < length names → IsUsed (used_after used names) (get_or names k d)
unfolding used_after
all_used used [] k d below = absurd (omega arith)
all_used used (name ∷ names) zero d below = still_used (with_name used name) names name (used_self used name)
all_used used (name ∷ names) (suc k) d below = all_used (with_name used name) names k d (omega arith)

-- the names of a function's files
pub func_used : {Instr : Type 0} (build used : List (List ℕ)) (funcs : List (FuncLines Instr)) (k : ℕ) (d : FuncLines Instr) → k < length funcs
    → (line : ℕ) (e : Line Instr) → line < length (get_or funcs k d).lines.now
    → IsUsed (used_after used (flat_map (names_in build) funcs)) (file_name build (get_or (get_or funcs k d).lines.now line e).pos.file)
func_used build used [] k d below line e inside = absurd (omega arith)
func_used {Instr = Instr} build used (func ∷ funcs) zero d below line e inside =
    let name : Line Instr → List ℕ = λ l. file_name build l.pos.file in
    let here : IsUsed (used_after used (map name func.lines.now)) (get_or (map name func.lines.now) line (name e))
    = all_used used (map name func.lines.now) line (name e) (rw length-map inside) in
    let there : IsUsed (used_after used (map name func.lines.now)) (name (get_or func.lines.now line e))
    = rw (get_or-map name func.lines.now line e) at here in
    rw (used_after-append used (names_in build func) (flat_map (names_in build) funcs))
    (still_used (used_after used (names_in build func)) (flat_map (names_in build) funcs) (name (get_or func.lines.now line e)) there)
func_used build used (func ∷ funcs) (suc k) d below line e inside =
    rw (used_after-append used (names_in build func) (flat_map (names_in build) funcs))
    (func_used build (used_after used (names_in build func)) funcs k d (omega arith) line e inside)
