-- The files that functions' lines use are no more than the functions have bytes, and so the functions can be told.
use Rattle.std.proofs.Common.{◌≡◌, ℕ, suc, ◌+◌, ◌<◌, ◌≤◌, ◌^◌, arith, List, [], ◌∷◌, ◌++◌, length, map, All, refl, ap, ◌∙◌, length-append}
use Rattle.std.specs.Prelude.{sum}
use Rattle.std.specs.List.{flat_map}
use Rattle.std.proofs.lemmas.List.{length-map}
use Rattle.std.proofs.lemmas.List.Sums.{sum_by-cons}
use Rattle.link_tables.specs.declared.func_lines.FuncLines.{FuncLines}
use Rattle.link_tables.specs.Files.{file_name}
use Rattle.link_tables.specs.Rows.{HaveBytes, end_before}
use Rattle.link_tables.specs.Table.{names_in, files_of, IsLinked, CanTell}
use Rattle.link_tables.specs.UsedNames.{with_name, used_after}
use Rattle.link_tables.proofs.PlaceLemmas.{with_longer}
use Rattle.link_tables.proofs.ReadyLemmas.{can_tell_all}

-- each name adds one at most
used_short : (used names : List (List ℕ)) → length (used_after used names) ≤ length used + length names
unfolding used_after
used_short used [] = omega arith
used_short used (name ∷ names) =
    let rest : length (used_after (with_name used name) names) ≤ length (with_name used name) + length names = used_short (with_name used name) names in
    let more : length (with_name used name) ≤ length used + 1 = (with_longer used name).1 in
    omega arith

-- places that rise up to an end are no more than it
places_short : (from : ℕ) (places : List ℕ) (end : ℕ) → HaveBytes places end → from ≤ end_before places end → from + length places ≤ end
places_short from [] end bytes up = omega (arith, up)
places_short from (place ∷ places) end bytes up =
    let here : place < end_before places end = bytes.0 in
    let rest : (from + 1) + length places ≤ end = places_short (from + 1) places end bytes.1 (omega (arith, up, here)) in
    omega (arith, rest)

module _ {Instr : Type 0} (build : List (List ℕ)) where
  names_short : (quantum files : ℕ) (func : FuncLines Instr) → IsLinked quantum files func → length (names_in build func) ≤ func.length
  names_short quantum files func linked =
      let places : 0 + length func.places.now ≤ func.length = places_short 0 func.places.now func.length linked.placed.bytes (omega arith) in
      let count : length func.places.now ≡ length func.lines.now = linked.placed.count in
      let mapped : length (names_in build func) ≡ length func.lines.now = length-map func.lines.now (λ line. file_name build line.pos.file) in
      omega (arith, places, count, mapped)

  all_short : (quantum files : ℕ) (funcs : List (FuncLines Instr)) → All (IsLinked quantum files) funcs
      → length (flat_map (names_in build) funcs) ≤ sum (map (λ func. func.length) funcs)
  all_short quantum files [] linked = omega arith
  all_short quantum files (func ∷ funcs) linked =
      let here = names_short quantum files func (linked 0 func (omega arith)) in
      let rest = all_short quantum files funcs (λ k d below. linked (suc k) d (omega (arith, below))) in
      let whole : length (flat_map (names_in build) (func ∷ funcs)) ≡ length (names_in build func) + length (flat_map (names_in build) funcs)
      = length-append (names_in build func) (flat_map (names_in build) funcs) in
      let total : sum (map (λ (func : FuncLines Instr). func.length) (func ∷ funcs)) ≡ func.length + sum (map (λ (func : FuncLines Instr). func.length) funcs)
      = sum_by-cons (λ (x : ℕ). x) func.length (map (λ (func : FuncLines Instr). func.length) funcs) in
      omega (arith, here, rest, whole, total)

  pub few_files : (quantum files : ℕ) (funcs : List (FuncLines Instr)) → All (IsLinked quantum files) funcs
      → length (files_of build funcs) ≤ sum (map (λ func. func.length) funcs)
  few_files quantum files funcs linked =
      let used : length (files_of build funcs) ≤ 0 + length (flat_map (names_in build) funcs) = used_short [] (flat_map (names_in build) funcs) in
      let all = all_short quantum files funcs linked in
      omega (arith, used, all)

  pub linked_tell : (quantum : ℕ) (funcs : List (FuncLines Instr)) → length (files_of build funcs) < 2 ^ 31
      → All (IsLinked quantum (length build)) funcs → All (CanTell build (files_of build funcs)) funcs
  linked_tell quantum funcs few linked = can_tell_all build (files_of build funcs) quantum funcs linked refl few
