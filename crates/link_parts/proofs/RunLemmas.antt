-- How many runs the functions of a table have: for each of the three, no more than they have lines, and no more lines than bytes.
use Rattle.std.proofs.Common.{◌≡◌, Bool, true, false, ℕ, ◌+◌, ◌*◌, ◌≤◌, ◌<◌, ◌^◌, List, [], ◌∷◌, length, map, drop, refl, arith, length-append}
use Rattle.std.specs.Prelude.{All, ◌==◌, if◌then◌else◌, sum, sum_by}
use Rattle.std.proofs.lemmas.List.{length-map}
use Rattle.std.proofs.lemmas.List.Elements.{All-head, All-tail}
use Rattle.std.proofs.lemmas.List.Sums.{sum_by-cons}
use Rattle.asm_target.specs.declared.body.Line.{Line}
use Rattle.link_tables.specs.declared.func_lines.FuncLines.{FuncLines}
use Rattle.link_tables.specs.declared.row.Row.{Row}
use Rattle.link_tables.specs.declared.stretch.Stretch.{Stretch}
use Rattle.link_tables.specs.Rows.{HaveBytes, depth_stretch, file_stretch, line_stretch, rows_from, rows_of}
use Rattle.link_tables.specs.Stretches.{ended, merged, merged_from, run_of}
use Rattle.link_tables.specs.Table.{IsLinked, files_of, part_of, parts_of}
use Rattle.pclntab.specs.Written.{run_count}

ended_few : (stretch next : Stretch) → length (ended stretch next) ≤ 1
ended_few stretch next = by (stretch.value == next.value)
  where
    by : (same : Bool) → length (if same then [] else run_of stretch ∷ []) ≤ 1
    by true = omega arith
    by false = omega arith

merged_few : (stretch : Stretch) (others : List Stretch) → length (merged_from stretch others) ≤ length others + 1
unfolding merged_from
merged_few stretch [] = omega arith
merged_few stretch (next ∷ others) =
    omega (arith, length-append (ended stretch next) (merged_from next others), ended_few stretch next, merged_few next others)

few_runs : (stretches : List Stretch) → length (merged stretches) ≤ length stretches
few_runs [] = omega arith
few_runs (stretch ∷ others) = omega (arith, merged_few stretch others)

-- each place has a byte of its own
places_few : (place : ℕ) (places : List ℕ) (end : ℕ) → HaveBytes (place ∷ places) end → place + length (place ∷ places) ≤ end
places_few place [] end have = omega (arith, have.0)
places_few place (next ∷ places) end have = omega (arith, have.0, places_few next places end have.1)

places_within : (places : List ℕ) (end : ℕ) → HaveBytes places end → length places ≤ end
places_within [] end have = omega arith
places_within (place ∷ places) end have = omega (arith, places_few place places end have)

mapped_few : (tell : Row → Stretch) (rows : List Row) → length (merged (map tell rows)) ≤ length rows
mapped_few tell rows = omega (arith, few_runs (map tell rows), length-map rows tell)

module _ {Instr : Type 0} where
  rows_count : (lines : List (Line Instr)) (places : List ℕ) (end : ℕ) → length (rows_from lines places end) ≡ length lines
  unfolding rows_from
  rows_count [] places end = refl
  rows_count (line ∷ lines) places end = omega (arith, rows_count lines (drop 1 places) end)

  part_runs : (build used : List (List ℕ)) (quantum files : ℕ) (func : FuncLines Instr) → IsLinked quantum files func
      → run_count (part_of build used func) ≤ 3 * func.length
  part_runs build used quantum files func linked =
      let lines : length func.lines.now ≤ func.length
      = omega (arith, linked.placed.count, places_within func.places.now func.length linked.placed.bytes) in
      let rows : length (rows_of func) ≡ length func.lines.now = rows_count func.lines.now func.places.now func.length in
      omega (
        arith,
        mapped_few depth_stretch (rows_of func),
        mapped_few (file_stretch build used) (rows_of func),
        mapped_few line_stretch (rows_of func),
      )

  -- a function has at least one byte
  pub some_bytes : (quantum files : ℕ) (func : FuncLines Instr) → IsLinked quantum files func → 0 < func.length
  some_bytes quantum files func linked =
      omega (arith, linked.placed.some, linked.placed.count, places_within func.places.now func.length linked.placed.bytes)

  all_runs : (build used : List (List ℕ)) (quantum files : ℕ) (lines : List (FuncLines Instr)) → All (IsLinked quantum files) lines
      → sum_by run_count (map (part_of build used) lines) ≤ 3 * sum (map (λ func. func.length) lines)
  all_runs build used quantum files [] linked = omega arith
  all_runs build used quantum files (func ∷ lines) linked =
      omega (
        arith,
        part_runs build used quantum files func (All-head (IsLinked quantum files) func lines linked),
        all_runs build used quantum files lines (All-tail (IsLinked quantum files) func lines linked),
        sum_by-cons run_count (part_of build used func) (map (part_of build used) lines),
        sum_by-cons (λ (n : ℕ). n) func.length (map (λ (one : FuncLines Instr). one.length) lines),
      )

  module _ (files : List (List ℕ)) (quantum text_len : ℕ) (lines : List (FuncLines Instr)) where
    pub few_parts : length lines ≤ 65536 → length (parts_of files quantum text_len lines).funcs ≤ 65536
    few_parts few = omega (arith, length-map lines (part_of files (files_of files lines)))

    pub runs_of_parts : All (IsLinked quantum (length files)) lines → sum (map (λ func. func.length) lines) ≤ 2 ^ 24
        → sum_by run_count (parts_of files quantum text_len lines).funcs ≤ 3 * 2 ^ 24
    runs_of_parts linked short = omega (arith, all_runs files (files_of files lines) quantum (length files) lines linked)
