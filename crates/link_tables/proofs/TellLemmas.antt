-- The rows of a placed function can be told by tables.
use Rattle.std.proofs.Common.{◌≡◌, inl, inr, ℕ, zero, suc, ◌-◌, ◌%◌, ◌^◌, ◌<◌, ◌≤◌, ◌==◌, get_or, drop, arith, List, [], ◌∷◌, map, length, All, IfSome, refl}
use Rattle.std.specs.List.{slice_get}
use Rattle.std.proofs.lemmas.Bool.{cases_Bool}
use Rattle.std.proofs.lemmas.List.Elements.{All-map}
use Rattle.pclntab.specs.Parts.{IsFile}
use Rattle.asm_target.specs.declared.body.Line.{Line}
use Rattle.link_tables.specs.declared.row.Row.{Row}
use Rattle.link_tables.specs.declared.stretch.Stretch.{Stretch}
use Rattle.link_tables.specs.Stretches.{Follow, AreStretches, IsWhole, run_of, merged_from, merged}
use Rattle.link_tables.specs.Rows.{end_before, row_of, rows_from, HaveBytes}

row_at : {Instr : Type 0} (P : Row → Type 0) (line : Line Instr) (lines : List (Line Instr)) (places : List ℕ) (end : ℕ)
    → ((k : ℕ) (d : Line Instr) (e : ℕ) → k < length (line ∷ lines) → P (row_of (get_or (line ∷ lines) k d) e))
    → (k : ℕ) (d : Row) → k < length (rows_from (line ∷ lines) places end) → P (get_or (rows_from (line ∷ lines) places end) k d)
unfolding rows_from
row_at P line lines places end each zero d below = each 0 line (end_before (drop 1 places) end) (omega arith)
row_at P line [] places end each (suc k) d below = absurd (omega arith)
row_at P line (next ∷ lines) places end each (suc k) d below =
    row_at P next lines (drop 1 places) end (λ k d e inside. each (suc k) d e (omega arith)) k d (omega arith)

-- what holds of each line's row holds of all rows
pub each_row : {Instr : Type 0} (P : Row → Type 0) (lines : List (Line Instr)) (places : List ℕ) (end : ℕ)
    → ((k : ℕ) (d : Line Instr) (e : ℕ) → k < length lines → P (row_of (get_or lines k d) e)) → All P (rows_from lines places end)
unfolding rows_from
each_row P [] places end each = λ k d below. absurd (omega arith)
each_row P (line ∷ lines) places end each = λ k d below. row_at P line lines places end each k d below

end_short : (places : List ℕ) (end : ℕ) → HaveBytes places end → end_before places end ≤ end
end_short [] end bytes = omega arith
end_short (place ∷ places) end bytes =
    let longer : place < end_before places end = bytes.0 in
    let rest : end_before places end ≤ end = end_short places end bytes.1 in
    omega arith

all_first : {X : Type 0} (P : X → Type 0) (items : List X) → All P items → IfSome (slice_get items 0) P
all_first P [] all = tt
all_first P (item ∷ items) all = all 0 item (omega arith)

-- what holds of the first line's row
pub first_row : {Instr : Type 0} (P : Row → Type 0) (lines : List (Line Instr)) (places : List ℕ) (end : ℕ)
    → IfSome (slice_get lines 0) (λ line. (e : ℕ) → P (row_of line e)) → IfSome (slice_get (rows_from lines places end) 0) P
unfolding rows_from
first_row P [] places end first = tt
first_row P (line ∷ lines) places end first = first (end_before (drop 1 places) end)

module _ (value : Row → ℕ) where
  abbrev pub stretch_of : Row → Stretch
  stretch_of row = record { end = row.end; value = value row }

  follow_rows : {Instr : Type 0} (lines : List (Line Instr)) (places : List ℕ) (end from : ℕ) → length places ≡ length lines
      → HaveBytes places end → end < 2 ^ 32 → from ≤ end_before places end
      → All (λ row. value row < 2 ^ 31) (rows_from lines places end) → Follow from (map stretch_of (rows_from lines places end))
  unfolding rows_from
  follow_rows [] places end from count bytes short up small = tt
  follow_rows (line ∷ lines) [] end from count bytes short up small = absurd (omega arith)
  follow_rows (line ∷ lines) (place ∷ places) end from count bytes short up small =
      let longer : place < end_before places end = bytes.0 in
      let before : end_before places end ≤ end = end_short places end bytes.1 in (
        record { longer = omega arith; short = omega arith; value = small 0 (row_of line 0) (omega arith) },
        follow_rows lines places end (end_before places end) (omega arith) bytes.1 short (omega arith) (λ k d below. small (suc k) d (omega arith)),
      )

  pub stretches_rows : {Instr : Type 0} (lines : List (Line Instr)) (places : List ℕ) (end : ℕ) → 0 < length lines → length places ≡ length lines
      → HaveBytes places end → end < 2 ^ 32 → All (λ row. value row < 2 ^ 31) (rows_from lines places end)
      → IfSome (slice_get (rows_from lines places end) 0) (λ row. value row ≤ 2 ^ 31 - 2)
      → AreStretches (map stretch_of (rows_from lines places end))
  unfolding rows_from
  stretches_rows [] places end some count bytes short small first = absurd (omega arith)
  stretches_rows (line ∷ lines) places end some count bytes short small first =
      let follow = follow_rows (line ∷ lines) places end 0 count bytes short (omega arith) small in
      (follow.0, first, follow.1)

  -- values that are small even for a first one
  pub smaller_rows : {Instr : Type 0} (lines : List (Line Instr)) (places : List ℕ) (end : ℕ) → 0 < length lines → length places ≡ length lines
      → HaveBytes places end → end < 2 ^ 32 → All (λ row. value row ≤ 2 ^ 31 - 2) (rows_from lines places end)
      → AreStretches (map stretch_of (rows_from lines places end))
  smaller_rows lines places end some count bytes short small =
      stretches_rows lines places end some count bytes short
      (λ k d below. let less : value (get_or (rows_from lines places end) k d) ≤ 2 ^ 31 - 2 = small k d below in omega arith)
      (all_first (λ row. value row ≤ 2 ^ 31 - 2) (rows_from lines places end) small)

  pub whole_rows : (quantum : ℕ) (rows : List Row) → All (λ row. row.end % quantum ≡ 0) rows → All (IsWhole quantum) (map stretch_of rows)
  whole_rows quantum rows all = All-map (IsWhole quantum) stretch_of rows all

end_whole : (quantum : ℕ) (places : List ℕ) (end : ℕ) → All (λ place. place % quantum ≡ 0) places → end % quantum ≡ 0
    → end_before places end % quantum ≡ 0
end_whole quantum [] end all is = is
end_whole quantum (place ∷ places) end all is = all 0 place (omega arith)

behind_whole : (quantum : ℕ) (places : List ℕ) → All (λ place. place % quantum ≡ 0) places → All (λ place. place % quantum ≡ 0) (drop 1 places)
behind_whole quantum [] all = all
behind_whole quantum (place ∷ places) all = λ k d below. all (suc k) d (omega arith)

all_cons : {X : Type 0} (P : X → Type 0) (x : X) (xs : List X) → P x → All P xs → (k : ℕ) (d : X) → k < length (x ∷ xs) → P (get_or (x ∷ xs) k d)
all_cons P x xs first others zero d below = first
all_cons P x xs first others (suc k) d below = others k d (omega arith)

pub ends_whole : {Instr : Type 0} (quantum : ℕ) (lines : List (Line Instr)) (places : List ℕ) (end : ℕ)
    → All (λ place. place % quantum ≡ 0) places → end % quantum ≡ 0 → All (λ row. row.end % quantum ≡ 0) (rows_from lines places end)
unfolding rows_from
ends_whole quantum [] places end all is = λ k d below. absurd (omega arith)
ends_whole quantum (line ∷ lines) places end all is =
    all_cons (λ row. row.end % quantum ≡ 0) (row_of line (end_before (drop 1 places) end)) (rows_from lines (drop 1 places) end)
    (end_whole quantum (drop 1 places) end (behind_whole quantum places all) is)
    (ends_whole quantum lines (drop 1 places) end (behind_whole quantum places all) is)

-- the runs have the values of their stretches
merged_files : (count : ℕ) (last : Stretch) (others : List Stretch) → last.value < count → All (λ stretch. stretch.value < count) others
    → All (IsFile count) (merged_from last others)
unfolding merged_from
merged_files count last [] first all = all_cons (IsFile count) (run_of last) [] (last.value, refl, first) (λ k d below. absurd (omega arith))
merged_files count last (next ∷ others) first all =
    let rest : All (IsFile count) (merged_from next others)
    = merged_files count next others (all 0 next (omega arith)) (λ k d below. all (suc k) d (omega arith)) in
    elim (cases_Bool (last.value == next.value)) [
      | inl same ↦ rw same rest
      | inr differ ↦ rw differ (all_cons (IsFile count) (run_of last) (merged_from next others) (last.value, refl, first) rest)
    ]

pub file_runs : (count : ℕ) (stretches : List Stretch) → All (λ stretch. stretch.value < count) stretches → All (IsFile count) (merged stretches)
file_runs count [] all = λ k d below. absurd (omega arith)
file_runs count (stretch ∷ others) all = merged_files count stretch others (all 0 stretch (omega arith)) (λ k d below. all (suc k) d (omega arith))
