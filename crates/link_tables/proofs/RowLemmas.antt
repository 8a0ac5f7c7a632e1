-- The lines of a function with their bytes.
use Rattle.std.proofs.Common.{◌≡◌, ℕ, zero, suc, ◌+◌, ◌<◌, ◌≤◌, List, [], ◌∷◌, ◌++◌, length, drop, get_or, refl, sym, ◌∙◌, arith, append_assoc, append-nil, add-one}
use Rattle.std.proofs.Math.Seq.{drop-cons}
use Rattle.std.proofs.lemmas.List.{drop_all}
use Rattle.asm_target.specs.declared.body.Line.{Line}
use Rattle.link_tables.specs.declared.row.Row.{Row}
use Rattle.link_tables.specs.Rows.{end_before, row_of, rows_from}

pub end_inside : (places : List ℕ) (index length' place : ℕ) → index + 1 < length places → place ≡ get_or places (index + 1) place
    → place ≡ end_before (drop 1 (drop index places)) length'
end_inside [] index length' place inside is = absurd (omega arith)
end_inside (first ∷ []) zero length' place inside is = absurd (omega arith)
end_inside (first ∷ next ∷ others) zero length' place inside is = is
end_inside (first ∷ others) (suc index) length' place inside is =
    end_inside others index length' place (omega arith) (let same : suc index + 1 ≡ suc (index + 1) = omega arith in rw same at is)

pub end_last : (places : List ℕ) (index length' : ℕ) → length places ≤ index + 1 → length' ≡ end_before (drop 1 (drop index places)) length'
end_last [] zero length' past = refl
end_last [] (suc index) length' past = refl
end_last (first ∷ []) zero length' past = refl
end_last (first ∷ next ∷ others) zero length' past = absurd (omega arith)
end_last (first ∷ others) (suc index) length' past = end_last others index length' (omega arith)

-- the rows of the lines below an index are there
pub record Rowed {Instr : Type 0} (lines : List (Line Instr)) (places : List ℕ) (end index : ℕ) (rows : List Row) : Type 0 where
  pub told : rows ++ rows_from (drop index lines) (drop index places) end ≡ rows_from lines places end

drop_next : {A : Type 0} (xs : List A) (index : ℕ) → drop 1 (drop index xs) ≡ drop (suc index) xs
drop_next [] zero = refl
drop_next [] (suc index) = refl
drop_next (x ∷ xs) zero = refl
drop_next (x ∷ xs) (suc index) = drop_next xs index

pub row_next : {Instr : Type 0} (lines : List (Line Instr)) (places : List ℕ) (end index : ℕ) (d line : Line Instr) (row : Row) (rows more : List Row)
    → index < length lines → line ≡ get_or lines index d → Rowed lines places end index rows
    → row ≡ row_of line (end_before (drop 1 (drop index places)) end) → more ≡ rows ++ row ∷ [] → Rowed lines places end (index + 1) more
unfolding rows_from
row_next lines places end index d line row rows more inside line-is rowed row-is is =
    let told : rows ++ (row_of (get_or lines index d) (end_before (drop 1 (drop index places)) end)
    ∷ rows_from (drop (suc index) lines) (drop 1 (drop index places)) end) ≡ rows_from lines places end
    = rw (drop-cons lines index d) at rowed.told in
    rw add-one (record {
      told = rw (is, row-is, line-is, ← drop_next places index)
          (append_assoc rows (row_of (get_or lines index d) (end_before (drop 1 (drop index places)) end) ∷ [])
          (rows_from (drop (suc index) lines) (drop 1 (drop index places)) end) ∙ told);
    })

pub all_rows : {Instr : Type 0} (lines : List (Line Instr)) (places : List ℕ) (end index : ℕ) (rows : List Row)
    → length lines ≤ index → Rowed lines places end index rows → rows ≡ rows_from lines places end
unfolding rows_from
all_rows lines places end index rows past rowed =
    let told : rows ++ [] ≡ rows_from lines places end = rw (drop_all index lines past) at rowed.told in
    sym (append-nil rows) ∙ told
