-- Rows as facts and as a first fault.
use Rattle.std.proofs.Common.{◌≡◌, ℕ, ◌+◌, List, [], ◌∷◌, Some, None, inl, inr, refl}
use Rattle.std.proofs.lemmas.Bool.{cases_Bool}
use Rattle.elf_image.specs.declared.rows.Row.{Row}
use Rattle.elf_image.specs.Rows.{size_of, number_at, meets, HasRows, rows_fault}

pub faultless_rows : (bytes : List ℕ) (at : ℕ) (rows : List Row) → HasRows bytes at rows → rows_fault bytes at rows ≡ None
faultless_rows bytes at [] has = refl
faultless_rows bytes at (row ∷ rows) has =
    rw has.0 (faultless_rows bytes (at + size_of row.width) rows has.1)

pub rows_faultless : (bytes : List ℕ) (at : ℕ) (rows : List Row) → rows_fault bytes at rows ≡ None → HasRows bytes at rows
rows_faultless bytes at [] none = tt
rows_faultless bytes at (row ∷ rows) none =
    elim (cases_Bool (meets row.wanted (number_at bytes at row.width))) [
      | inl passes ↦ (passes, rows_faultless bytes (at + size_of row.width) rows (rw passes at none))
      | inr fails ↦ (let wrong : Some at ≡ None = rw fails at none in cc)
    ]
