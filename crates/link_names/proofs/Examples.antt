-- The definitions, computed on two small units.
use Rattle.std.proofs.Common.{◌≡◌, ℕ, ℤ, true, false, List, [], ◌∷◌, codes, Some, None, refl}
use Rattle.goasm_base.specs.declared.pos.Pos.{Pos}
use Rattle.goasm_base.specs.declared.statement.Function.{Function}
use Rattle.asm_parse.specs.declared.unit.Unit.{Unit as Said}
use Rattle.asm_parse.specs.declared.unit.DataPart.{DataPart}
use Rattle.asm_parse.specs.declared.unit.GlobalPart.{GlobalPart}
use Rattle.link_names.specs.declared.definition.Meaning.TheVariants as means
use Rattle.link_names.specs.Definitions.{Entry, each_from, entries_of, meaning_in}
use Rattle.link_names.specs.Data.{misplaced, unit_undefined}

abbrev here : Pos
here = record { file = 0; line = 1 }

abbrev function : ℕ → ℕ → Function
function sym flags = record { sym = sym; flags = flags; locals = 0; args = Some 0; pos = here; stmts = [] }

abbrev declared : ℕ → ℕ → ℕ → GlobalPart
declared sym flags size = record { sym = sym; flags = flags; size = size; pos = here }

abbrev number : ℕ → ℕ → DataPart
number sym off = record { sym = sym; off = off; bytes = 1 ∷ 2 ∷ 3 ∷ 4 ∷ []; address = None; pos = here }

abbrev address : ℕ → ℕ → ℕ → DataPart
address sym off to = record { sym = sym; off = off; bytes = []; address = Some (to, ℤ.pos 0); pos = here }

-- `f` and `v` with DUPOK, 2, and a static `s`
abbrev first : Said
first = record {
  symbols = record { name = codes "f"; fixed = false } ∷ record { name = codes "s"; fixed = true } ∷ record { name = codes "v"; fixed = false } ∷ [];
  functions = function 1 4 ∷ function 0 6 ∷ [];
  values = number 2 4 ∷ [];
  globals = declared 2 2 8 ∷ [];
}

-- the same names, and an address of `ext`, with a longer `v`
abbrev second : Said
second = record {
  symbols = record { name = codes "s"; fixed = true } ∷ record { name = codes "f"; fixed = false } ∷ record { name = codes "v"; fixed = false } ∷ record { name = codes "ext"; fixed = false } ∷ [];
  functions = function 0 4 ∷ function 1 6 ∷ [];
  values = address 2 8 3 ∷ [];
  globals = declared 2 2 16 ∷ [];
}

abbrev entries : List Entry
entries = entries_of (first ∷ second ∷ []) ((codes "ext", 4096) ∷ [])

-- the first `f` counts, and each unit has its `s`
f_means : meaning_in entries (codes "f", None) ≡ Some (means.Function 0 1)
unfolding each_from
f_means = refl

s_means : meaning_in entries (codes "s", Some 1) ≡ Some (means.Function 1 0)
unfolding each_from
s_means = refl

no_global_s : meaning_in entries (codes "s", None) ≡ None
unfolding each_from
no_global_s = refl

ext_means : meaning_in entries (codes "ext", None) ≡ Some (means.Outside 0)
unfolding each_from
ext_means = refl

-- the first `v`, of eight bytes, has no room behind it for the address
v_misplaced : misplaced (first ∷ second ∷ []) entries ≡ codes "v" ∷ []
unfolding each_from
v_misplaced = refl

-- without its outside name `ext` stands for nothing
ext_undefined : unit_undefined (entries_of (first ∷ second ∷ []) []) 1 second ≡ codes "ext" ∷ []
unfolding each_from
ext_undefined = refl
