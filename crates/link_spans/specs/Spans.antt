-- The stretches of a function's lines and those of its instructions, with a value for each.
use Rattle.std.specs.Prelude.{◌≡◌, ℕ, pos, zero, suc, List, [], ◌∷◌, ◌++◌, All, length, map, Some}
use Rattle.std.specs.List.{slice_get}
use Rattle.pcvalue.specs.declared.run.Run.{Run}
use Rattle.pcvalue.specs.Cover.{Covers}
use Rattle.asm_target.specs.declared.body.Line.{Line}
use Rattle.least_forms.specs.Problem.{Problem, at, place}
use Rattle.image_rules.specs.Functions.{ends_from}
use Rattle.unit_listing.specs.declared.laid.Laid.{Laid}
use Rattle.unit_listing.specs.Kit.{Kit}
use Rattle.link_code.specs.Code.{lines_in}

-- where the first lines end, so many, in bytes from the function's first
abbrev pub ends_to : Problem → (ℕ → ℕ) → ℕ → List ℕ
ends_to lines forms zero = []
ends_to lines forms (suc number) = ends_to lines forms number ++ place lines forms (suc number) ∷ []

module _ {Instr : Type 0} (kit : Kit Instr) (laid : Laid Instr) where
  -- where each line of a function ends
  abbrev pub line_ends : List ℕ
  line_ends = ends_to (lines_in kit laid) (at laid.sizes.forms) (length laid.body.code)

  -- the runs give each line this value
  abbrev pub CoverLines : (Line Instr → ℕ) → List Run → Type 0
  CoverLines value runs = Covers 0 line_ends (map (λ line. pos (value line)) laid.body.code) runs

  -- a line has the value
  pub record IsOfLine (value : Line Instr → ℕ) (given : ℕ) : Type 0 where
    pub number : ℕ
    pub line : Line Instr
    pub here : slice_get laid.body.code number ≡ Some line
    pub is : given ≡ value line

  -- they give each instruction a value, which is that of a line
  pub record CoverCode (code : List Instr) (value : Line Instr → ℕ) (runs : List Run) : Type 0 where
    pub values : List ℕ
    pub covers : Covers 0 (ends_from kit.set 0 code) (map pos values) runs
    pub among : All (IsOfLine value) values
