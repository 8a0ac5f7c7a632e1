-- From which line an instruction comes.
use Rattle.std.specs.Prelude.{◌≡◌, ◌≢◌, ℕ, zero, suc, ◌+◌, ◌<◌, ◌≤◌, List, length, Option, Some, None}
use Rattle.std.specs.List.{slice_get}
use Rattle.goasm_base.specs.declared.pos.Pos.{Pos}
use Rattle.asm_target.specs.declared.body.Line.{Line}
use Rattle.asm_target.specs.declared.body.Placed.{Placed}
use Rattle.unit_listing.specs.declared.laid.Laid.{Laid}
use Rattle.unit_listing.specs.Kit.{Kit}
use Rattle.link_code.specs.Code.{form_in}

module _ {Instr : Type 0} (kit : Kit Instr) (laid : Laid Instr) where
  abbrev pub count_of : ℕ → Option (Line Instr) → ℕ
  count_of number (Some line) = length (form_in kit laid number line)
  count_of number None = 0

  -- how many instructions the lines before the one of this number have
  abbrev pub count_before : ℕ → ℕ
  count_before zero = 0
  count_before (suc number) = count_before number + count_of number (slice_get laid.body.code number)

  -- the instruction of this number, counted over the whole function, is one of the line
  pub record IsOfLine (number line : ℕ) : Type 0 where
    pub within : line < length laid.body.code
    pub from : count_before line ≤ number
    pub below : number < count_before (line + 1)

  -- an instruction that stands at the address comes from this position in the sources
  pub record HasPos (code : List (Placed Instr)) (address : ℕ) (pos : Pos) : Type 0 where
    pub number : ℕ
    pub one : Placed Instr
    pub here : slice_get code number ≡ Some one
    pub stands : one.at ≡ address
    pub line : ℕ
    pub of : IsOfLine number line
    pub item : Line Instr
    pub said : slice_get laid.body.code line ≡ Some item
    pub at : pos ≡ item.pos

-- no instruction stands at the address
abbrev pub IsNowhere : {Instr : Type 0} → List (Placed Instr) → ℕ → Type 0
IsNowhere {Instr} code address = (number : ℕ) (one : Placed Instr) → slice_get code number ≡ Some one → one.at ≢ address
