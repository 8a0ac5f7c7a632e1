-- Which instructions statements become.
use Rattle.std.specs.Prelude.{◌≡◌, ℕ, Bool, false, List, [], ◌∷◌, ◌++◌, map, Option, Some, None}
use Rattle.goasm_base.specs.declared.statement.Operand.{Operand}
use Rattle.goasm_base.specs.declared.statement.Stmt.{Stmt}
use Rattle.asm_target.specs.declared.frame.FrameShape.{FrameShape}
use Rattle.asm_target.specs.declared.frame.Site.{Site}
use Rattle.asm_target.specs.declared.refer.Picked.{Picked}
use Rattle.asm_target.specs.declared.refer.Refer.{Refer}
use Rattle.asm_target.specs.Selection.{Selection}
use Rattle.amd64_table.specs.declared.op.Plain.TheVariants as plain
use Rattle.amd64_table.specs.declared.instr.Instr.{Instr}
use Rattle.amd64_table.specs.declared.instr.Instr.TheVariants as instr
use Rattle.amd64_forms.specs.declared.rows.Spoken.{Spoken}
use Rattle.amd64_forms.specs.declared.rows.Spoken.TheVariants.{Nothing}
use Rattle.amd64_forms.specs.declared.rows.Resolved.{Resolved}
use Rattle.amd64_forms.specs.Rows.{Becomes as BecomesOne}
use Rattle.amd64_forms.specs.Words.{Says, IsWord, IsRegister}
use Rattle.amd64_select.specs.Frames.{exit_of}
use Rattle.amd64_select.specs.Operands.{Resolves, refer_of}

-- what the operands of a statement are; none has more than two
abbrev pub ResolveAll : Spoken → Site → List Operand → Option Resolved → Option Resolved → Type 0
ResolveAll spoken site [] first second = (first ≡ None) × (second ≡ None)
ResolveAll spoken site (one ∷ []) first second =
    (x : Resolved) × Resolves spoken site one x × (first ≡ Some x) × (second ≡ None)
ResolveAll spoken site (one ∷ other ∷ []) first second =
    (x : Resolved) × (y : Resolved) × Resolves spoken site one x × Resolves spoken site other y
    × (first ≡ Some x) × (second ≡ Some y)
ResolveAll spoken site (one ∷ two ∷ three ∷ more) first second = ⊥

-- the listed instruction that a name with operands is, LOCK before it or not
pub record Picks (spoken : Spoken) (lock : Bool) (site : Site) (operands : List Operand) (i : Instr) : Type 0 where
  pub first : Option Resolved
  pub second : Option Resolved
  pub resolved : ResolveAll spoken site operands first second
  pub becomes : BecomesOne spoken lock first second i

-- what the first operand that refers to something refers to
abbrev pub first_refer : Option Refer → Option Refer → Option Refer
first_refer (Some refer) other = Some refer
first_refer None other = other

abbrev pub refers : List Operand → Option Refer
refers [] = None
refers (one ∷ more) = first_refer (refer_of one) (refers more)

abbrev pub alone : Instr → Picked Instr
alone i = record { instr = i; refer = None }

-- before RET the function leaves its frame
abbrev pub before : Instr → FrameShape → List Instr
before (instr.Plain plain.Ret) frame = exit_of frame
before _ frame = []

abbrev pub code_of : Instr → Option Refer → FrameShape → List (Picked Instr)
code_of i refer frame = map alone (before i frame) ++ record { instr = i; refer = refer } ∷ []

-- NOP, PCDATA and FUNCDATA become nothing, whatever their operands are
abbrev pub BecomesBy : Spoken → Stmt → Site → List (Picked Instr) → Type 0
BecomesBy Nothing stmt site code = (stmt.lock ≡ false) × (code ≡ [])
BecomesBy spoken stmt site code =
    (i : Instr) × Picks spoken stmt.lock site stmt.operands i × (code ≡ code_of i (refers stmt.operands) site.frame)

-- no mnemonic has a suffix
pub record Becomes (stmt : Stmt) (site : Site) (code : List (Picked Instr)) : Type 0 where
  pub plain : stmt.suffix ≡ None
  pub spoken : Spoken
  pub says : Says stmt.op spoken
  pub by : BecomesBy spoken stmt site code

abbrev pub Knows : List ℕ → Option ℕ → Type 0
Knows op suffix = (suffix ≡ None) × ((spoken : Spoken) × Says op spoken)

abbrev pub selection : Selection Instr
selection = record { word = IsWord; register = IsRegister; knows = Knows; becomes = Becomes }
