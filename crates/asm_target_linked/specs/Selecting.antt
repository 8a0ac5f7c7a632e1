-- The one mnemonic: `ABOVE $c`, with c below 2 ^ 32.
use Rattle.std.specs.Prelude.{◌≡◌, ℕ, ◌<◌, ◌^◌, ◌&&◌, ◌||◌, Bool, true, false, not, nat_lt, IsTrue, List, [], ◌∷◌, bytes_eq, codes, Option, Some, None, is_some, if◌then◌else◌}
use Rattle.std.specs.List.{list_all}
use Rattle.goasm_base.specs.declared.statement.Operand.{Operand}
use Rattle.asm_target.specs.declared.select_no.SelectNo.{SelectNo}
use Rattle.asm_target.specs.declared.select_no.SelectNo.TheVariants as no
use Rattle.goasm_base.specs.declared.statement.Operand.TheVariants.{Imm, Word, Mem, Pair, Shifted}
use Rattle.goasm_base.specs.declared.statement.Stmt.{Stmt}
use Rattle.asm_target.specs.declared.refer.Picked.{Picked}
use Rattle.asm_target.specs.declared.width.Width.{Width}
use Rattle.asm_target.specs.declared.width.Width.TheVariants.{Unknown}
use Rattle.asm_target.specs.Selection.{Selection}
use Rattle.asm_target_linked.specs.declared.instr.FrameOp.TheVariants.{Above}
use Rattle.asm_target_linked.specs.declared.instr.Instr.{Instr}
use Rattle.asm_target_linked.specs.declared.instr.Instr.TheVariants.{Frame}
use Rattle.asm_target_linked.specs.Frames.{plain}

abbrev pub is_register : List ℕ → Bool
is_register name = bytes_eq name (codes "SP")

abbrev pub is_word : List ℕ → Bool
is_word name = bytes_eq name (codes "SP") || bytes_eq name (codes "T")

pub record IsKnown (name : List ℕ) (letter : Option ℕ) : Type 0 where
  pub op : name ≡ codes "ABOVE"
  pub suffix : letter ≡ None

pub record Becomes (stmt : Stmt) (code : List (Picked Instr)) : Type 0 where
  pub known : IsKnown stmt.op stmt.suffix
  pub lock : stmt.lock ≡ false
  pub constant : ℕ
  pub operands : stmt.operands ≡ Imm constant ∷ []
  pub low : constant < 2 ^ 32
  pub code_is : code ≡ plain (Frame Above constant) ∷ []

abbrev pub selection : Selection Instr
selection = record {
  word = λ name. IsTrue (is_word name);
  register = λ name. IsTrue (is_register name);
  knows = IsKnown;
  becomes = λ stmt site code. Becomes stmt code;
}

abbrev pub widths : List ℕ → Width
widths op = Unknown

-- Tests of the same
abbrev pub has_no_suffix : Option ℕ → Bool
has_no_suffix None = true
has_no_suffix (Some letter) = false

abbrev pub is_known : Stmt → Bool
is_known stmt = bytes_eq stmt.op (codes "ABOVE") && has_no_suffix stmt.suffix

abbrev pub constant_in : List Operand → Option ℕ
constant_in (Imm constant ∷ []) = Some constant
constant_in _ = None

-- the constant of a statement that could be one, and of one that is
abbrev pub constant_of : Stmt → Option ℕ
constant_of stmt = if not stmt.lock then constant_in stmt.operands else None

abbrev pub low_of : Option ℕ → Option ℕ
low_of (Some constant) = if nat_lt constant (2 ^ 32) then Some constant else None
low_of None = None

abbrev pub selected_of : Stmt → Option ℕ
selected_of stmt = if is_known stmt then low_of (constant_of stmt) else None

abbrev pub names_index : Option (List ℕ × ℕ) → Bool
names_index None = true
names_index (Some part) = is_register part.0

abbrev pub names_word : Operand → Bool
names_word (Word name) = is_word name
names_word (Mem off base index) = is_register base && names_index index
names_word (Pair first second) = is_register first && is_register second
names_word (Shifted reg kind amount) = is_register reg
names_word _ = true

abbrev pub refusal_of : Stmt → SelectNo
refusal_of stmt =
    if not (is_known stmt) then no.S1
    else (if not (list_all names_word stmt.operands) then no.S2
    else (if is_some (constant_of stmt) then no.S4
    else no.S3))
