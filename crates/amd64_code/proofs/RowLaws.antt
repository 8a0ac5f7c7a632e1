-- What is read of a head and the operand behind it, stated once for all rows: the row makes its instruction of the decoded fields,
-- and these are the fields that were spelled.
use Rattle.std.specs.Prelude.{if◌then◌else◌}
use Rattle.std.proofs.Common.{◌≡◌, ℕ, Bool, true, false, List, ◌++◌, ◌<◌, refl, ap, ◌∙◌}
use Rattle.std.proofs.lemmas.List.{append_assoc}
use Rattle.amd64_table.specs.declared.reg.Reg.{Reg}
use Rattle.amd64_table.specs.declared.width.Width.{Width}
use Rattle.amd64_table.specs.declared.width.Width.TheVariants.{Q, L}
use Rattle.amd64_table.specs.declared.memory.Rm.{Rm}
use Rattle.amd64_table.specs.declared.instr.Instr.{Instr}
use Rattle.amd64_table.specs.Registers.{low_bits, is_high}
use Rattle.amd64_table.specs.Operands.{is_quad}
use Rattle.amd64_table.specs.Fits.{fits_rm}
use Rattle.amd64_code.specs.declared.head.Head.{Head}
use Rattle.amd64_code.specs.Heads.{head_bytes}
use Rattle.amd64_code.specs.Registers.{reg_at}
use Rattle.amd64_code.specs.ModRm.{field_in, rm_bytes}
use Rattle.amd64_code.specs.Spelling.{rex_of}
use Rattle.amd64_code.specs.Reading.{reading, width_in, reg_in, operand_in, behind_operand}
use Rattle.amd64_code.proofs.HeadLaws.{is_opcode, by_head, head_read}
use Rattle.amd64_code.proofs.RegisterLaws.{reg_back, low_below}
use Rattle.amd64_code.proofs.ModRmLaws.{rm_back, field_back, behind_rm}

pub width_back : (width : Width) → (if is_quad width then Q else L) ≡ width
width_back Q = refl
width_back L = refl

pub behind_head : (head : Head) (body rest : List ℕ) → is_opcode head.opcode ≡ true
    → reading ((head_bytes head ++ body) ++ rest) ≡ by_head head (body ++ rest)
behind_head head body rest code = ap reading (append_assoc (head_bytes head) body rest) ∙ head_read head (body ++ rest) code

-- an operand, and what is behind it
pub operand_read : (head : Head) (width : Width) (high : Bool) (field : ℕ) (rm : Rm) (rest : List ℕ)
    (made : Width → Bool → ℕ → Rm → List ℕ → Instr)
    → is_opcode head.opcode ≡ true → head.rex ≡ rex_of (is_quad width) high rm → field < 8 → fits_rm rm ≡ true
    → ((tail : List ℕ) → by_head head tail
    ≡ made (width_in head.rex) head.rex.r (field_in tail) (operand_in head.rex tail) (behind_operand tail))
    → reading ((head_bytes head ++ rm_bytes field rm) ++ rest) ≡ made width high field rm rest
operand_read head width high field rm rest made code rex small fit row =
    behind_head head (rm_bytes field rm) rest code ∙ row (rm_bytes field rm ++ rest)
    ∙ rw (
      rex,
      width_back width,
      field_back field rm rest small,
      rm_back field rm rest small fit,
      behind_rm field rm rest small,
    ) refl

-- .. with a constant
pub constant_read : (head : Head) (width : Width) (digit : ℕ) (rm : Rm) (constant rest : List ℕ)
    (made : Width → ℕ → Rm → List ℕ → Instr)
    → is_opcode head.opcode ≡ true → head.rex ≡ rex_of (is_quad width) false rm → digit < 8 → fits_rm rm ≡ true
    → ((tail : List ℕ) → by_head head tail
    ≡ made (width_in head.rex) (field_in tail) (operand_in head.rex tail) (behind_operand tail))
    → reading ((head_bytes head ++ rm_bytes digit rm ++ constant) ++ rest) ≡ made width digit rm (constant ++ rest)
constant_read head width digit rm constant rest made code rex small fit row =
    ap reading (append_assoc (head_bytes head ++ rm_bytes digit rm) constant rest)
    ∙ operand_read head width false digit rm (constant ++ rest) (λ w high field rm rest. made w field rm rest) code rex small fit row

-- .. a digit alone
pub digit_read : (head : Head) (width : Width) (digit : ℕ) (rm : Rm) (rest : List ℕ) (made : Width → ℕ → Rm → Instr)
    → is_opcode head.opcode ≡ true → head.rex ≡ rex_of (is_quad width) false rm → digit < 8 → fits_rm rm ≡ true
    → ((tail : List ℕ) → by_head head tail ≡ made (width_in head.rex) (field_in tail) (operand_in head.rex tail))
    → reading ((head_bytes head ++ rm_bytes digit rm) ++ rest) ≡ made width digit rm
digit_read head width digit rm rest made = operand_read head width false digit rm rest (λ w high field rm rest. made w field rm)

-- .. or a register
pub reg_rm_read : (head : Head) (width : Width) (reg : Reg) (rm : Rm) (rest : List ℕ) (made : Width → Reg → Rm → Instr)
    → is_opcode head.opcode ≡ true → head.rex ≡ rex_of (is_quad width) (is_high reg) rm → fits_rm rm ≡ true
    → ((tail : List ℕ) → by_head head tail ≡ made (width_in head.rex) (reg_in head.rex tail) (operand_in head.rex tail))
    → reading ((head_bytes head ++ rm_bytes (low_bits reg) rm) ++ rest) ≡ made width reg rm
reg_rm_read head width reg rm rest made code rex fit row =
    operand_read head width (is_high reg) (low_bits reg) rm rest (λ w high field rm rest. made w (reg_at high field) rm)
    code rex (low_below reg) fit row
    ∙ ap (λ reg. made width reg rm) (reg_back reg)
