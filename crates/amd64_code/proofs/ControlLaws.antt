-- Instructions of the stack, branches and those without operands are read back from their spelling, whatever follows. Where two
-- clauses have one proof, the second one is checked for each other operation, register or condition.
use Rattle.std.specs.Prelude.{Option, Some}
use Rattle.std.proofs.Common.{◌≡◌, ℕ, ℤ, true, false, List, ◌++◌, refl, ap, ◌∙◌, arith}
use Rattle.machine_effect.specs.Numbers.{fits as fits_bits}
use Rattle.amd64_table.specs.declared.reg.Reg.{Reg}
use Rattle.amd64_table.specs.declared.reg.Reg.TheVariants.{Ax}
use Rattle.amd64_table.specs.declared.condition.Cc.{Cc}
use Rattle.amd64_table.specs.declared.condition.Cc.TheVariants.{Over}
use Rattle.amd64_table.specs.declared.width.Width.TheVariants.{L}
use Rattle.amd64_table.specs.declared.memory.Rm.{Rm}
use Rattle.amd64_table.specs.declared.op.Stack.{Stack}
use Rattle.amd64_table.specs.declared.op.Stack.TheVariants as stack
use Rattle.amd64_table.specs.declared.op.Near.{Near}
use Rattle.amd64_table.specs.declared.op.Near.TheVariants as near
use Rattle.amd64_table.specs.declared.op.Indirect.{Indirect}
use Rattle.amd64_table.specs.declared.op.Indirect.TheVariants as indirect
use Rattle.amd64_table.specs.declared.op.Plain.{Plain}
use Rattle.amd64_table.specs.declared.op.Plain.TheVariants as plain
use Rattle.amd64_table.specs.declared.instr.Instr.TheVariants as instr
use Rattle.amd64_table.specs.Registers.{number_of}
use Rattle.amd64_table.specs.Conditions.{cc_number}
use Rattle.amd64_table.specs.Fits.{fits_rm}
use Rattle.amd64_code.specs.Constants.{byte_of, long_of}
use Rattle.amd64_code.specs.Heads.{rex_in, legacy_in}
use Rattle.amd64_code.specs.Registers.{reg_at, cc_at}
use Rattle.amd64_code.specs.Opcodes.{stack_opcode, indirect_digit}
use Rattle.amd64_code.specs.Spelling.{spelling_of, short_opcode, near_opcode, plain_bytes}
use Rattle.amd64_code.specs.Reading.{reading, one_byte, stack_row, row_9, row_c, row_e, step_group, row_f, two_bytes, row_0f_0, row_0f_a}
use Rattle.amd64_code.proofs.HeadLaws.{head_read}
use Rattle.amd64_code.proofs.ConstantLaws.{byte_back, long_back}
use Rattle.amd64_code.proofs.RowLaws.{behind_head, digit_read}

pub stack_back : (op : Stack) (reg : Reg) (rest : List ℕ)
    → reading (spelling_of (instr.Stack op reg) ++ rest) ≡ instr.Stack op reg
unfolding spelling_of stack_opcode number_of reg_at one_byte stack_row
stack_back stack.Push Ax rest = head_read _ rest refl
stack_back stack.Pop Ax rest = head_read _ rest refl
stack_back op reg rest = head_read _ rest refl

pub short_back : (code : Option Cc) (distance : ℤ) (rest : List ℕ) → fits_bits 8 distance ≡ true
    → reading (spelling_of (instr.Short code distance) ++ rest) ≡ instr.Short code distance
unfolding spelling_of short_opcode cc_number cc_at one_byte row_e
short_back (Some Over) distance rest fit =
    behind_head _ (byte_of distance) rest refl ∙ ap (instr.Short (Some Over)) (byte_back distance rest fit)
short_back code distance rest fit = behind_head _ (byte_of distance) rest refl ∙ ap (instr.Short code) (byte_back distance rest fit)

pub near_back : (op : Near) (distance : ℤ) (rest : List ℕ) → fits_bits 32 distance ≡ true
    → reading (spelling_of (instr.Near op distance) ++ rest) ≡ instr.Near op distance
unfolding spelling_of near_opcode cc_number cc_at one_byte row_e two_bytes
near_back (near.If Over) distance rest fit =
    behind_head _ (long_of distance) rest refl ∙ ap (instr.Near (near.If Over)) (long_back distance rest fit)
near_back op distance rest fit = behind_head _ (long_of distance) rest refl ∙ ap (instr.Near op) (long_back distance rest fit)

pub indirect_back : (op : Indirect) (rm : Rm) (rest : List ℕ) → fits_rm rm ≡ true
    → reading (spelling_of (instr.Indirect op rm) ++ rest) ≡ instr.Indirect op rm
unfolding spelling_of indirect_digit one_byte row_f step_group
indirect_back indirect.Jmp rm rest fit = digit_read _ L 4 rm rest (step_group false) refl refl (omega arith) fit (λ tail. refl)
indirect_back op rm rest fit =
    digit_read _ L (indirect_digit op) rm rest (step_group false) refl refl (omega arith) fit (λ tail. refl)

pub plain_back : (op : Plain) (rest : List ℕ) → reading (spelling_of (instr.Plain op) ++ rest) ≡ instr.Plain op
unfolding spelling_of plain_bytes reading legacy_in rex_in one_byte row_9 row_c two_bytes row_0f_0 row_0f_a
plain_back plain.Pause rest = refl
plain_back _ rest = refl
