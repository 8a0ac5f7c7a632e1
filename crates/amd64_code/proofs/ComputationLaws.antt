-- What computes is read back from its spelling, whatever follows. Where two clauses have one proof, the second one is checked for
-- each other operation, register or condition.
use Rattle.std.specs.Prelude.{slice_index, if◌then◌else◌}
use Rattle.std.proofs.Common.{◌≡◌, ℕ, ℤ, Bool, true, false, List, [], ◌∷◌, ◌++◌, ◌/◌, ◌%◌, ◌<◌, refl, ap, ◌∙◌, arith}
use Rattle.machine_effect.specs.Numbers.{fits as fits_bits}
use Rattle.amd64_table.specs.declared.reg.Reg.{Reg}
use Rattle.amd64_table.specs.declared.reg.Reg.TheVariants.{Ax}
use Rattle.amd64_table.specs.declared.xmm.Xmm.{Xmm}
use Rattle.amd64_table.specs.declared.condition.Cc.{Cc}
use Rattle.amd64_table.specs.declared.condition.Cc.TheVariants.{Over}
use Rattle.amd64_table.specs.declared.width.Width.{Width}
use Rattle.amd64_table.specs.declared.width.Width.TheVariants.{L}
use Rattle.amd64_table.specs.declared.memory.Mem.{Mem}
use Rattle.amd64_table.specs.declared.memory.Rm.{Rm}
use Rattle.amd64_table.specs.declared.memory.Rm.TheVariants as operand
use Rattle.amd64_table.specs.declared.op.Arithmetic.{Arithmetic}
use Rattle.amd64_table.specs.declared.op.Arithmetic.TheVariants as arithmetic
use Rattle.amd64_table.specs.declared.op.Unary.{Unary}
use Rattle.amd64_table.specs.declared.op.Unary.TheVariants as unary
use Rattle.amd64_table.specs.declared.op.MulDiv.{MulDiv}
use Rattle.amd64_table.specs.declared.op.MulDiv.TheVariants as mul_div
use Rattle.amd64_table.specs.declared.op.RmReg.{RmReg}
use Rattle.amd64_table.specs.declared.op.RmReg.TheVariants as rm_reg
use Rattle.amd64_table.specs.declared.op.ShiftOp.{ShiftOp}
use Rattle.amd64_table.specs.declared.op.ShiftOp.TheVariants as shift
use Rattle.amd64_table.specs.declared.op.Atomic.{Atomic}
use Rattle.amd64_table.specs.declared.op.Atomic.TheVariants as atomic
use Rattle.amd64_table.specs.declared.instr.Instr.TheVariants as instr
use Rattle.amd64_table.specs.Registers.{number_of, low_bits_xmm}
use Rattle.amd64_table.specs.Conditions.{cc_number}
use Rattle.amd64_table.specs.Operands.{is_quad}
use Rattle.amd64_table.specs.Fits.{fits_mem, fits_rm}
use Rattle.amd64_code.specs.declared.head.Opcode.TheVariants.{One}
use Rattle.amd64_code.specs.Constants.{byte_of, long_of, short_of, byte_in, long_in}
use Rattle.amd64_code.specs.Registers.{reg_at, cc_at}
use Rattle.amd64_code.specs.ModRm.{fields, rm_bytes}
use Rattle.amd64_code.specs.Opcodes.{arithmetic_digit, arithmetic_at, unary_opcode, unary_digit, mul_div_digit, mul_div_at, rm_reg_opcode, shift_digit, shift_at, atomic_opcode}
use Rattle.amd64_code.specs.Heads.{head_bytes}
use Rattle.amd64_code.specs.Spelling.{spelling_of, rex_of, locked_head}
use Rattle.amd64_code.specs.Reading.{reading, memory_of, one_byte, arithmetic_row, constant_group, row_8, row_c, unary_group, step_group, row_f, two_bytes, row_0f_a, row_0f_b, row_0f_c}
use Rattle.amd64_code.proofs.HeadLaws.{head_read}
use Rattle.amd64_code.proofs.RegisterLaws.{xmm_back, low_xmm_below}
use Rattle.amd64_code.proofs.ConstantLaws.{byte_back, long_back}
use Rattle.amd64_code.proofs.RowLaws.{behind_head, constant_read, digit_read, reg_rm_read, width_back}

pub arithmetic_reg_back : (op : Arithmetic) (lock : Bool) (width : Width) (from : Reg) (to : Rm) (rest : List ℕ)
    → fits_rm to ≡ true
    → reading (spelling_of (instr.ArithmeticReg op lock width from to) ++ rest) ≡ instr.ArithmeticReg op lock width from to
unfolding spelling_of arithmetic_digit arithmetic_at one_byte arithmetic_row
arithmetic_reg_back arithmetic.Add lock width from to rest fit =
    reg_rm_read _ width from to rest (instr.ArithmeticReg arithmetic.Add lock) refl refl fit (λ tail. refl)
arithmetic_reg_back op lock width from to rest fit =
    reg_rm_read _ width from to rest (instr.ArithmeticReg op lock) refl refl fit (λ tail. refl)

-- 83 with one byte, 81 with four
group_cases : (digit : ℕ) (lock : Bool) (width : Width) (constant : ℤ) (rm : Rm) (rest : List ℕ) (small : Bool)
    → digit < 8 → fits_bits 8 constant ≡ small → fits_rm rm ≡ true → fits_bits 32 constant ≡ true
    → reading ((head_bytes (locked_head lock (rex_of (is_quad width) false rm) (if small then One 0x83 else One 0x81))
    ++ rm_bytes digit rm ++ (if small then byte_of constant else long_of constant)) ++ rest)
    ≡ constant_group lock width digit rm constant
unfolding one_byte row_8
group_cases digit lock width constant rm rest true below small fit whole =
    constant_read _ width digit rm (byte_of constant) rest (λ w digit rm rest. constant_group lock w digit rm (byte_in rest))
    refl refl below fit (λ tail. refl)
    ∙ ap (constant_group lock width digit rm) (byte_back constant rest small)
group_cases digit lock width constant rm rest false below small fit whole =
    constant_read _ width digit rm (long_of constant) rest (λ w digit rm rest. constant_group lock w digit rm (long_in rest))
    refl refl below fit (λ tail. refl)
    ∙ ap (constant_group lock width digit rm) (long_back constant rest whole)

group_back : (digit : ℕ) (lock : Bool) (width : Width) (constant : ℤ) (rm : Rm) (rest : List ℕ)
    → digit < 8 → fits_rm rm ≡ true → fits_bits 32 constant ≡ true
    → reading ((head_bytes (locked_head lock (rex_of (is_quad width) false rm) (if fits_bits 8 constant then One 0x83 else One 0x81))
    ++ rm_bytes digit rm ++ short_of constant) ++ rest)
    ≡ constant_group lock width digit rm constant
unfolding short_of
group_back digit lock width constant rm rest below = group_cases digit lock width constant rm rest (fits_bits 8 constant) below refl

pub arithmetic_const_back : (op : Arithmetic) (lock : Bool) (width : Width) (constant : ℤ) (to : Rm) (rest : List ℕ)
    → fits_rm to ≡ true → fits_bits 32 constant ≡ true
    → reading (spelling_of (instr.ArithmeticConst op lock width constant to) ++ rest)
    ≡ instr.ArithmeticConst op lock width constant to
unfolding spelling_of arithmetic_digit arithmetic_at constant_group
arithmetic_const_back arithmetic.Add lock width constant to rest = group_back 0 lock width constant to rest (omega arith)
arithmetic_const_back op lock width constant to rest =
    group_back (arithmetic_digit op) lock width constant to rest (omega arith)

pub compare_const_back : (width : Width) (rm : Rm) (constant : ℤ) (rest : List ℕ)
    → fits_rm rm ≡ true → fits_bits 32 constant ≡ true
    → reading (spelling_of (instr.CompareConst width rm constant) ++ rest) ≡ instr.CompareConst width rm constant
unfolding spelling_of constant_group
compare_const_back width rm constant rest = group_back 7 false width constant rm rest (omega arith)

pub unary_back : (op : Unary) (lock : Bool) (width : Width) (rm : Rm) (rest : List ℕ) → fits_rm rm ≡ true
    → reading (spelling_of (instr.Unary op lock width rm) ++ rest) ≡ instr.Unary op lock width rm
unfolding spelling_of unary_opcode unary_digit one_byte row_f unary_group step_group
unary_back unary.Inc lock width rm rest fit = digit_read _ width 0 rm rest (step_group lock) refl refl (omega arith) fit (λ tail. refl)
unary_back unary.Dec lock width rm rest fit = digit_read _ width 1 rm rest (step_group lock) refl refl (omega arith) fit (λ tail. refl)
unary_back unary.Not lock width rm rest fit = digit_read _ width 2 rm rest (unary_group lock) refl refl (omega arith) fit (λ tail. refl)
unary_back unary.Neg lock width rm rest fit = digit_read _ width 3 rm rest (unary_group lock) refl refl (omega arith) fit (λ tail. refl)

pub mul_div_back : (op : MulDiv) (width : Width) (rm : Rm) (rest : List ℕ) → fits_rm rm ≡ true
    → reading (spelling_of (instr.MulDiv op width rm) ++ rest) ≡ instr.MulDiv op width rm
unfolding spelling_of mul_div_digit mul_div_at one_byte row_f unary_group
mul_div_back mul_div.Mul width rm rest fit = digit_read _ width 4 rm rest (unary_group false) refl refl (omega arith) fit (λ tail. refl)
mul_div_back op width rm rest fit =
    digit_read _ width (mul_div_digit op) rm rest (unary_group false) refl refl (omega arith) fit (λ tail. refl)

pub rm_reg_back : (op : RmReg) (width : Width) (from : Rm) (to : Reg) (rest : List ℕ) → fits_rm from ≡ true
    → reading (spelling_of (instr.RmReg op width from to) ++ rest) ≡ instr.RmReg op width from to
unfolding spelling_of rm_reg_opcode two_bytes row_0f_a row_0f_b
rm_reg_back rm_reg.Imul width from to rest fit =
    reg_rm_read _ width to from rest (λ w reg rm. instr.RmReg rm_reg.Imul w rm reg) refl refl fit (λ tail. refl)
rm_reg_back op width from to rest fit =
    reg_rm_read _ width to from rest (λ w reg rm. instr.RmReg op w rm reg) refl refl fit (λ tail. refl)

pub shift_const_back : (op : ShiftOp) (width : Width) (count : ℕ) (rm : Rm) (rest : List ℕ) → fits_rm rm ≡ true
    → reading (spelling_of (instr.ShiftConst op width count rm) ++ rest) ≡ instr.ShiftConst op width count rm
unfolding spelling_of shift_digit shift_at one_byte row_c
shift_const_back shift.Shl width count rm rest fit =
    constant_read _ width 4 rm (count ∷ []) rest (λ w digit rm rest. instr.ShiftConst (shift_at digit) w (slice_index rest 0) rm)
    refl refl (omega arith) fit (λ tail. refl)
shift_const_back op width count rm rest fit =
    constant_read _ width (shift_digit op) rm (count ∷ []) rest
    (λ w digit rm rest. instr.ShiftConst (shift_at digit) w (slice_index rest 0) rm) refl refl (omega arith) fit (λ tail. refl)

pub shift_cx_back : (op : ShiftOp) (width : Width) (rm : Rm) (rest : List ℕ) → fits_rm rm ≡ true
    → reading (spelling_of (instr.ShiftCx op width rm) ++ rest) ≡ instr.ShiftCx op width rm
unfolding spelling_of shift_digit shift_at one_byte
shift_cx_back shift.Shl width rm rest fit =
    digit_read _ width 4 rm rest (λ w digit. instr.ShiftCx (shift_at digit) w) refl refl (omega arith) fit (λ tail. refl)
shift_cx_back op width rm rest fit =
    digit_read _ width (shift_digit op) rm rest (λ w digit. instr.ShiftCx (shift_at digit) w) refl refl (omega arith) fit (λ tail. refl)

pub exchange_back : (width : Width) (reg : Reg) (mem : Mem) (rest : List ℕ) → fits_mem mem ≡ true
    → reading (spelling_of (instr.Exchange width reg mem) ++ rest) ≡ instr.Exchange width reg mem
unfolding spelling_of one_byte row_8 fits_rm
exchange_back width reg mem rest fit =
    reg_rm_read _ width reg (operand.Mem mem) rest (λ w reg rm. instr.Exchange w reg (memory_of rm)) refl refl fit (λ tail. refl)

pub atomic_back : (op : Atomic) (lock : Bool) (width : Width) (reg : Reg) (mem : Mem) (rest : List ℕ) → fits_mem mem ≡ true
    → reading (spelling_of (instr.Atomic op lock width reg mem) ++ rest) ≡ instr.Atomic op lock width reg mem
unfolding spelling_of atomic_opcode two_bytes row_0f_b row_0f_c fits_rm
atomic_back atomic.CompareExchange lock width reg mem rest fit =
    reg_rm_read _ width reg (operand.Mem mem) rest (λ w reg rm. instr.Atomic atomic.CompareExchange lock w reg (memory_of rm))
    refl refl fit (λ tail. refl)
atomic_back op lock width reg mem rest fit =
    reg_rm_read _ width reg (operand.Mem mem) rest (λ w reg rm. instr.Atomic op lock w reg (memory_of rm)) refl refl fit (λ tail. refl)

pub set_cc_back : (code : Cc) (to : Rm) (rest : List ℕ) → fits_rm to ≡ true
    → reading (spelling_of (instr.SetCc code to) ++ rest) ≡ instr.SetCc code to
unfolding spelling_of cc_number cc_at two_bytes
set_cc_back Over to rest fit = digit_read _ L 0 to rest (λ w digit. instr.SetCc Over) refl refl (omega arith) fit (λ tail. refl)
set_cc_back code to rest fit = digit_read _ L 0 to rest (λ w digit. instr.SetCc code) refl refl (omega arith) fit (λ tail. refl)

pub swap_bytes_back : (width : Width) (reg : Reg) (rest : List ℕ)
    → reading (spelling_of (instr.SwapBytes width reg) ++ rest) ≡ instr.SwapBytes width reg
unfolding spelling_of number_of reg_at two_bytes row_0f_c
swap_bytes_back width Ax rest = head_read _ rest refl ∙ ap (λ w. instr.SwapBytes w Ax) (width_back width)
swap_bytes_back width reg rest = head_read _ rest refl ∙ ap (λ w. instr.SwapBytes w reg) (width_back width)

pub xor_wide_back : (from to : Xmm) (rest : List ℕ)
    → reading (spelling_of (instr.XorWide from to) ++ rest) ≡ instr.XorWide from to
unfolding spelling_of two_bytes
xor_wide_back from to rest =
    let source : low_bits_xmm from < 8 = low_xmm_below from in
    let goal : low_bits_xmm to < 8 = low_xmm_below to in
    let middle : fields 3 (low_bits_xmm to) (low_bits_xmm from) / 8 % 8 ≡ low_bits_xmm to = omega arith in
    let low : fields 3 (low_bits_xmm to) (low_bits_xmm from) % 8 ≡ low_bits_xmm from = omega arith in
    behind_head _ (fields 3 (low_bits_xmm to) (low_bits_xmm from) ∷ []) rest refl ∙ rw (middle, low, xmm_back from, xmm_back to) refl
