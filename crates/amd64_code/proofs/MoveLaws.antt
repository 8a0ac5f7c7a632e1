-- What copies is read back from its spelling, whatever follows. Where two clauses have one proof, the second one is checked for
-- each other operation, register or condition.
use Rattle.std.specs.Prelude.{if◌then◌else◌}
use Rattle.std.specs.Int.{w32, to_le_bytes}
use Rattle.std.proofs.Common.{◌≡◌, ℕ, ℤ, Bool, true, false, List, [], ◌∷◌, ◌++◌, ◌+◌, ◌/◌, ◌%◌, ◌<◌, ◌^◌, refl, ap, ◌∙◌, arith}
use Rattle.machine_effect.specs.Numbers.{fits as fits_bits}
use Rattle.amd64_table.specs.declared.reg.Reg.{Reg}
use Rattle.amd64_table.specs.declared.reg.Reg.TheVariants.{Ax}
use Rattle.amd64_table.specs.declared.xmm.Xmm.{Xmm}
use Rattle.amd64_table.specs.declared.condition.Cc.{Cc}
use Rattle.amd64_table.specs.declared.condition.Cc.TheVariants.{Over}
use Rattle.amd64_table.specs.declared.width.Width.{Width}
use Rattle.amd64_table.specs.declared.width.Width.TheVariants.{Q, L}
use Rattle.amd64_table.specs.declared.memory.Mem.{Mem}
use Rattle.amd64_table.specs.declared.memory.Rm.{Rm}
use Rattle.amd64_table.specs.declared.memory.Rm.TheVariants as operand
use Rattle.amd64_table.specs.declared.op.Arithmetic.TheVariants as arithmetic
use Rattle.amd64_table.specs.declared.op.RegRm.{RegRm}
use Rattle.amd64_table.specs.declared.op.RegRm.TheVariants as reg_rm
use Rattle.amd64_table.specs.declared.op.MemReg.{MemReg}
use Rattle.amd64_table.specs.declared.op.MemReg.TheVariants as mem_reg
use Rattle.amd64_table.specs.declared.op.StoreSize.{StoreSize}
use Rattle.amd64_table.specs.declared.op.StoreSize.TheVariants as size
use Rattle.amd64_table.specs.declared.op.Extend.{Extend}
use Rattle.amd64_table.specs.declared.op.Extend.TheVariants as extend
use Rattle.amd64_table.specs.declared.instr.Instr.TheVariants as instr
use Rattle.amd64_table.specs.Registers.{number_of, low_bits, is_high, low_bits_xmm, is_high_xmm}
use Rattle.amd64_table.specs.Conditions.{cc_number}
use Rattle.amd64_table.specs.Fits.{fits_mem, fits_rm}
use Rattle.amd64_code.specs.declared.head.Opcode.TheVariants.{One}
use Rattle.amd64_code.specs.Constants.{byte_of, long_of, quad_of, byte_in, long_in}
use Rattle.amd64_code.specs.Registers.{reg_at, xmm_at, cc_at}
use Rattle.amd64_code.specs.ModRm.{fields, rm_bytes}
use Rattle.amd64_code.specs.Opcodes.{arithmetic_digit, arithmetic_at, reg_rm_opcode, mem_reg_opcode}
use Rattle.amd64_code.specs.Heads.{head_bytes}
use Rattle.amd64_code.specs.Spelling.{spelling_of, load_quad_bytes, rex_of, rex_b, plain_head, store_low_head, extend_head}
use Rattle.amd64_code.specs.Reading.{reading, memory_of, one_byte, arithmetic_row, copy_or_store, load, row_8, row_b, constant_copy, row_c, two_bytes, row_0f_b}
use Rattle.amd64_code.proofs.RegisterLaws.{reg_back, xmm_back, low_below, low_xmm_below}
use Rattle.amd64_code.proofs.ConstantLaws.{byte_back, long_back, unsigned_back, quad_back}
use Rattle.amd64_code.proofs.RowLaws.{behind_head, operand_read, constant_read, reg_rm_read}

pub reg_rm_back : (op : RegRm) (width : Width) (reg : Reg) (rm : Rm) (rest : List ℕ) → fits_rm rm ≡ true
    → reading (spelling_of (instr.RegRm op width reg rm) ++ rest) ≡ instr.RegRm op width reg rm
unfolding spelling_of reg_rm_opcode one_byte arithmetic_row row_8 copy_or_store
reg_rm_back reg_rm.Mov width reg rm rest fit = reg_rm_read _ width reg rm rest (instr.RegRm reg_rm.Mov) refl refl fit (λ tail. refl)
reg_rm_back op width reg rm rest fit = reg_rm_read _ width reg rm rest (instr.RegRm op) refl refl fit (λ tail. refl)

pub mem_reg_back : (op : MemReg) (width : Width) (mem : Mem) (reg : Reg) (rest : List ℕ) → fits_mem mem ≡ true
    → reading (spelling_of (instr.MemReg op width mem reg) ++ rest) ≡ instr.MemReg op width mem reg
unfolding spelling_of mem_reg_opcode arithmetic_digit arithmetic_at one_byte arithmetic_row row_8 load fits_rm
mem_reg_back (mem_reg.Arithmetic arithmetic.Add) width mem reg rest fit =
    reg_rm_read _ width reg (operand.Mem mem) rest (λ w reg rm. instr.MemReg (mem_reg.Arithmetic arithmetic.Add) w (memory_of rm) reg)
    refl refl fit (λ tail. refl)
mem_reg_back op width mem reg rest fit =
    reg_rm_read _ width reg (operand.Mem mem) rest (λ w reg rm. instr.MemReg op w (memory_of rm) reg) refl refl fit (λ tail. refl)

pub store_low_back : (size : StoreSize) (from : Reg) (to : Mem) (rest : List ℕ) → fits_mem to ≡ true
    → reading (spelling_of (instr.StoreLow size from to) ++ rest) ≡ instr.StoreLow size from to
unfolding spelling_of store_low_head one_byte row_8 copy_or_store fits_rm
store_low_back size.Byte from to rest fit =
    reg_rm_read _ L from (operand.Mem to) rest (λ w reg rm. instr.StoreLow size.Byte reg (memory_of rm)) refl refl fit (λ tail. refl)
store_low_back size from to rest fit =
    reg_rm_read _ L from (operand.Mem to) rest (λ w reg rm. instr.StoreLow size reg (memory_of rm)) refl refl fit (λ tail. refl)

pub extend_back : (op : Extend) (from : Rm) (to : Reg) (rest : List ℕ) → fits_rm from ≡ true
    → reading (spelling_of (instr.Extend op from to) ++ rest) ≡ instr.Extend op from to
unfolding spelling_of extend_head one_byte two_bytes row_0f_b
extend_back extend.ByteZero from to rest fit =
    reg_rm_read _ L to from rest (λ w reg rm. instr.Extend extend.ByteZero rm reg) refl refl fit (λ tail. refl)
extend_back extend.WordZero from to rest fit =
    reg_rm_read _ L to from rest (λ w reg rm. instr.Extend extend.WordZero rm reg) refl refl fit (λ tail. refl)
extend_back op from to rest fit =
    reg_rm_read _ Q to from rest (λ w reg rm. instr.Extend op rm reg) refl refl fit (λ tail. refl)

pub load_long_back : (constant : ℕ) (to : Reg) (rest : List ℕ) → constant < 2 ^ 32
    → reading (spelling_of (instr.LoadLong constant to) ++ rest) ≡ instr.LoadLong constant to
unfolding spelling_of number_of reg_at one_byte row_b
load_long_back constant Ax rest fit =
    behind_head _ (to_le_bytes w32 constant) rest refl ∙ ap (λ c. instr.LoadLong c Ax) (unsigned_back constant rest fit)
load_long_back constant to rest fit =
    behind_head _ (to_le_bytes w32 constant) rest refl ∙ ap (λ c. instr.LoadLong c to) (unsigned_back constant rest fit)

quad_back_8 : (constant : ℤ) (to : Reg) (rest : List ℕ) → fits_bits 64 constant ≡ true
    → reading ((head_bytes (plain_head (rex_b true (is_high to)) (One (0xb8 + low_bits to))) ++ quad_of constant) ++ rest)
    ≡ instr.LoadQuad constant to
unfolding number_of reg_at one_byte row_b
quad_back_8 constant Ax rest fit =
    behind_head _ (quad_of constant) rest refl ∙ ap (λ c. instr.LoadQuad c Ax) (quad_back constant rest fit)
quad_back_8 constant to rest fit =
    behind_head _ (quad_of constant) rest refl ∙ ap (λ c. instr.LoadQuad c to) (quad_back constant rest fit)

load_quad_cases : (constant : ℤ) (to : Reg) (rest : List ℕ) (small : Bool)
    → fits_bits 32 constant ≡ small → fits_bits 64 constant ≡ true
    → reading ((if small
    then head_bytes (plain_head (rex_of true false (operand.Reg to)) (One 0xc7)) ++ rm_bytes 0 (operand.Reg to) ++ long_of constant
    else head_bytes (plain_head (rex_b true (is_high to)) (One (0xb8 + low_bits to))) ++ quad_of constant) ++ rest)
    ≡ instr.LoadQuad constant to
unfolding one_byte row_c constant_copy fits_rm
load_quad_cases constant to rest true small fit =
    constant_read _ Q 0 (operand.Reg to) (long_of constant) rest (λ w digit rm rest. constant_copy w rm (long_in rest))
    refl refl (omega arith) refl (λ tail. refl)
    ∙ ap (λ c. instr.LoadQuad c to) (long_back constant rest small)
load_quad_cases constant to rest false small fit = quad_back_8 constant to rest fit

pub load_quad_back : (constant : ℤ) (to : Reg) (rest : List ℕ) → fits_bits 64 constant ≡ true
    → reading (spelling_of (instr.LoadQuad constant to) ++ rest) ≡ instr.LoadQuad constant to
unfolding spelling_of load_quad_bytes
load_quad_back constant to rest fit = load_quad_cases constant to rest (fits_bits 32 constant) refl fit

pub store_const_back : (width : Width) (constant : ℤ) (to : Mem) (rest : List ℕ)
    → fits_mem to ≡ true → fits_bits 32 constant ≡ true
    → reading (spelling_of (instr.StoreConst width constant to) ++ rest) ≡ instr.StoreConst width constant to
unfolding spelling_of one_byte row_c constant_copy fits_rm
store_const_back width constant to rest fit whole =
    constant_read _ width 0 (operand.Mem to) (long_of constant) rest (λ w digit rm rest. constant_copy w rm (long_in rest))
    refl refl (omega arith) fit (λ tail. refl)
    ∙ ap (λ c. instr.StoreConst width c to) (long_back constant rest whole)

pub store_byte_back : (constant : ℤ) (to : Mem) (rest : List ℕ) → fits_mem to ≡ true → fits_bits 8 constant ≡ true
    → reading (spelling_of (instr.StoreByte constant to) ++ rest) ≡ instr.StoreByte constant to
unfolding spelling_of one_byte row_c fits_rm
store_byte_back constant to rest fit whole =
    constant_read _ L 0 (operand.Mem to) (byte_of constant) rest (λ w digit rm rest. instr.StoreByte (byte_in rest) (memory_of rm))
    refl refl (omega arith) fit (λ tail. refl)
    ∙ ap (λ c. instr.StoreByte c to) (byte_back constant rest whole)

pub lea_back : (from : Mem) (to : Reg) (rest : List ℕ) → fits_mem from ≡ true
    → reading (spelling_of (instr.Lea from to) ++ rest) ≡ instr.Lea from to
unfolding spelling_of one_byte row_8 fits_rm
lea_back from to rest fit =
    reg_rm_read _ Q to (operand.Mem from) rest (λ w reg rm. instr.Lea (memory_of rm) reg) refl refl fit (λ tail. refl)

pub move_cc_back : (code : Cc) (width : Width) (from : Rm) (to : Reg) (rest : List ℕ) → fits_rm from ≡ true
    → reading (spelling_of (instr.MoveCc code width from to) ++ rest) ≡ instr.MoveCc code width from to
unfolding spelling_of cc_number cc_at two_bytes
move_cc_back Over width from to rest fit =
    reg_rm_read _ width to from rest (λ w reg rm. instr.MoveCc Over w rm reg) refl refl fit (λ tail. refl)
move_cc_back code width from to rest fit =
    reg_rm_read _ width to from rest (λ w reg rm. instr.MoveCc code w rm reg) refl refl fit (λ tail. refl)

pub load_wide_back : (from : Mem) (to : Xmm) (rest : List ℕ) → fits_mem from ≡ true
    → reading (spelling_of (instr.LoadWide from to) ++ rest) ≡ instr.LoadWide from to
unfolding spelling_of two_bytes fits_rm
load_wide_back from to rest fit =
    operand_read _ L (is_high_xmm to) (low_bits_xmm to) (operand.Mem from) rest
    (λ w high field rm rest. instr.LoadWide (memory_of rm) (xmm_at high field)) refl refl (low_xmm_below to) fit (λ tail. refl)
    ∙ ap (instr.LoadWide from) (xmm_back to)

pub store_wide_back : (from : Xmm) (to : Mem) (rest : List ℕ) → fits_mem to ≡ true
    → reading (spelling_of (instr.StoreWide from to) ++ rest) ≡ instr.StoreWide from to
unfolding spelling_of two_bytes fits_rm
store_wide_back from to rest fit =
    operand_read _ L (is_high_xmm from) (low_bits_xmm from) (operand.Mem to) rest
    (λ w high field rm rest. instr.StoreWide (xmm_at high field) (memory_of rm)) refl refl (low_xmm_below from) fit (λ tail. refl)
    ∙ ap (λ xmm. instr.StoreWide xmm to) (xmm_back from)

pub load_tls_back : (to : Reg) (rest : List ℕ) → reading (spelling_of (instr.LoadTls to) ++ rest) ≡ instr.LoadTls to
unfolding spelling_of one_byte row_8 load
load_tls_back to rest =
    let low : low_bits to < 8 = low_below to in
    let middle : fields 0 (low_bits to) 4 / 8 % 8 ≡ low_bits to = omega arith in
    behind_head _ (fields 0 (low_bits to) 4 ∷ 0x25 ∷ 0xf8 ∷ 0xff ∷ 0xff ∷ 0xff ∷ []) rest refl ∙ rw (middle, reg_back to) refl
