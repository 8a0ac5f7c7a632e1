use Rattle.std.proofs.Common.{◌≡◌, ℕ, zero, suc, ℤ, pos, negsuc, ◌-◌, ◌*◌, ◌%◌, ◌^◌, ◌<◌, ◌≤◌, ◌==◌, Bool, true, false, ◌&&◌, [], ◌∷◌, Option, Some, None, refl, ap, ◌∙◌, arith, rules, if◌then◌else◌, ◌-ℤ◌}
use Rattle.std.proofs.lemmas.Bool.{and_parts, ltb-true, lt-ltb, le-ltb}
use Rattle.std.proofs.lemmas.Int.{ints}
use Rattle.machine_effect.specs.declared.effect.Effect.{Effect}
use Rattle.machine_effect.specs.declared.effect.Access.{Access}
use Rattle.machine_effect.specs.declared.effect.Value.{Value}
use Rattle.machine_effect.specs.declared.effect.Atom.{Atom}
use Rattle.machine_effect.specs.declared.effect.Atom.TheVariants as atom
use Rattle.machine_effect.specs.declared.flag_rule.FlagRule.{FlagRule}
use Rattle.machine_effect.specs.declared.flag_rule.FlagRule.TheVariants as flag
use Rattle.machine_effect.specs.declared.flow.SpMove.{SpMove}
use Rattle.machine_effect.specs.declared.flow.SpMove.TheVariants.{Keep, By, Other}
use Rattle.machine_effect.specs.Numbers.{signed, unsigned, fits as fits_bits}
use Rattle.machine_effect.specs.FlagsAfter.{sets_all_five}
use Rattle.machine_effect.specs.Shapes.{amd64_shape, IsStackDistance}
use Rattle.machine_effect.specs.Flow.{constant_after, added_to, sp_move_of, move_by, flow_of}
use Rattle.amd64_table.specs.declared.condition.Cc.{Cc}
use Rattle.amd64_table.specs.declared.reg.Reg.{Reg}
use Rattle.amd64_table.specs.declared.reg.Reg.TheVariants.{Sp, Cx}
use Rattle.amd64_table.specs.declared.width.Width.{Width}
use Rattle.amd64_table.specs.declared.width.Width.TheVariants.{Q}
use Rattle.amd64_table.specs.declared.memory.Mem.{Mem}
use Rattle.amd64_table.specs.declared.memory.Rm.{Rm}
use Rattle.amd64_table.specs.declared.memory.Rm.TheVariants as operand
use Rattle.amd64_table.specs.declared.op.Arithmetic.{Arithmetic}
use Rattle.amd64_table.specs.declared.op.Arithmetic.TheVariants as arithmetic
use Rattle.amd64_table.specs.declared.op.RegRm.{RegRm}
use Rattle.amd64_table.specs.declared.op.RegRm.TheVariants as reg_rm
use Rattle.amd64_table.specs.declared.op.MemReg.{MemReg}
use Rattle.amd64_table.specs.declared.op.MemReg.TheVariants as mem_reg
use Rattle.amd64_table.specs.declared.op.StoreSize.{StoreSize}
use Rattle.amd64_table.specs.declared.op.StoreSize.TheVariants as size
use Rattle.amd64_table.specs.declared.op.Extend.{Extend}
use Rattle.amd64_table.specs.declared.op.Unary.{Unary}
use Rattle.amd64_table.specs.declared.op.Unary.TheVariants as unary
use Rattle.amd64_table.specs.declared.op.MulDiv.{MulDiv}
use Rattle.amd64_table.specs.declared.op.RmReg.{RmReg}
use Rattle.amd64_table.specs.declared.op.RmReg.TheVariants as rm_reg
use Rattle.amd64_table.specs.declared.op.ShiftOp.{ShiftOp}
use Rattle.amd64_table.specs.declared.op.Stack.{Stack}
use Rattle.amd64_table.specs.declared.op.Stack.TheVariants as stack
use Rattle.amd64_table.specs.declared.op.Atomic.{Atomic}
use Rattle.amd64_table.specs.declared.op.Atomic.TheVariants as atomic
use Rattle.amd64_table.specs.declared.op.Near.{Near}
use Rattle.amd64_table.specs.declared.op.Indirect.{Indirect}
use Rattle.amd64_table.specs.declared.op.Plain.{Plain}
use Rattle.amd64_table.specs.declared.instr.Instr.{Instr}
use Rattle.amd64_table.specs.declared.instr.Instr.TheVariants as instr
use Rattle.amd64_table.specs.Registers.{number_of}
use Rattle.amd64_table.specs.Fits.{fits, fits_lock, fits_rm}
use Rattle.amd64_table.specs.Operands.{bits_of, bytes_of, rm_atom, load_of, writes_of, store_of, access_of, reg_atom, signed_atom}
use Rattle.amd64_table.specs.Forms.{copy_of, computing, changing, setting, testing, reading, loading, storing, swapping}
use Rattle.amd64_table.specs.Moves.{tls_word, reg_rm_effect, mem_reg_effect, store_low_effect, extend_bytes, extended, extend_effect, store_const_effect, move_cc_effect, load_wide_effect, store_wide_effect, load_tls_effect}
use Rattle.amd64_table.specs.Computation.{result_of, flags_of, arithmetic_effect, compare_const_effect, unary_value, unary_flags, unary_effect, mul_div_effect, rm_reg_value, rm_reg_effect, shift_effect, exchange_effect, compare_exchange, exchange_add, atomic_effect, set_cc_effect, swap_bytes_effect, xor_wide_effect}
use Rattle.amd64_table.specs.Control.{stack_effect, short_effect, near_effect, indirect_effect, plain_effect}
use Rattle.amd64_table.specs.Effects.{effect_at}
use Rattle.amd64_table.specs.Flows.{written, written_rm, moved, moved_reg, moved_rm, reg_rm_move, mem_reg_move, stack_move, atomic_move, move_of}

-- a register is written with a value that isn't a sum or a difference of the stack pointer and a constant
one_written : (reg : Reg) (value : Value) (load : Option Access) (store : Option (Access × Value)) (flags : FlagRule)
    → added_to 4 value ≡ None
    → sp_move_of (computing ((number_of reg, value) ∷ []) load store flags) 4 ≡ written reg
unfolding number_of
one_written Sp value load store flags none = ap (move_by (computing ((4, value) ∷ []) load store flags) 4) none
one_written _ value load store flags none = refl

-- a register is written, and nothing else happens that moves a stack
still_written : (reg : Reg) (value : Value) (flags : FlagRule) → sets_all_five flags ≡ false
    → sp_move_of (computing ((number_of reg, value) ∷ []) None None flags) 4 ≡ written reg
unfolding number_of
still_written Sp value flags apart =
    let effect : Effect = computing ((4, value) ∷ []) None None flags in
    elim (added_to 4 value) as (λ distance. move_by effect 4 distance ≡ Other) [
      | None ↦ refl
      | Some d ↦ rw apart refl
    ]
still_written _ value flags apart = refl

reading_written : (bytes end : ℕ) (rm : Rm) (reg : Reg) (value : Value) (flags : FlagRule) → added_to 4 value ≡ None
    → sp_move_of (reading bytes end rm reg value flags) 4 ≡ written reg
unfolding reading
reading_written bytes end rm reg value flags none = one_written reg value (load_of bytes end rm) None flags none

loading_written : (reg : Reg) (value : Value) → sp_move_of (loading reg value) 4 ≡ written reg
unfolding loading
loading_written reg value = still_written reg value flag.Keep refl

testing_kept : (width : Width) (end : ℕ) (rm : Rm) (flags : FlagRule) → sp_move_of (testing width end rm flags) 4 ≡ Keep
unfolding testing
testing_kept width end rm flags = refl

storing_kept : (bytes end : ℕ) (mem : Mem) (value : Value) → sp_move_of (storing bytes end mem value) 4 ≡ Keep
unfolding storing
storing_kept bytes end mem value = refl

setting_written : (bytes end : ℕ) (rm : Rm) (value : Value) → sp_move_of (setting bytes end rm value) 4 ≡ written_rm rm
unfolding setting writes_of store_of
setting_written bytes end (operand.Reg reg) value = still_written reg value flag.Keep refl
setting_written bytes end (operand.Mem mem) value = refl

-- an operand becomes a value that isn't a sum or a difference of a register and a constant
changing_written : (width : Width) (end : ℕ) (rm : Rm) (value : Value) (flags : FlagRule) → added_to 4 value ≡ None
    → sp_move_of (changing width end rm value flags) 4 ≡ written_rm rm
unfolding changing writes_of load_of store_of
changing_written width end (operand.Reg reg) value flags none = one_written reg value None None flags none
changing_written width end (operand.Mem mem) value flags none = refl

changing_still : (width : Width) (end : ℕ) (rm : Rm) (value : Value) (flags : FlagRule) → sets_all_five flags ≡ false
    → sp_move_of (changing width end rm value flags) 4 ≡ written_rm rm
unfolding changing writes_of load_of store_of
changing_still width end (operand.Reg reg) value flags apart = still_written reg value flags apart
changing_still width end (operand.Mem mem) value flags apart = refl

none_either : (test : Bool) → (if test then (let none : Option ℕ = None in none) else None) ≡ None
none_either true = refl
none_either false = refl

-- the seven operations on two registers, or on a register and what is loaded
no_constant : (op : Arithmetic) (a b : Atom) (width : ℕ) → constant_after 4 a b ≡ None → constant_after 4 b a ≡ None
    → added_to 4 (result_of op a b width) ≡ None
unfolding result_of
no_constant arithmetic.Add a b width ab ba = rw (ab, ba) (none_either (width == 64))
no_constant arithmetic.Sub a b width ab ba = rw ab (none_either (width == 64))
no_constant _ a b width ab ba = none_either (width == 64)

operands_apart : (rm : Rm) (reg : Reg)
    → (constant_after 4 (rm_atom rm) (reg_atom reg) ≡ None) × (constant_after 4 (reg_atom reg) (rm_atom rm) ≡ None)
unfolding rm_atom
operands_apart (operand.Reg other) reg = (refl, refl)
operands_apart (operand.Mem mem) reg = (refl, refl)

signed_pos : (x n : ℕ) → x % 2 ^ 64 ≡ n → 2 * n < 2 ^ 64 → signed 64 x ≡ pos n
signed_pos x n is low = rw (is, lt-ltb (2 * n) (2 ^ 64) low) refl

signed_negative : (x n : ℕ) → x % 2 ^ 64 ≡ 2 ^ 64 - 1 - n → 2 * n < 2 ^ 64 → signed 64 x ≡ negsuc n
signed_negative x n is low =
    let high : 2 ^ 64 ≤ 2 * (2 ^ 64 - 1 - n) = omega arith in
    let back : 2 ^ 64 - 1 - (2 ^ 64 - 1 - n) ≡ n = omega arith in
    rw (is, le-ltb (2 * (2 ^ 64 - 1 - n)) (2 ^ 64) high, back) refl

-- a number of 32 bits with a sign comes back from 64 bits, also with the other sign
same_signed : (c : ℤ) → fits_bits 32 c ≡ true → signed 64 (unsigned 64 c) ≡ c
same_signed (pos n) near =
    let low : 2 * n < 2 ^ 32 = ltb-true (2 * n) (2 ^ 32) near in signed_pos (n % 2 ^ 64) n (omega arith) (omega arith)
same_signed (negsuc n) near =
    let low : 2 * n < 2 ^ 32 = ltb-true (2 * n) (2 ^ 32) near in
    signed_negative (2 ^ 64 - 1 - n % 2 ^ 64) n (omega arith) (omega arith)

opposite_signed : (c : ℤ) → fits_bits 32 c ≡ true
    → signed 64 ((2 ^ 64 - unsigned 64 c % 2 ^ 64) % 2 ^ 64) ≡ pos 0 -ℤ c
opposite_signed (pos zero) near = refl
opposite_signed (pos (suc n)) near =
    let low : 2 * suc n < 2 ^ 32 = ltb-true (2 * suc n) (2 ^ 32) near in
    let turned : negsuc n ≡ pos 0 -ℤ pos (suc n) = omega (arith, ints) in
    signed_negative ((2 ^ 64 - suc n % 2 ^ 64 % 2 ^ 64) % 2 ^ 64) n (omega arith) (omega arith) ∙ turned
opposite_signed (negsuc n) near =
    let low : 2 * n < 2 ^ 32 = ltb-true (2 * n) (2 ^ 32) near in
    let turned : pos (suc n) ≡ pos 0 -ℤ negsuc n = omega (arith, ints) in
    signed_pos ((2 ^ 64 - (2 ^ 64 - 1 - n % 2 ^ 64) % 2 ^ 64) % 2 ^ 64) (suc n) (omega arith) (omega arith) ∙ turned

-- ADD or another operation of a constant on the stack pointer
sp_const : (op : Arithmetic) (width : Width) (c : ℤ) → fits_bits 32 c ≡ true
    → sp_move_of (computing ((4, result_of op (atom.Reg 4) (signed_atom c) (bits_of width)) ∷ []) None None
    (flags_of op (atom.Reg 4) (signed_atom c) (bits_of width))) 4 ≡ moved op width c
unfolding result_of flags_of bits_of
sp_const arithmetic.Add Q c near = ap By (same_signed c near)
sp_const arithmetic.Sub Q c near = ap By (opposite_signed c near)
sp_const op width c near = search rules

reg_const : (op : Arithmetic) (width : Width) (c : ℤ) (reg : Reg) → fits_bits 32 c ≡ true
    → sp_move_of (computing ((number_of reg, result_of op (reg_atom reg) (signed_atom c) (bits_of width)) ∷ []) None None
    (flags_of op (reg_atom reg) (signed_atom c) (bits_of width))) 4 ≡ moved_reg op width c reg
unfolding number_of
reg_const op width c Sp near = sp_const op width c near
reg_const op width c _ near = refl

const_moves : (op : Arithmetic) (width : Width) (c : ℤ) (to : Rm) (end : ℕ) → fits_bits 32 c ≡ true
    → sp_move_of (arithmetic_effect op width (signed_atom c) to end) 4 ≡ moved_rm op width c to
unfolding arithmetic_effect changing writes_of load_of store_of rm_atom
const_moves op width c (operand.Reg reg) end near = reg_const op width c reg near
const_moves op width c (operand.Mem mem) end near = refl

reg_moves : (op : Arithmetic) (width : Width) (from : Reg) (to : Rm) (end : ℕ)
    → sp_move_of (arithmetic_effect op width (reg_atom from) to end) 4 ≡ written_rm to
unfolding arithmetic_effect
reg_moves op width from to end =
    let apart = operands_apart to from in
    changing_written width end to _ _ (no_constant op (rm_atom to) (reg_atom from) (bits_of width) apart.0 apart.1)

reg_rm_moves : (op : RegRm) (width : Width) (reg : Reg) (rm : Rm) (end : ℕ)
    → sp_move_of (reg_rm_effect op width reg rm end) 4 ≡ reg_rm_move op rm
unfolding reg_rm_effect
reg_rm_moves reg_rm.Mov width reg rm end = setting_written (bytes_of width) end rm _
reg_rm_moves reg_rm.Cmp width reg rm end = testing_kept width end rm _
reg_rm_moves reg_rm.Test width reg rm end = testing_kept width end rm _

mem_reg_moves : (op : MemReg) (width : Width) (mem : Mem) (reg : Reg) (end : ℕ)
    → sp_move_of (mem_reg_effect op width mem reg end) 4 ≡ mem_reg_move op reg
unfolding mem_reg_effect
mem_reg_moves mem_reg.Mov width mem reg end =
    reading_written (bytes_of width) end (operand.Mem mem) reg _ _ (none_either (bits_of width == 64))
mem_reg_moves mem_reg.Cmp width mem reg end = testing_kept width end (operand.Mem mem) _
mem_reg_moves (mem_reg.Arithmetic op) width mem reg end =
    reading_written (bytes_of width) end (operand.Mem mem) reg _ _
    (no_constant op (reg_atom reg) atom.Loaded (bits_of width) refl refl)

extended_free : (op : Extend) (a : Atom) → added_to 4 (extended op a) ≡ None
unfolding extended
extended_free op a = search rules

unary_moves : (op : Unary) (width : Width) (rm : Rm) (end : ℕ) → sp_move_of (unary_effect op width rm end) 4 ≡ written_rm rm
unfolding unary_effect unary_value unary_flags
unary_moves unary.Inc width rm end = changing_still width end rm _ _ refl
unary_moves unary.Dec width rm end = changing_still width end rm _ _ refl
unary_moves unary.Not width rm end = changing_still width end rm _ _ refl
unary_moves unary.Neg width rm end = changing_written width end rm _ _ (none_either (bits_of width == 64))

rm_reg_free : (op : RmReg) (from to : Atom) (width : ℕ) → added_to 4 (rm_reg_value op from to width) ≡ None
unfolding rm_reg_value
rm_reg_free rm_reg.Imul from to width = none_either (width == 64)
rm_reg_free _ from to width = none_either (width == 64)

shift_moves : (op : ShiftOp) (width : Width) (count : Atom) (rm : Rm) (end : ℕ)
    → sp_move_of (shift_effect op width count rm end) 4 ≡ written_rm rm
unfolding shift_effect
shift_moves op width count rm end = changing_written width end rm _ _ (none_either (bits_of width == 64))

stack_moves : (op : Stack) (reg : Reg) → sp_move_of (stack_effect op reg) 4 ≡ stack_move op reg
unfolding stack_effect number_of
stack_moves stack.Push reg = refl
stack_moves stack.Pop Sp = refl
stack_moves stack.Pop _ = refl

-- a register is swapped with memory
swapping_written : (width : Width) (end : ℕ) (mem : Mem) (reg : Reg) (value stored : Value) (flags : FlagRule)
    → added_to 4 value ≡ None → sp_move_of (swapping width end mem (number_of reg, value) stored flags) 4 ≡ written reg
unfolding swapping
swapping_written width end mem reg value stored flags none =
    one_written reg value (Some (access_of (bytes_of width) end mem)) (Some (access_of (bytes_of width) end mem, stored)) flags none

exchange_moves : (width : Width) (reg : Reg) (mem : Mem) (end : ℕ)
    → sp_move_of (exchange_effect width reg mem end) 4 ≡ written reg
unfolding exchange_effect
exchange_moves width reg mem end = swapping_written width end mem reg _ _ _ (none_either (bits_of width == 64))

compare_exchange_kept : (width : Width) (reg : Reg) (mem : Mem) (end : ℕ)
    → sp_move_of (compare_exchange width reg mem end) 4 ≡ Keep
unfolding swapping number_of
compare_exchange_kept width reg mem end = refl

exchange_add_moves : (width : Width) (reg : Reg) (mem : Mem) (end : ℕ)
    → sp_move_of (exchange_add width reg mem end) 4 ≡ written reg
exchange_add_moves width reg mem end = swapping_written width end mem reg _ _ _ (none_either (bits_of width == 64))

atomic_moves : (op : Atomic) (width : Width) (reg : Reg) (mem : Mem) (end : ℕ)
    → sp_move_of (atomic_effect op width reg mem end) 4 ≡ atomic_move op reg
unfolding atomic_effect
atomic_moves atomic.CompareExchange width reg mem end = compare_exchange_kept width reg mem end
atomic_moves atomic.ExchangeAdd width reg mem end = exchange_add_moves width reg mem end

set_cc_moves : (code : Cc) (to : Rm) (end : ℕ) → sp_move_of (set_cc_effect code to end) 4 ≡ written_rm to
unfolding set_cc_effect
set_cc_moves code (operand.Reg reg) end = loading_written reg _
set_cc_moves code (operand.Mem mem) end = storing_kept 1 end mem _

store_low_kept : (size : StoreSize) (from : Reg) (to : Mem) (end : ℕ) → sp_move_of (store_low_effect size from to end) 4 ≡ Keep
unfolding store_low_effect
store_low_kept size.Byte from to end = storing_kept 1 end to _
store_low_kept size.Word from to end = storing_kept 2 end to _

short_kept : (code : Option Cc) (distance : ℤ) (end : ℕ) → sp_move_of (short_effect code distance end) 4 ≡ Keep
unfolding short_effect
short_kept code distance end = search rules

near_kept : (op : Near) (distance : ℤ) (end : ℕ) → sp_move_of (near_effect op distance end) 4 ≡ Keep
unfolding near_effect
near_kept op distance end = search rules

indirect_kept : (op : Indirect) (rm : Rm) (end : ℕ) → sp_move_of (indirect_effect op rm end) 4 ≡ Keep
unfolding indirect_effect
indirect_kept op rm end = search rules

plain_kept : (op : Plain) → sp_move_of (plain_effect op) 4 ≡ Keep
unfolding plain_effect loading number_of
plain_kept op = search rules

mul_div_kept : (op : MulDiv) (width : Width) (rm : Rm) (end : ℕ) → sp_move_of (mul_div_effect op width rm end) 4 ≡ Keep
unfolding mul_div_effect number_of
mul_div_kept op width rm end = refl

-- what each instruction does to the stack pointer
moves : (i : Instr) (end : ℕ) → fits i ≡ true → sp_move_of (effect_at i end) 4 ≡ move_of i
unfolding effect_at move_of fits extend_effect store_const_effect compare_const_effect rm_reg_effect move_cc_effect swap_bytes_effect load_wide_effect store_wide_effect xor_wide_effect load_tls_effect
moves (instr.RegRm op width reg rm) end listed = reg_rm_moves op width reg rm end
moves (instr.ArithmeticReg op lock width from to) end listed = reg_moves op width from to end
moves (instr.MemReg op width mem reg) end listed = mem_reg_moves op width mem reg end
moves (instr.ArithmeticConst op lock width constant to) end listed =
    const_moves op width constant to end (and_parts (fits_lock lock to && fits_rm to) (fits_bits 32 constant) listed).1
moves (instr.CompareConst width rm constant) end listed = testing_kept width end rm _
moves (instr.StoreLow size from to) end listed = store_low_kept size from to end
moves (instr.Extend op from to) end listed =
    reading_written (extend_bytes op) end from to _ _ (extended_free op (rm_atom from))
moves (instr.LoadLong constant to) end listed = loading_written to _
moves (instr.LoadQuad constant to) end listed = loading_written to _
moves (instr.StoreConst width constant to) end listed = storing_kept (bytes_of width) end to _
moves (instr.StoreByte constant to) end listed = storing_kept 1 end to _
moves (instr.Lea from to) end listed = loading_written to _
moves (instr.Unary op lock width rm) end listed = unary_moves op width rm end
moves (instr.MulDiv op width rm) end listed = mul_div_kept op width rm end
moves (instr.RmReg op width from to) end listed =
    reading_written (bytes_of width) end from to _ _ (rm_reg_free op (rm_atom from) (reg_atom to) (bits_of width))
moves (instr.ShiftConst op width count rm) end listed = shift_moves op width (atom.Const count) rm end
moves (instr.ShiftCx op width rm) end listed = shift_moves op width (reg_atom Cx) rm end
moves (instr.Stack op reg) end listed = stack_moves op reg
moves (instr.Exchange width reg mem) end listed = exchange_moves width reg mem end
moves (instr.Atomic op lock width reg mem) end listed = atomic_moves op width reg mem end
moves (instr.SetCc code to) end listed = set_cc_moves code to end
moves (instr.MoveCc code width from to) end listed =
    reading_written (bytes_of width) end from to _ _ (none_either (bits_of width == 64))
moves (instr.SwapBytes width reg) end listed = loading_written reg _
moves (instr.Short code distance) end listed = short_kept code distance end
moves (instr.Near op distance) end listed = near_kept op distance end
moves (instr.Indirect op rm) end listed = indirect_kept op rm end
moves (instr.LoadWide from to) end listed = refl
moves (instr.StoreWide from to) end listed = storing_kept 16 end to _
moves (instr.XorWide from to) end listed = refl
moves (instr.LoadTls to) end listed = one_written to (copy_of atom.Loaded 64) (Some tls_word) None flag.Keep refl
moves (instr.Plain op) end listed = plain_kept op

pub flow_moves : (i : Instr) (end : ℕ) → fits i ≡ true → (flow_of (effect_at i end) amd64_shape).sp ≡ move_of i
unfolding flow_of
flow_moves i end listed = moves i end listed

-- a move that is a constant is small
IsNear : SpMove → Type 0
IsNear Keep = Unit {0}
IsNear (By k) = IsStackDistance k
IsNear Other = Unit {0}

-- a number of 32 bits with a sign, and its opposite
number_near : (c : ℤ) → fits_bits 32 c ≡ true → IsStackDistance c
number_near (pos n) near = let low : 2 * n < 2 ^ 32 = ltb-true (2 * n) (2 ^ 32) near in record { least = omega (arith, ints); most = omega (arith, ints) }
number_near (negsuc n) near = let low : 2 * n < 2 ^ 32 = ltb-true (2 * n) (2 ^ 32) near in record { least = omega (arith, ints); most = omega (arith, ints) }

opposite_near : (c : ℤ) → fits_bits 32 c ≡ true → IsStackDistance (pos 0 -ℤ c)
opposite_near (pos n) near = let low : 2 * n < 2 ^ 32 = ltb-true (2 * n) (2 ^ 32) near in record { least = omega (arith, ints); most = omega (arith, ints) }
opposite_near (negsuc n) near = let low : 2 * n < 2 ^ 32 = ltb-true (2 * n) (2 ^ 32) near in record { least = omega (arith, ints); most = omega (arith, ints) }

moved_near : (op : Arithmetic) (width : Width) (c : ℤ) → fits_bits 32 c ≡ true → IsNear (moved op width c)
unfolding IsNear
moved_near arithmetic.Add Q c near = number_near c near
moved_near arithmetic.Sub Q c near = opposite_near c near
moved_near _ _ c near = tt

moved_reg_near : (op : Arithmetic) (width : Width) (c : ℤ) (reg : Reg) → fits_bits 32 c ≡ true → IsNear (moved_reg op width c reg)
unfolding IsNear
moved_reg_near op width c Sp near = moved_near op width c near
moved_reg_near op width c _ near = tt

moved_rm_near : (op : Arithmetic) (width : Width) (c : ℤ) (rm : Rm) → fits_bits 32 c ≡ true → IsNear (moved_rm op width c rm)
unfolding IsNear
moved_rm_near op width c (operand.Reg reg) near = moved_reg_near op width c reg near
moved_rm_near op width c (operand.Mem mem) near = tt

stack_near : (op : Stack) (reg : Reg) → IsNear (stack_move op reg)
unfolding IsNear
stack_near stack.Push reg = record { least = omega (arith, ints); most = omega (arith, ints) }
stack_near stack.Pop Sp = tt
stack_near stack.Pop _ = record { least = omega (arith, ints); most = omega (arith, ints) }

move_near : (i : Instr) → fits i ≡ true → IsNear (move_of i)
unfolding move_of fits IsNear
move_near (instr.ArithmeticConst op lock width constant to) listed =
    moved_rm_near op width constant to (and_parts (fits_lock lock to && fits_rm to) (fits_bits 32 constant) listed).1
move_near (instr.Stack op reg) listed = stack_near op reg
move_near i listed = search rules

-- each constant by which an instruction moves the stack pointer lies between -2^31 and 2^31
pub moves_near : (i : Instr) → fits i ≡ true → (k : ℤ) → move_of i ≡ By k → IsStackDistance k
unfolding IsNear
moves_near i listed k is = rw is at (move_near i listed)
