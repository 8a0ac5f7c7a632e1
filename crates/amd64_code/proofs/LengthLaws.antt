-- A spelling has 1 to 15 bytes: at most five before ModRM, at most six of ModRM, SIB and displacement, and at most four of a
-- constant behind these, or ten behind a head alone.
use Rattle.std.specs.Prelude.{◌||◌, if◌then◌else◌}
use Rattle.std.specs.Int.{w32, to_le_bytes}
use Rattle.std.proofs.Common.{ℕ, ℤ, Bool, true, false, List, [], ◌∷◌, ◌++◌, ◌+◌, ◌≤◌, length, arith}
use Rattle.std.proofs.lemmas.List.{length-append}
use Rattle.machine_effect.specs.Numbers.{fits as fits_bits}
use Rattle.amd64_table.specs.declared.reg.Reg.{Reg}
use Rattle.amd64_table.specs.declared.memory.Rm.{Rm}
use Rattle.amd64_table.specs.declared.memory.Rm.TheVariants as operand
use Rattle.amd64_table.specs.declared.op.Plain.{Plain}
use Rattle.amd64_table.specs.declared.op.Plain.TheVariants as plain
use Rattle.amd64_table.specs.declared.instr.Instr.{Instr}
use Rattle.amd64_table.specs.declared.instr.Instr.TheVariants as instr
use Rattle.amd64_table.specs.Registers.{low_bits, is_high}
use Rattle.amd64_code.specs.declared.head.Legacy.{Legacy}
use Rattle.amd64_code.specs.declared.head.Legacy.TheVariants.{Absent}
use Rattle.amd64_code.specs.declared.head.Opcode.{Opcode}
use Rattle.amd64_code.specs.declared.head.Opcode.TheVariants.{One, Two}
use Rattle.amd64_code.specs.declared.head.Head.{Head}
use Rattle.amd64_code.specs.Heads.{head_bytes, lock_bytes, legacy_bytes, rex_bytes, rex_byte, opcode_bytes}
use Rattle.amd64_code.specs.ModRm.{rm_bytes}
use Rattle.amd64_code.specs.Constants.{byte_of, long_of, quad_of, short_of}
use Rattle.amd64_code.specs.Spelling.{spelling_of, load_quad_bytes, rex_of, rex_b, plain_head, plain_bytes}
use Rattle.amd64_code.proofs.ModRmLaws.{if_length, one_most, rm_most}

legacy_most : (legacy : Legacy) → length (legacy_bytes legacy) ≤ 1
legacy_most Absent = omega arith
legacy_most _ = omega arith

opcode_bounds : (opcode : Opcode) → (1 ≤ length (opcode_bytes opcode)) × (length (opcode_bytes opcode) ≤ 2)
opcode_bounds (One byte) = (omega arith, omega arith)
opcode_bounds (Two byte) = (omega arith, omega arith)

head_bounds : (head : Head) → (1 ≤ length (head_bytes head)) × (length (head_bytes head) ≤ 5)
unfolding head_bytes rex_bytes
head_bounds head =
    let stands : Bool = head.bare || head.rex.w || head.rex.r || head.rex.x || head.rex.b in
    let lock : length (lock_bytes head.lock) ≤ 1 = omega (arith, if_length head.lock 0xf0, one_most head.lock) in
    let rex : length (rex_bytes head.bare head.rex) ≤ 1 = omega (arith, if_length stands (rex_byte head.rex), one_most stands) in
    let legacy = legacy_most head.legacy in
    let opcode = opcode_bounds head.opcode in
    let first = length-append (lock_bytes head.lock) (legacy_bytes head.legacy) in
    let second = length-append (lock_bytes head.lock ++ legacy_bytes head.legacy) (rex_bytes head.bare head.rex) in
    let third =
    length-append (lock_bytes head.lock ++ legacy_bytes head.legacy ++ rex_bytes head.bare head.rex) (opcode_bytes head.opcode) in
    (omega (arith, first, second, third, opcode.0), omega (arith, lock, legacy, rex, first, second, third, opcode.1))

abbrev IsShort : List ℕ → Type 0
IsShort bytes = (1 ≤ length bytes) × (length bytes ≤ 15)

with_tail : (head : Head) (tail : List ℕ) → length tail ≤ 10 → IsShort (head_bytes head ++ tail)
with_tail head tail most =
    let bounds = head_bounds head in
    let sum = length-append (head_bytes head) tail in
    (omega (arith, sum, bounds.0), omega (arith, sum, bounds.1))

with_rm : (head : Head) (field : ℕ) (rm : Rm) → IsShort (head_bytes head ++ rm_bytes field rm)
with_rm head field rm = with_tail head (rm_bytes field rm) (omega (arith, rm_most field rm))

with_constant : (head : Head) (field : ℕ) (rm : Rm) (constant : List ℕ) → length constant ≤ 4
    → IsShort (head_bytes head ++ rm_bytes field rm ++ constant)
with_constant head field rm constant most =
    let bounds = head_bounds head in
    let inner = length-append (head_bytes head) (rm_bytes field rm) in
    let outer = length-append (head_bytes head ++ rm_bytes field rm) constant in
    (omega (arith, inner, outer, bounds.0), omega (arith, inner, outer, bounds.1, rm_most field rm))

alone : (head : Head) → IsShort (head_bytes head)
alone head = let bounds = head_bounds head in (bounds.0, omega (arith, bounds.1))

short_most : (constant : ℤ) → length (short_of constant) ≤ 4
unfolding short_of
short_most constant = by (fits_bits 8 constant)
  where
    by : (small : Bool) → length (if small then byte_of constant else long_of constant) ≤ 4
    by true = omega arith
    by false = omega arith

quad_short : (constant : ℤ) (to : Reg) → IsShort (load_quad_bytes constant to)
unfolding load_quad_bytes
quad_short constant to = by (fits_bits 32 constant)
  where
    by : (small : Bool) → IsShort (if small
        then head_bytes (plain_head (rex_of true false (operand.Reg to)) (One 0xc7)) ++ rm_bytes 0 (operand.Reg to) ++ long_of constant
        else head_bytes (plain_head (rex_b true (is_high to)) (One (0xb8 + low_bits to))) ++ quad_of constant)
    by true = with_constant _ 0 (operand.Reg to) (long_of constant) (omega arith)
    by false = with_tail _ (quad_of constant) (omega arith)

plain_short : (op : Plain) → IsShort (plain_bytes op)
unfolding plain_bytes
plain_short plain.Pause = (omega arith, omega arith)
plain_short _ = (omega arith, omega arith)

pub bounded : (i : Instr) → (1 ≤ length (spelling_of i)) × (length (spelling_of i) ≤ 15)
unfolding spelling_of
bounded (instr.RegRm op width reg rm) = with_rm _ _ rm
bounded (instr.MemReg op width mem reg) = with_rm _ _ (operand.Mem mem)
bounded (instr.StoreLow size from to) = with_rm _ _ (operand.Mem to)
bounded (instr.Extend op from to) = with_rm _ _ from
bounded (instr.LoadLong constant to) = with_tail _ (to_le_bytes w32 constant) (omega arith)
bounded (instr.LoadQuad constant to) = quad_short constant to
bounded (instr.StoreConst width constant to) = with_constant _ 0 (operand.Mem to) (long_of constant) (omega arith)
bounded (instr.StoreByte constant to) = with_constant _ 0 (operand.Mem to) (byte_of constant) (omega arith)
bounded (instr.Lea from to) = with_rm _ _ (operand.Mem from)
bounded (instr.MoveCc code width from to) = with_rm _ _ from
bounded (instr.LoadWide from to) = with_rm _ _ (operand.Mem from)
bounded (instr.StoreWide from to) = with_rm _ _ (operand.Mem to)
bounded (instr.LoadTls to) = with_tail _ _ (omega arith)
bounded (instr.ArithmeticReg op lock width from to) = with_rm _ _ to
bounded (instr.ArithmeticConst op lock width constant to) = with_constant _ _ to (short_of constant) (short_most constant)
bounded (instr.CompareConst width rm constant) = with_constant _ _ rm (short_of constant) (short_most constant)
bounded (instr.Unary op lock width rm) = with_rm _ _ rm
bounded (instr.MulDiv op width rm) = with_rm _ _ rm
bounded (instr.RmReg op width from to) = with_rm _ _ from
bounded (instr.ShiftConst op width count rm) = with_constant _ _ rm (count ∷ []) (omega arith)
bounded (instr.ShiftCx op width rm) = with_rm _ _ rm
bounded (instr.Exchange width reg mem) = with_rm _ _ (operand.Mem mem)
bounded (instr.Atomic op lock width reg mem) = with_rm _ _ (operand.Mem mem)
bounded (instr.SetCc code to) = with_rm _ _ to
bounded (instr.SwapBytes width reg) = alone _
bounded (instr.XorWide from to) = with_tail _ _ (omega arith)
bounded (instr.Stack op reg) = alone _
bounded (instr.Short code distance) = with_tail _ (byte_of distance) (omega arith)
bounded (instr.Near op distance) = with_tail _ (long_of distance) (omega arith)
bounded (instr.Indirect op rm) = with_rm _ _ rm
bounded (instr.Plain op) = plain_short op
