use Rattle.std.proofs.Common.{◌≡◌, ◌⊎◌, ℕ, zero, suc, ℤ, pos, negsuc, ◌+◌, ◌-◌, ◌*◌, ◌/◌, ◌%◌, ◌^◌, ◌<◌, ◌≤◌, ◌==◌, Bool, true, false, [], ◌∷◌, All, Option, Some, None, refl, sym, ap, ◌∙◌, inl, inr, arith, add-zero, lit<, if◌then◌else◌}
use Rattle.std.proofs.lemmas.Bool.{and_parts, ltb-true, false≢true}
use Rattle.std.proofs.lemmas.List.Elements.{All-nil, All-cons}
use Rattle.std.proofs.lemmas.Nat.{mod_below, pow_pos, pow-add, shl-shr, shr_below, shr_le, mod-pow-add, mod-mul-add, mul-add-lt, mul-lt, div_below, and_le_l, or_of_32, xor_of_32, trailing_le}
use lib.Count.{ones_in}
use Rattle.machine_effect.specs.declared.state.State.{State}
use Rattle.machine_effect.specs.declared.effect.Value.{Value}
use Rattle.machine_effect.specs.declared.effect.Atom.{Atom}
use Rattle.machine_effect.specs.declared.effect.Atom.TheVariants as atom
use Rattle.machine_effect.specs.declared.op.Op.TheVariants as op
use Rattle.machine_effect.specs.Numbers.{unsigned}
use Rattle.machine_effect.specs.Memory.{number_of, bytes_of}
use Rattle.machine_effect.specs.Operations.{Outcome, IsOutcome, exactly_if, double, reversed_bytes, operate}
use Rattle.machine_effect.specs.Values.{atom_of, holds_by, holds, equal, reg_of, Gives}
use Rattle.amd64_table.specs.declared.reg.Reg.TheVariants.{Ax, Dx}
use Rattle.amd64_table.specs.declared.width.Width.{Width}
use Rattle.amd64_table.specs.declared.width.Width.TheVariants.{L}
use Rattle.amd64_table.specs.declared.memory.Rm.{Rm}
use Rattle.amd64_table.specs.declared.memory.Rm.TheVariants as rms
use Rattle.amd64_table.specs.declared.op.Arithmetic.{Arithmetic}
use Rattle.amd64_table.specs.declared.op.Arithmetic.TheVariants as arithmetic
use Rattle.amd64_table.specs.declared.op.RegRm.TheVariants as reg_rm
use Rattle.amd64_table.specs.declared.op.MemReg.TheVariants as mem_reg
use Rattle.amd64_table.specs.declared.op.Unary.{Unary}
use Rattle.amd64_table.specs.declared.op.Unary.TheVariants as unary
use Rattle.amd64_table.specs.declared.op.MulDiv.{MulDiv}
use Rattle.amd64_table.specs.declared.op.MulDiv.TheVariants as mul_div
use Rattle.amd64_table.specs.declared.op.RmReg.TheVariants as rm_reg
use Rattle.amd64_table.specs.declared.op.ShiftOp.{ShiftOp}
use Rattle.amd64_table.specs.declared.op.ShiftOp.TheVariants as shifts
use Rattle.amd64_table.specs.declared.op.Atomic.TheVariants as atomic
use Rattle.amd64_table.specs.declared.op.Near.TheVariants as near
use Rattle.amd64_table.specs.declared.op.Indirect.TheVariants as indirect
use Rattle.amd64_table.specs.declared.instr.Instr.{Instr}
use Rattle.amd64_table.specs.declared.instr.Instr.TheVariants as instr
use Rattle.amd64_table.specs.Registers as registers
use Rattle.amd64_table.specs.Conditions.{cond_of}
use Rattle.amd64_table.specs.Operands.{bits_of, reg_atom, signed_atom, rm_atom, writes_of}
use Rattle.amd64_table.specs.Forms.{changing, setting, testing, reading, loading, storing, swapping}
use Rattle.amd64_table.specs.Moves.{reg_rm_effect, mem_reg_effect, store_const_effect, move_cc_effect}
use Rattle.amd64_table.specs.Computation.{result_of, arithmetic_effect, compare_const_effect, unary_value, unary_effect, ax_value, dx_value, mul_div_effect, rm_reg_value, rm_reg_effect, shift_of, shift_effect, exchange_effect, atomic_effect, swap_bytes_effect}
use Rattle.amd64_table.specs.Effects.{effect_at}
use Rattle.amd64_table.specs.Mnemonics.{mnemonic_of, width_of}
use Rattle.amd64_table.specs.StepLaws.{EndsWrite, ClearsUpper}

-- a number modulo 2^32
cut : (y : ℕ) → y % 2 ^ 32 < 2 ^ 32
cut y = mod_below y (2 ^ 32) (pow_pos 32)

low_of : (x y : ℕ) → x ≡ y → y < 2 ^ 32 → x < 2 ^ 32
low_of x y is low = rw is low

rotated : (a c : ℕ) → c < 32 → a * 2 ^ c % 2 ^ 32 + a % 2 ^ 32 / 2 ^ (32 - c) < 2 ^ 32
rotated a c low =
    let d : ℕ = 32 - c in
    let whole : d + c ≡ 32 = omega arith in
    let turned : c + d ≡ 32 = omega arith in
    let back : a * 2 ^ c / 2 ^ c ≡ a = shl-shr a c in
    let none : a * 2 ^ c % 2 ^ c ≡ 0 = ap (λ n. n % 2 ^ c) (sym (add-zero (a * 2 ^ c))) ∙ mod-mul-add a (2 ^ c) 0 (pow_pos c) in
    let parts : a * 2 ^ c % 2 ^ (d + c) ≡ a % 2 ^ d * 2 ^ c = rw (mod-pow-add (a * 2 ^ c) d c, back, none) (add-zero (a % 2 ^ d * 2 ^ c)) in
    let high : a * 2 ^ c % 2 ^ 32 ≡ a % 2 ^ d * 2 ^ c = rw whole at parts in
    let short : a % 2 ^ 32 < 2 ^ (c + d) = rw turned (cut a) in
    let rest : a % 2 ^ 32 / 2 ^ d < 2 ^ c = shr_below (a % 2 ^ 32) c d short in
    let sum : a % 2 ^ d * 2 ^ c + a % 2 ^ 32 / 2 ^ d < 2 ^ c * 2 ^ d = mul-add-lt (a % 2 ^ d) (2 ^ c) (a % 2 ^ 32 / 2 ^ d) (2 ^ d) (mod_below a (2 ^ d) (pow_pos d)) rest in
    let top : 2 ^ c * 2 ^ d ≡ 2 ^ 32 = sym (pow-add 2 c d) ∙ ap (λ n. 2 ^ n) turned in
    rw high (rw top at sum)

ones_in_le : (k n : ℕ) → ones_in k n ≤ k
unfolding ones_in
ones_in_le zero n = omega arith
ones_in_le (suc k) n = let rest = ones_in_le k (n / 2) in omega arith

signed_low : (z : ℤ) → unsigned 32 z < 2 ^ 32
signed_low (pos n) = cut n
signed_low (negsuc n) = omega arith

divided_low : (can : Bool) (v x : ℕ) → IsOutcome (exactly_if can v) x → (can ≡ true → v < 2 ^ 32) → x < 2 ^ 32
divided_low true v x is low = rw is (low refl)
divided_low false v x is low = absurd is

chosen_low : (test : Bool) (a b x : ℕ) → x ≡ (if test then a else b) → a < 2 ^ 32 → b < 2 ^ 32 → x < 2 ^ 32
chosen_low true a b x is p q = rw is p
chosen_low false a b x is p q = rw is q

scanned_low : (none : Bool) (found x : ℕ) → IsOutcome (if none then Outcome.AnyOfBits 64 else Outcome.Exactly found) x → found < 2 ^ 32
    → (none ≡ true) ⊎ (x < 2 ^ 32)
scanned_low true found x is low = inl refl
scanned_low false found x is low = inr (rw is low)

results_low : (state : State) (loaded : ℕ) (op : Arithmetic) (a b : Atom) (x : ℕ) → Gives state loaded (result_of op a b 32) x → x < 2 ^ 32
unfolding result_of operate
results_low state loaded arithmetic.Add a b x is = rw is (cut _)
results_low state loaded arithmetic.Or a b x is = rw is (or_of_32 _ _ (cut _) (cut _))
results_low state loaded arithmetic.Adc a b x is = rw is (cut _)
results_low state loaded arithmetic.Sbb a b x is = rw is (cut _)
results_low state loaded arithmetic.And a b x is =
    let y = atom_of state loaded a % 2 ^ 32 in let z = atom_of state loaded b % 2 ^ 32 in
    let less = and_le_l y z in let low : y < 2 ^ 32 = cut (atom_of state loaded a) in rw is (omega arith)
results_low state loaded arithmetic.Sub a b x is = rw is (cut _)
results_low state loaded arithmetic.Xor a b x is = rw is (xor_of_32 _ _ (cut _) (cut _))

unary_low : (state : State) (loaded : ℕ) (op : Unary) (a : Atom) (x : ℕ) → Gives state loaded (unary_value op a 32) x → x < 2 ^ 32
unfolding unary_value operate
unary_low state loaded unary.Inc a x is = rw is (cut _)
unary_low state loaded unary.Dec a x is = rw is (cut _)
unary_low state loaded unary.Not a x is =
    rw is (xor_of_32 (atom_of state loaded a % 2 ^ 32) (0xffff_ffff_ffff_ffff % 2 ^ 32) (cut (atom_of state loaded a)) (lit< tt))
unary_low state loaded unary.Neg a x is = rw is (cut _)

shift_low : (state : State) (loaded : ℕ) (kind : ShiftOp) (a count : Atom) (x : ℕ)
    → Gives state loaded (record { op = op.Shift (shift_of kind); a = a; b = count; c = atom.Const 0; width = 32 }) x → x < 2 ^ 32
unfolding shift_of operate
shift_low state loaded shifts.Shl a count x is = rw is (cut _)
shift_low state loaded shifts.Shr a count x is =
    let y = atom_of state loaded a % 2 ^ 32 in
    let less = shr_le y (atom_of state loaded count % 32) in
    let low : y < 2 ^ 32 = cut (atom_of state loaded a) in rw is (omega arith)
shift_low state loaded shifts.Sar a count x is = rw is (signed_low _)
shift_low state loaded shifts.Rol a count x is =
    rw is (rotated (atom_of state loaded a) (atom_of state loaded count % 32) (mod_below (atom_of state loaded count) 32 (lit< tt)))

-- the product's lower and upper half, and the quotient and the remainder
ax_low : (state : State) (loaded : ℕ) (op : MulDiv) (a : Atom) (x : ℕ) → Gives state loaded (ax_value op a 32) x → x < 2 ^ 32
unfolding ax_value operate
ax_low state loaded mul_div.Mul a x is = rw is (cut _)
ax_low state loaded mul_div.Div a x is = divided_low _ _ x is (λ can. ltb-true _ _ (and_parts _ _ can).1)
ax_low state loaded mul_div.Idiv a x is = divided_low _ _ x is (λ can. signed_low _)

dx_low : (state : State) (loaded : ℕ) (op : MulDiv) (a : Atom) (x : ℕ) → Gives state loaded (dx_value op a 32) x → x < 2 ^ 32
unfolding dx_value operate
dx_low state loaded mul_div.Mul a x is =
    let y = atom_of state loaded (reg_atom Ax) in let z = atom_of state loaded a in
    rw is (div_below (y % 2 ^ 32 * (z % 2 ^ 32)) (2 ^ 32) (2 ^ 32) (pow_pos 32) (mul-lt (y % 2 ^ 32) (z % 2 ^ 32) (2 ^ 32) (2 ^ 32) (cut y) (cut z)))
dx_low state loaded mul_div.Div a x is =
    divided_low _ _ x is (λ can.
    let c = atom_of state loaded a % 2 ^ 32 in
    let some : 0 < c = ltb-true _ _ (and_parts _ _ can).0 in
    let below = mod_below (double 32 (atom_of state loaded (reg_atom Ax)) (atom_of state loaded (reg_atom Dx))) c some in
    let low : c < 2 ^ 32 = cut (atom_of state loaded a) in omega (arith, below))
dx_low state loaded mul_div.Idiv a x is = divided_low _ _ x is (λ can. signed_low _)

-- what CMPXCHGL makes of AX
exchanged : (same : Bool) (ax loaded x : ℕ) → x ≡ (if same then ax % 2 ^ 64 else loaded % 2 ^ 64) → loaded < 2 ^ 32
    → (same ≡ true) ⊎ (x < 2 ^ 32)
exchanged true ax loaded x is low = inl refl
exchanged false ax loaded x is low = inr (omega arith)

swapped_low : (a x : ℕ) → x ≡ reversed_bytes 32 a → x < 2 ^ 32
unfolding number_of bytes_of
swapped_low a x is = rw is (omega arith)

-- one write, and the write of an operand
sole : (state : State) (loaded : ℕ) (i : Instr) (r : ℕ) (value : Value) → EndsWrite state loaded i (r, value)
    → All (EndsWrite state loaded i) ((r, value) ∷ [])
sole state loaded i r value ends =
    All-cons (EndsWrite state loaded i) (r, value) [] ends (All-nil (EndsWrite state loaded i))

in_rm : (state : State) (loaded : ℕ) (i : Instr) (rm : Rm) (value : Value) → ((r : ℕ) → EndsWrite state loaded i (r, value))
    → All (EndsWrite state loaded i) (writes_of rm value)
unfolding writes_of
in_rm state loaded i (rms.Reg reg) value ends = sole state loaded i (registers.number_of reg) value (ends (registers.number_of reg))
in_rm state loaded i (rms.Mem mem) value ends = All-nil (EndsWrite state loaded i)

is_long : Option Width → Bool
is_long (Some L) = true
is_long _ = false

-- each write of 32 bits clears the upper half
pub clears : (i : Instr) → ClearsUpper i
unfolding effect_at mnemonic_of width_of bits_of changing setting testing reading loading storing swapping reg_rm_effect mem_reg_effect store_const_effect move_cc_effect arithmetic_effect compare_const_effect unary_effect mul_div_effect rm_reg_value rm_reg_effect shift_effect exchange_effect atomic_effect swap_bytes_effect operate holds_by is_long registers.number_of
clears (instr.RegRm reg_rm.Mov L reg rm) end loaded state low is = in_rm state loaded (instr.RegRm reg_rm.Mov L reg rm) rm _ (λ r x gives. low_of x _ gives (cut _))
clears (instr.RegRm reg_rm.Cmp L reg rm) end loaded state low is = All-nil (EndsWrite state loaded (instr.RegRm reg_rm.Cmp L reg rm))
clears (instr.RegRm reg_rm.Test L reg rm) end loaded state low is = All-nil (EndsWrite state loaded (instr.RegRm reg_rm.Test L reg rm))
clears (instr.ArithmeticReg op lock L from to) end loaded state low is =
    in_rm state loaded (instr.ArithmeticReg op lock L from to) to _ (λ r x gives. results_low state loaded op (rm_atom to) (reg_atom from) x gives)
clears (instr.MemReg mem_reg.Mov L mem reg) end loaded state low is = sole state loaded (instr.MemReg mem_reg.Mov L mem reg) _ _ (λ x gives. low_of x _ gives (cut _))
clears (instr.MemReg mem_reg.Cmp L mem reg) end loaded state low is = All-nil (EndsWrite state loaded (instr.MemReg mem_reg.Cmp L mem reg))
clears (instr.MemReg (mem_reg.Arithmetic op) L mem reg) end loaded state low is =
    sole state loaded (instr.MemReg (mem_reg.Arithmetic op) L mem reg) _ _ (λ x gives. results_low state loaded op (reg_atom reg) atom.Loaded x gives)
clears (instr.ArithmeticConst op lock L constant to) end loaded state low is =
    in_rm state loaded (instr.ArithmeticConst op lock L constant to) to _ (λ r x gives. results_low state loaded op (rm_atom to) (signed_atom constant) x gives)
clears (instr.CompareConst L rm constant) end loaded state low is = All-nil (EndsWrite state loaded (instr.CompareConst L rm constant))
clears (instr.LoadLong constant to) end loaded state low is = sole state loaded (instr.LoadLong constant to) _ _ (λ x gives. low_of x _ gives (cut _))
clears (instr.StoreConst L constant to) end loaded state low is = All-nil (EndsWrite state loaded (instr.StoreConst L constant to))
clears (instr.Unary op lock L rm) end loaded state low is =
    in_rm state loaded (instr.Unary op lock L rm) rm _ (λ r x gives. unary_low state loaded op (rm_atom rm) x gives)
clears (instr.MulDiv op L rm) end loaded state low is =
    All-cons (EndsWrite state loaded (instr.MulDiv op L rm)) (0, ax_value op (rm_atom rm) 32) ((2, dx_value op (rm_atom rm) 32) ∷ [])
    (λ x gives. ax_low state loaded op (rm_atom rm) x gives)
    (sole state loaded (instr.MulDiv op L rm) 2 (dx_value op (rm_atom rm) 32) (λ x gives. dx_low state loaded op (rm_atom rm) x gives))
clears (instr.RmReg rm_reg.Imul L from to) end loaded state low is = sole state loaded (instr.RmReg rm_reg.Imul L from to) _ _ (λ x gives. low_of x _ gives (cut _))
clears (instr.RmReg rm_reg.Bsf L from to) end loaded state low is =
    sole state loaded (instr.RmReg rm_reg.Bsf L from to) _ _ (λ x gives.
    let y = atom_of state loaded (rm_atom from) % 2 ^ 32 in
    let most = trailing_le 32 y in scanned_low (y == 0) _ x gives (omega arith))
clears (instr.RmReg rm_reg.Bsr L from to) end loaded state low is =
    sole state loaded (instr.RmReg rm_reg.Bsr L from to) _ _ (λ x gives. scanned_low (atom_of state loaded (rm_atom from) % 2 ^ 32 == 0) _ x gives (omega arith))
clears (instr.RmReg rm_reg.Popcnt L from to) end loaded state low is =
    sole state loaded (instr.RmReg rm_reg.Popcnt L from to) _ _ (λ x gives. let most = ones_in_le 32 (atom_of state loaded (rm_atom from)) in low_of x _ gives (omega arith))
clears (instr.ShiftConst op L count rm) end loaded state low is =
    in_rm state loaded (instr.ShiftConst op L count rm) rm _ (λ r x gives. shift_low state loaded op (rm_atom rm) (atom.Const count) x gives)
clears (instr.ShiftCx op L rm) end loaded state low is =
    in_rm state loaded (instr.ShiftCx op L rm) rm _ (λ r x gives. shift_low state loaded op (rm_atom rm) (atom.Reg 1) x gives)
clears (instr.Exchange L reg mem) end loaded state low is = sole state loaded (instr.Exchange L reg mem) _ _ (λ x gives. low_of x _ gives (cut _))
clears (instr.Atomic atomic.CompareExchange lock L reg mem) end loaded state low is =
    sole state loaded (instr.Atomic atomic.CompareExchange lock L reg mem) _ _ (λ x gives. exchanged (equal 32 (reg_of state 0) loaded) (reg_of state 0) loaded x gives low)
clears (instr.Atomic atomic.ExchangeAdd lock L reg mem) end loaded state low is =
    sole state loaded (instr.Atomic atomic.ExchangeAdd lock L reg mem) _ _ (λ x gives. low_of x _ gives (cut _))
clears (instr.MoveCc code L from to) end loaded state low is =
    sole state loaded (instr.MoveCc code L from to) _ _ (λ x gives. chosen_low (holds state loaded (cond_of code)) _ _ x gives (cut _) (cut _))
clears (instr.SwapBytes L reg) end loaded state low is = sole state loaded (instr.SwapBytes L reg) _ _ (λ x gives. swapped_low (reg_of state (registers.number_of reg)) x gives)
clears (instr.Short None distance) end loaded state low is = absurd (false≢true (ap is_long is))
clears (instr.Short (Some code) distance) end loaded state low is = absurd (false≢true (ap is_long is))
clears (instr.Near near.Jmp distance) end loaded state low is = absurd (false≢true (ap is_long is))
clears (instr.Near near.Call distance) end loaded state low is = absurd (false≢true (ap is_long is))
clears (instr.Near (near.If code) distance) end loaded state low is = absurd (false≢true (ap is_long is))
clears (instr.Indirect indirect.Jmp rm) end loaded state low is = absurd (false≢true (ap is_long is))
clears (instr.Indirect indirect.Call rm) end loaded state low is = absurd (false≢true (ap is_long is))
clears _ end loaded state low is = absurd (false≢true (ap is_long is))
