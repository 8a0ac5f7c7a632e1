use Rattle.std.proofs.Common.{◌≡◌, ℕ, ℤ, pos, negsuc, ◌+◌, ◌^◌, ◌<◌, ◌≤◌, nat_lt, true, [], ◌∷◌, List, Option, Some, None, All, IfSome, refl, inl, arith, lit<, lit≤, rules, IsTrue}
use Rattle.std.proofs.lemmas.Bool.{and_parts, ltb-true}
use Rattle.std.proofs.lemmas.List.Elements.{All-nil, All-cons}
use Rattle.std.proofs.lemmas.Nat.{mod_below, pow_pos}
use Rattle.machine_effect.specs.declared.effect.Access.{Access}
use Rattle.machine_effect.specs.declared.effect.Value.{Value}
use Rattle.machine_effect.specs.declared.effect.Atom.{Atom}
use Rattle.machine_effect.specs.declared.effect.Atom.TheVariants as atom
use Rattle.machine_effect.specs.declared.flag_rule.FlagRule.{FlagRule}
use Rattle.machine_effect.specs.declared.flag_rule.FlagRule.TheVariants as flag
use Rattle.machine_effect.specs.declared.op.Op.{Op}
use Rattle.machine_effect.specs.declared.op.Op.TheVariants.{Copy, Add, Subtract}
use Rattle.machine_effect.specs.declared.next.Next.{Next}
use Rattle.machine_effect.specs.Numbers.{unsigned, moved_by}
use Rattle.machine_effect.specs.Bounds.{IsRegister, IsScale, IsWidth, IsBoundedAtom, IsBoundedAccess, IsBoundedPair, IsBoundedOp, IsBoundedValue, IsBoundedCond, IsBoundedRule, IsBoundedNext, IsBounded}
use Rattle.amd64_table.specs.declared.condition.Cc.{Cc}
use Rattle.amd64_table.specs.declared.reg.Reg.{Reg}
use Rattle.amd64_table.specs.declared.reg.Reg.TheVariants.{Ax, Cx, Dx, Bx, Sp}
use Rattle.amd64_table.specs.declared.width.Width.{Width}
use Rattle.amd64_table.specs.declared.width.Width.TheVariants.{Q, L}
use Rattle.amd64_table.specs.declared.memory.Scale.{Scale}
use Rattle.amd64_table.specs.declared.memory.Mem.{Mem}
use Rattle.amd64_table.specs.declared.memory.Mem.TheVariants as memory
use Rattle.amd64_table.specs.declared.memory.Rm.{Rm}
use Rattle.amd64_table.specs.declared.memory.Rm.TheVariants as operand
use Rattle.amd64_table.specs.declared.op.Arithmetic.{Arithmetic}
use Rattle.amd64_table.specs.declared.op.RegRm.TheVariants as reg_rm
use Rattle.amd64_table.specs.declared.op.MemReg.TheVariants as mem_reg
use Rattle.amd64_table.specs.declared.op.StoreSize.TheVariants as size
use Rattle.amd64_table.specs.declared.op.Extend.{Extend}
use Rattle.amd64_table.specs.declared.op.Extend.TheVariants as extend
use Rattle.amd64_table.specs.declared.op.Unary.{Unary}
use Rattle.amd64_table.specs.declared.op.MulDiv.{MulDiv}
use Rattle.amd64_table.specs.declared.op.RmReg.{RmReg}
use Rattle.amd64_table.specs.declared.op.ShiftOp.{ShiftOp}
use Rattle.amd64_table.specs.declared.op.Stack.TheVariants as stack
use Rattle.amd64_table.specs.declared.op.Atomic.TheVariants as atomic
use Rattle.amd64_table.specs.declared.op.Near.TheVariants as near
use Rattle.amd64_table.specs.declared.op.Indirect.TheVariants as indirect
use Rattle.amd64_table.specs.declared.op.Plain.{Plain}
use Rattle.amd64_table.specs.declared.op.Plain.TheVariants as plain
use Rattle.amd64_table.specs.declared.instr.Instr.{Instr}
use Rattle.amd64_table.specs.declared.instr.Instr.TheVariants as instr
use Rattle.amd64_table.specs.Registers.{number_of, xmm_number}
use Rattle.amd64_table.specs.Conditions.{cond_of}
use Rattle.amd64_table.specs.Fits.{fits, fits_rm}
use Rattle.amd64_table.specs.Operands.{bits_of, bytes_of, factor_of, reg_atom, signed_atom, access_of, rm_atom, load_of, writes_of, store_of}
use Rattle.amd64_table.specs.Forms.{value_of, copy_of, computing, going, changing, setting, testing, reading, loading, storing, swapping}
use Rattle.amd64_table.specs.Moves.{reg_rm_effect, mem_reg_effect, store_low_effect, extend_bytes, extended, extend_effect, store_const_effect, place_of, move_cc_effect, load_wide_effect, store_wide_effect, load_tls_effect}
use Rattle.amd64_table.specs.Computation.{result_of, flags_of, arithmetic_effect, compare_const_effect, unary_value, unary_flags, unary_effect, ax_value, dx_value, mul_div_flags, mul_div_effect, rm_reg_value, rm_reg_flags, rm_reg_effect, shift_flags, shift_effect, exchange_effect, is_ax, atomic_effect, set_cc_effect, swap_bytes_effect, xor_wide_effect}
use Rattle.amd64_table.specs.Control.{stack_access, any, stack_effect, short_effect, near_effect, indirect_effect, plain_effect}
use Rattle.amd64_table.specs.Effects.{effect_at}
use Rattle.amd64_table.proofs.RegisterLemmas.{number_below, xmm_below}

at_64 : IsWidth 64
at_64 = record { least = lit≤ tt; most = lit≤ tt }

at_32 : IsWidth 32
at_32 = record { least = lit≤ tt; most = lit≤ tt }

at_16 : IsWidth 16
at_16 = record { least = lit≤ tt; most = lit≤ tt }

at_8 : IsWidth 8
at_8 = record { least = lit≤ tt; most = lit≤ tt }

register : (reg : Reg) → IsRegister (number_of reg)
register reg = omega (arith, number_below reg)

word_below : (c : ℤ) → unsigned 64 c < 2 ^ 64
word_below (pos n) = mod_below n (2 ^ 64) (pow_pos 64)
word_below (negsuc n) = omega arith

moved_below : (x : ℕ) (k : ℤ) → moved_by x k < 2 ^ 64
moved_below x k = mod_below (x + unsigned 64 k) (2 ^ 64) (pow_pos 64)

width_bits : (width : Width) → IsWidth (bits_of width)
unfolding bits_of
width_bits Q = record { least = lit≤ tt; most = lit≤ tt }
width_bits L = record { least = lit≤ tt; most = lit≤ tt }

scale_factor : (scale : Scale) → IsScale (factor_of scale)
unfolding factor_of
scale_factor scale = search rules

condition : (code : Cc) → IsBoundedCond (cond_of code)
unfolding cond_of
condition code = search rules

rm_read : (rm : Rm) → IsBoundedAtom (rm_atom rm)
unfolding rm_atom
rm_read (operand.Reg reg) = register reg
rm_read (operand.Mem mem) = tt

-- how many bytes an access may have
IsSize : ℕ → Type 0
IsSize bytes = (1 ≤ bytes) × (bytes ≤ 16)

size_of : (width : Width) → IsSize (bytes_of width)
unfolding IsSize bytes_of
size_of Q = (lit≤ tt, lit≤ tt)
size_of L = (lit≤ tt, lit≤ tt)

accessed : (bytes end : ℕ) (mem : Mem) → IsSize bytes → IsBoundedAccess (access_of bytes end mem)
unfolding IsSize access_of
accessed bytes end (memory.Base base disp) size =
    record { least = size.0; most = size.1; base = register base; index = lit< tt; scale = inl refl }
accessed bytes end (memory.Indexed base index scale disp) size =
    record { least = size.0; most = size.1; base = register base; index = register index; scale = scale_factor scale }
accessed bytes end (memory.Symbol distance) size =
    record { least = size.0; most = size.1; base = moved_below end distance; index = lit< tt; scale = inl refl }

loaded : (bytes end : ℕ) (rm : Rm) → IsSize bytes → IfSome (load_of bytes end rm) IsBoundedAccess
unfolding load_of
loaded bytes end (operand.Reg reg) size = tt
loaded bytes end (operand.Mem mem) size = accessed bytes end mem size

made : (op : Op) (a b : Atom) (width : ℕ) → IsBoundedOp op → IsBoundedAtom a → IsBoundedAtom b → IsWidth width
    → IsBoundedValue (value_of op a b width)
made op a b width o p q w = record { op = o; a = p; b = q; c = lit< tt; width = w }

pair : (a b : Atom) (width : ℕ) → IsBoundedAtom a → IsBoundedAtom b → IsWidth width → IsBoundedPair a b width
pair a b width p q w = record { first = p; second = q; bits = w }

-- what is written
IsWrite : ℕ × Value → Type 0
IsWrite write = IsRegister write.0 × IsBoundedValue write.1

none : All IsWrite []
none = All-nil IsWrite

also : (reg : Reg) (value : Value) (writes : List (ℕ × Value)) → IsBoundedValue value → All IsWrite writes
    → All IsWrite ((number_of reg, value) ∷ writes)
unfolding IsWrite
also reg value writes v w = All-cons IsWrite (number_of reg, value) writes (register reg, v) w

one : (reg : Reg) (value : Value) → IsBoundedValue value → All IsWrite ((number_of reg, value) ∷ [])
one reg value v = also reg value [] v none

-- the forms
computed : (writes : List (ℕ × Value)) (load : Option Access) (store : Option (Access × Value)) (flags : FlagRule)
    → All IsWrite writes → IfSome load IsBoundedAccess
    → IfSome store (λ store. IsBoundedAccess store.0 × IsBoundedValue store.1) → IsBoundedRule flags
    → IsBounded (computing writes load store flags)
unfolding IsWrite
computed writes load store flags w l s f = record { writes = w; wide = tt; load = l; store = s; flags = f; next = tt }

gone : (load : Option Access) (next : Next) → IfSome load IsBoundedAccess → IsBoundedNext next → IsBounded (going load next)
unfolding IsWrite
gone load next l n = record { writes = none; wide = tt; load = l; store = tt; flags = tt; next = n }

wrote : (rm : Rm) (value : Value) → IsBoundedValue value → All IsWrite (writes_of rm value)
unfolding writes_of
wrote (operand.Reg reg) value v = one reg value v
wrote (operand.Mem mem) value v = none

stored : (bytes end : ℕ) (rm : Rm) (value : Value) → IsSize bytes → IsBoundedValue value
    → IfSome (store_of bytes end rm value) (λ store. IsBoundedAccess store.0 × IsBoundedValue store.1)
unfolding store_of
stored bytes end (operand.Reg reg) value size v = tt
stored bytes end (operand.Mem mem) value size v = (accessed bytes end mem size, v)

changed : (width : Width) (end : ℕ) (rm : Rm) (value : Value) (flags : FlagRule) → IsBoundedValue value → IsBoundedRule flags
    → IsBounded (changing width end rm value flags)
unfolding changing
changed width end rm value flags v f =
    computed (writes_of rm value) (load_of (bytes_of width) end rm) (store_of (bytes_of width) end rm value) flags
    (wrote rm value v) (loaded (bytes_of width) end rm (size_of width)) (stored (bytes_of width) end rm value (size_of width) v) f

tested : (width : Width) (end : ℕ) (rm : Rm) (flags : FlagRule) → IsBoundedRule flags → IsBounded (testing width end rm flags)
unfolding testing
tested width end rm flags f = computed [] (load_of (bytes_of width) end rm) None flags none (loaded (bytes_of width) end rm (size_of width)) tt f

was_read : (bytes end : ℕ) (rm : Rm) (reg : Reg) (value : Value) (flags : FlagRule) → IsSize bytes → IsBoundedValue value
    → IsBoundedRule flags → IsBounded (reading bytes end rm reg value flags)
unfolding reading
was_read bytes end rm reg value flags size v f = computed ((number_of reg, value) ∷ []) (load_of bytes end rm) None flags (one reg value v) (loaded bytes end rm size) tt f

was_loaded : (reg : Reg) (value : Value) → IsBoundedValue value → IsBounded (loading reg value)
unfolding loading
was_loaded reg value v = computed ((number_of reg, value) ∷ []) None None flag.Keep (one reg value v) tt tt tt

was_stored : (bytes end : ℕ) (mem : Mem) (value : Value) → IsSize bytes → IsBoundedValue value → IsBounded (storing bytes end mem value)
unfolding storing
was_stored bytes end mem value size v = computed [] None (Some (access_of bytes end mem, value)) flag.Keep none tt (accessed bytes end mem size, v) tt

swapped : (width : Width) (end : ℕ) (mem : Mem) (reg : Reg) (first second : Value) (flags : FlagRule) → IsBoundedValue first
    → IsBoundedValue second → IsBoundedRule flags → IsBounded (swapping width end mem (number_of reg, first) second flags)
unfolding swapping
swapped width end mem reg first second flags v w f =
    let access = accessed (bytes_of width) end mem (size_of width) in
    computed ((number_of reg, first) ∷ []) (Some (access_of (bytes_of width) end mem)) (Some (access_of (bytes_of width) end mem, second)) flags
    (one reg first v) access (access, w) f

copied : (a : Atom) (width : ℕ) → IsBoundedAtom a → IsWidth width → IsBoundedValue (copy_of a width)
copied a width p w = made Copy a (atom.Const 0) width tt p (lit< tt) w

-- what the operations give, and their flags
results : (op : Arithmetic) (a b : Atom) (width : ℕ) → IsBoundedAtom a → IsBoundedAtom b → IsWidth width
    → IsBoundedValue (result_of op a b width) × IsBoundedRule (flags_of op a b width)
unfolding result_of flags_of
results op a b width p q w = search (rules, made, pair)

extends : (op : Extend) (a : Atom) → IsBoundedAtom a → IsBoundedValue (extended op a) × IsSize (extend_bytes op)
unfolding extended extend_bytes IsSize
extends extend.ByteZero a p = (copied a 8 p at_8, (lit≤ tt, lit≤ tt))
extends extend.WordZero a p = (copied a 16 p at_16, (lit≤ tt, lit≤ tt))
extends extend.ByteSign a p = (made _ a _ 64 tt p (lit< tt) at_64, (lit≤ tt, lit≤ tt))
extends extend.WordSign a p = (made _ a _ 64 tt p (lit< tt) at_64, (lit≤ tt, lit≤ tt))
extends extend.LongSign a p = (made _ a _ 64 tt p (lit< tt) at_64, (lit≤ tt, lit≤ tt))

unary_made : (op : Unary) (a : Atom) (width : ℕ) → IsBoundedAtom a → IsWidth width
    → IsBoundedValue (unary_value op a width) × IsBoundedRule (unary_flags op a width)
unfolding unary_value unary_flags
unary_made op a width p w = search (rules, made, pair)

product_made : (op : MulDiv) (a : Atom) (width : ℕ) → IsBoundedAtom a → IsWidth width
    → IsBoundedValue (ax_value op a width) × IsBoundedValue (dx_value op a width) × IsBoundedRule (mul_div_flags op a width)
unfolding ax_value dx_value mul_div_flags
product_made op a width p w = search (rules, made, pair, register)

rm_reg_made : (op : RmReg) (a b : Atom) (width : ℕ) → IsBoundedAtom a → IsBoundedAtom b → IsWidth width
    → IsBoundedValue (rm_reg_value op a b width) × IsBoundedRule (rm_reg_flags op a b width)
unfolding rm_reg_value rm_reg_flags
rm_reg_made op a b width p q w = search (rules, made, pair)

shift_made : (op : ShiftOp) (a b : Atom) (width : ℕ) → IsBoundedAtom a → IsBoundedAtom b → IsWidth width
    → IsBoundedRule (shift_flags op a b width)
unfolding shift_flags
shift_made op a b width p q w = search (rules, made, pair)

shifted : (op : ShiftOp) (width : Width) (count : Atom) (rm : Rm) (end : ℕ) → IsBoundedAtom count
    → IsBounded (shift_effect op width count rm end)
unfolding shift_effect
shifted op width count rm end p =
    changed width end rm _ _ (made _ (rm_atom rm) count _ tt (rm_read rm) p (width_bits width))
    (shift_made op (rm_atom rm) count (bits_of width) (rm_read rm) p (width_bits width))

arithmetic : (op : Arithmetic) (width : Width) (from : Atom) (to : Rm) (end : ℕ) → IsBoundedAtom from
    → IsBounded (arithmetic_effect op width from to end)
unfolding arithmetic_effect
arithmetic op width from to end p =
    let both = results op (rm_atom to) from (bits_of width) (rm_read to) p (width_bits width) in
    changed width end to _ _ both.0 both.1

placed : (mem : Mem) (end : ℕ) → IsBoundedValue (place_of mem end)
unfolding place_of
placed (memory.Base base disp) end = made Add (reg_atom base) _ 64 tt (register base) (word_below disp) at_64
placed (memory.Indexed base index scale disp) end =
    record { op = scale_factor scale; a = register base; b = register index; c = word_below disp; width = at_64 }
placed (memory.Symbol distance) end = copied (atom.Const (moved_by end distance)) 64 (moved_below end distance) at_64

small_count : (count : ℕ) (width : Width) → nat_lt count (bits_of width) ≡ true → count < 2 ^ 64
unfolding bits_of
small_count count Q low = let h : count < 64 = ltb-true count 64 low in omega arith
small_count count L low = let h : count < 32 = ltb-true count 32 low in omega arith

asked : (width : Width) → IsBoundedCond (is_ax (bits_of width))
asked width = pair (reg_atom Ax) atom.Loaded (bits_of width) (register Ax) tt (width_bits width)

-- SP moved by eight
moved_sp : (op : Op) → IsBoundedOp op → IsBoundedValue (value_of op (reg_atom Sp) (atom.Const 8) 64)
moved_sp op o = made op (reg_atom Sp) (atom.Const 8) 64 o (register Sp) (lit< tt) at_64

at_stack : (disp : ℤ) → IsBoundedAccess (stack_access disp)
at_stack disp = record { least = lit≤ tt; most = lit≤ tt; base = register Sp; index = lit< tt; scale = inl refl }

any_made : IsBoundedValue any
any_made = made _ (atom.Const 0) (atom.Const 0) 32 tt (lit< tt) (lit< tt) at_32

any_written : (reg : Reg) (writes : List (ℕ × Value)) → All IsWrite writes → All IsWrite ((number_of reg, any) ∷ writes)
any_written reg writes w = also reg any writes any_made w

-- the number of LoadLong is below 2^32
long_below : (n : ℕ) → nat_lt n (2 ^ 32) ≡ true → n < 2 ^ 64
long_below n low = let h : n < 2 ^ 32 = ltb-true n (2 ^ 32) low in omega arith

plain_bounded : (op : Plain) → IsBounded (plain_effect op)
unfolding plain_effect
plain_bounded plain.Pause = computed [] None None flag.Keep none tt tt tt
plain_bounded plain.Mfence = computed [] None None flag.Keep none tt tt tt
plain_bounded plain.Cdq = was_loaded Dx _ (made _ (reg_atom Ax) (atom.Const 31) 32 tt (register Ax) (lit< tt) at_32)
plain_bounded plain.Cqo = was_loaded Dx _ (made _ (reg_atom Ax) (atom.Const 63) 64 tt (register Ax) (lit< tt) at_64)
plain_bounded plain.Ret = gone None _ tt tt
plain_bounded plain.Syscall = gone None _ tt tt
plain_bounded plain.Cpuid =
    let dx = any_written Dx [] none in
    let cx = any_written Cx ((number_of Dx, any) ∷ []) dx in
    let bx = any_written Bx ((number_of Cx, any) ∷ (number_of Dx, any) ∷ []) cx in
    let ax = any_written Ax ((number_of Bx, any) ∷ (number_of Cx, any) ∷ (number_of Dx, any) ∷ []) bx in
    computed _ None None flag.Keep ax tt tt tt
plain_bounded plain.Rdtsc =
    computed _ None None flag.Keep (any_written Ax ((number_of Dx, any) ∷ []) (any_written Dx [] none)) tt tt tt
plain_bounded plain.Undef = gone None _ tt tt

-- each effect has registers, widths, scales and addresses that a machine has
pub bounded : (i : Instr) (end : ℕ) → IsTrue (fits i) → IsBounded (effect_at i end)
unfolding effect_at fits reg_rm_effect mem_reg_effect compare_const_effect store_low_effect extend_effect store_const_effect unary_effect mul_div_effect rm_reg_effect stack_effect exchange_effect atomic_effect set_cc_effect move_cc_effect swap_bytes_effect short_effect near_effect indirect_effect load_wide_effect store_wide_effect xor_wide_effect load_tls_effect setting IsWrite IsSize
bounded (instr.RegRm reg_rm.Mov width reg rm) end listed =
    let copy = copied (reg_atom reg) (bits_of width) (register reg) (width_bits width) in
    computed (writes_of rm _) None (store_of (bytes_of width) end rm _) flag.Keep (wrote rm _ copy) tt (stored (bytes_of width) end rm _ (size_of width) copy) tt
bounded (instr.RegRm reg_rm.Cmp width reg rm) end listed =
    tested width end rm _ (pair (rm_atom rm) (reg_atom reg) (bits_of width) (rm_read rm) (register reg) (width_bits width))
bounded (instr.RegRm reg_rm.Test width reg rm) end listed =
    tested width end rm _ (pair (rm_atom rm) (reg_atom reg) (bits_of width) (rm_read rm) (register reg) (width_bits width))
bounded (instr.ArithmeticReg op lock width from to) end listed = arithmetic op width (reg_atom from) to end (register from)
bounded (instr.MemReg mem_reg.Mov width mem reg) end listed =
    was_read (bytes_of width) end (operand.Mem mem) reg _ _ (size_of width) (copied atom.Loaded (bits_of width) tt (width_bits width)) tt
bounded (instr.MemReg mem_reg.Cmp width mem reg) end listed =
    tested width end (operand.Mem mem) _ (pair (reg_atom reg) atom.Loaded (bits_of width) (register reg) tt (width_bits width))
bounded (instr.MemReg (mem_reg.Arithmetic op) width mem reg) end listed =
    let both = results op (reg_atom reg) atom.Loaded (bits_of width) (register reg) tt (width_bits width) in
    was_read (bytes_of width) end (operand.Mem mem) reg _ _ (size_of width) both.0 both.1
bounded (instr.ArithmeticConst op lock width constant to) end listed = arithmetic op width (signed_atom constant) to end (word_below constant)
bounded (instr.CompareConst width rm constant) end listed =
    tested width end rm _ (pair (rm_atom rm) (signed_atom constant) (bits_of width) (rm_read rm) (word_below constant) (width_bits width))
bounded (instr.StoreLow size.Byte from to) end listed = was_stored 1 end to _ (lit≤ tt, lit≤ tt) (copied (reg_atom from) 8 (register from) at_8)
bounded (instr.StoreLow size.Word from to) end listed = was_stored 2 end to _ (lit≤ tt, lit≤ tt) (copied (reg_atom from) 16 (register from) at_16)
bounded (instr.Extend op from to) end listed =
    let both = extends op (rm_atom from) (rm_read from) in was_read (extend_bytes op) end from to _ flag.Keep both.1 both.0 tt
bounded (instr.LoadLong constant to) end listed = was_loaded to _ (copied (atom.Const constant) 32 (long_below constant listed) at_32)
bounded (instr.LoadQuad constant to) end listed = was_loaded to _ (copied (signed_atom constant) 64 (word_below constant) at_64)
bounded (instr.StoreConst width constant to) end listed =
    was_stored (bytes_of width) end to _ (size_of width) (copied (signed_atom constant) (bits_of width) (word_below constant) (width_bits width))
bounded (instr.StoreByte constant to) end listed = was_stored 1 end to _ (lit≤ tt, lit≤ tt) (copied (signed_atom constant) 8 (word_below constant) at_8)
bounded (instr.Lea from to) end listed = was_loaded to _ (placed from end)
bounded (instr.Unary op lock width rm) end listed =
    let both = unary_made op (rm_atom rm) (bits_of width) (rm_read rm) (width_bits width) in changed width end rm _ _ both.0 both.1
bounded (instr.MulDiv op width rm) end listed =
    let all = product_made op (rm_atom rm) (bits_of width) (rm_read rm) (width_bits width) in
    computed _ _ None _ (also Ax _ ((number_of Dx, dx_value op (rm_atom rm) (bits_of width)) ∷ []) all.0 (one Dx _ all.1)) (loaded (bytes_of width) end rm (size_of width)) tt all.2
bounded (instr.RmReg op width from to) end listed =
    let both = rm_reg_made op (rm_atom from) (reg_atom to) (bits_of width) (rm_read from) (register to) (width_bits width) in
    was_read (bytes_of width) end from to _ _ (size_of width) both.0 both.1
bounded (instr.ShiftConst op width count rm) end listed =
    shifted op width (atom.Const count) rm end (small_count count width (and_parts (nat_lt count (bits_of width)) (fits_rm rm) listed).0)
bounded (instr.ShiftCx op width rm) end listed = shifted op width (reg_atom Cx) rm end (register Cx)
bounded (instr.Stack stack.Push reg) end listed =
    computed _ None _ flag.Keep (one Sp _ (moved_sp Subtract tt)) tt (at_stack (negsuc 7), copied (reg_atom reg) 64 (register reg) at_64) tt
bounded (instr.Stack stack.Pop reg) end listed =
    computed _ _ None flag.Keep (also Sp _ ((number_of reg, copy_of atom.Loaded 64) ∷ []) (moved_sp Add tt) (one reg _ (copied atom.Loaded 64 tt at_64))) (at_stack (pos 0)) tt tt
bounded (instr.Exchange width reg mem) end listed =
    swapped width end mem reg _ _ flag.Keep (copied atom.Loaded (bits_of width) tt (width_bits width))
    (copied (reg_atom reg) (bits_of width) (register reg) (width_bits width)) tt
bounded (instr.Atomic atomic.CompareExchange lock width reg mem) end listed =
    swapped width end mem Ax _ _ _ (made _ (reg_atom Ax) atom.Loaded 64 (asked width) (register Ax) tt at_64)
    (made _ (reg_atom reg) atom.Loaded (bits_of width) (asked width) (register reg) tt (width_bits width))
    (pair (reg_atom Ax) atom.Loaded (bits_of width) (register Ax) tt (width_bits width))
bounded (instr.Atomic atomic.ExchangeAdd lock width reg mem) end listed =
    swapped width end mem reg _ _ _ (copied atom.Loaded (bits_of width) tt (width_bits width))
    (made _ atom.Loaded (reg_atom reg) (bits_of width) tt tt (register reg) (width_bits width))
    (pair atom.Loaded (reg_atom reg) (bits_of width) tt (register reg) (width_bits width))
bounded (instr.SetCc code (operand.Reg reg)) end listed =
    was_loaded reg _ (made _ (reg_atom reg) (atom.Const 0) 64 (condition code) (register reg) (lit< tt) at_64)
bounded (instr.SetCc code (operand.Mem mem)) end listed =
    was_stored 1 end mem _ (lit≤ tt, lit≤ tt) (made _ (atom.Const 0) (atom.Const 0) 8 (condition code) (lit< tt) (lit< tt) at_8)
bounded (instr.MoveCc code width from to) end listed =
    was_read (bytes_of width) end from to _ flag.Keep (size_of width)
    (made _ (rm_atom from) (reg_atom to) (bits_of width) (condition code) (rm_read from) (register to) (width_bits width)) tt
bounded (instr.SwapBytes width reg) end listed =
    was_loaded reg _ (made _ (reg_atom reg) (atom.Const 0) (bits_of width) tt (register reg) (lit< tt) (width_bits width))
bounded (instr.Short None distance) end listed = gone None _ tt (moved_below end distance)
bounded (instr.Short (Some code) distance) end listed = gone None _ tt (condition code, moved_below end distance)
bounded (instr.Near near.Jmp distance) end listed = gone None _ tt (moved_below end distance)
bounded (instr.Near near.Call distance) end listed = gone None _ tt (moved_below end distance, tt)
bounded (instr.Near (near.If code) distance) end listed = gone None _ tt (condition code, moved_below end distance)
bounded (instr.Indirect indirect.Jmp rm) end listed = gone _ _ (loaded 8 end rm (lit≤ tt, lit≤ tt)) (rm_read rm)
bounded (instr.Indirect indirect.Call rm) end listed = gone _ _ (loaded 8 end rm (lit≤ tt, lit≤ tt)) (rm_read rm, tt)
bounded (instr.LoadWide from to) end listed =
    record { writes = none; wide = (xmm_below to, tt); load = accessed 16 end from (lit≤ tt, lit≤ tt); store = tt; flags = tt; next = tt }
bounded (instr.StoreWide from to) end listed =
    was_stored 16 end to _ (lit≤ tt, lit≤ tt)
    (copied (atom.Wide (xmm_number from)) 128 (xmm_below from) (record { least = lit≤ tt; most = lit≤ tt }))
bounded (instr.XorWide from to) end listed =
    record { writes = none; wide = (xmm_below to, (xmm_below to, xmm_below from)); load = tt; store = tt; flags = tt; next = tt }
bounded (instr.LoadTls to) end listed =
    computed _ _ None flag.Keep (one to _ (copied atom.Loaded 64 tt at_64))
    (record { least = lit≤ tt; most = lit≤ tt; base = lit< tt; index = lit< tt; scale = inl refl }) tt tt
bounded (instr.Plain op) end listed = plain_bounded op
