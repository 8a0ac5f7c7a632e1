-- The laws of processors, for the sample.
use Rattle.std.specs.Int.{w8, w32, w64, cast_signed, cast_unsigned, from_le_bytes, to_le_bytes}
use Rattle.std.specs.Prelude.{pos, negsuc, slice_index, FitsSigned}
use Rattle.std.proofs.Common.{◌≡◌, ℕ, ℤ, List, [], ◌∷◌, ◌++◌, suc, ◌+◌, ◌-◌, ◌*◌, ◌/◌, ◌%◌, ◌^◌, ◌<◌, ◌≤◌, Some, length, drop, refl, ap, ◌∙◌, arith, rules, inl, subst}
use Rattle.std.proofs.lemmas.Int.{to_z-of_z, ints}
use Rattle.std.proofs.lemmas.Nat.{from_le_bytes-to_le_bytes_4}
use Rattle.std.proofs.lemmas.Bool.Decides.{nat_tests}
use Rattle.std.proofs.lemmas.List.Elements.{All-nil, All-cons}
use Rattle.std.specs.Prelude.{All}
use Rattle.machine_effect.specs.Numbers.{signed}
use Rattle.machine_effect.specs.declared.effect.Value.{Value}
use Rattle.machine_effect.specs.declared.op.Op.{Op}
use Rattle.machine_effect.specs.declared.op.Op.TheVariants.{Add, Subtract}
use Rattle.machine_effect.specs.Flow.{flow_of}
use Rattle.machine_effect.specs.Shapes.{IsStackDistance}
use Rattle.machine_effect.specs.Bounds.{IsRegister, IsWidth, IsBoundedValue, IsBoundedOp, IsBoundedAccess}
use Rattle.asm_target.specs.Architecture.{IsArchitecture, amd64}
use Rattle.asm_target.specs.InstructionSet.{Begins}
use Rattle.asm_target.specs.Laws as laws
use Rattle.asm_target_sample.specs.declared.instr.Instr.{Instr}
use Rattle.asm_target_sample.specs.declared.instr.Instr.TheVariants.{Nop, Move, Push, AddSp, Jump, Return}
use Rattle.asm_target_sample.specs.declared.register.Register.{Register}
use Rattle.asm_target_sample.specs.declared.register.Register.TheVariants.{Ax, Cx, Dx, Bx, Sp, Bp, Si, Di}
use Rattle.asm_target_sample.specs.Register.{number_of, register_of}
use Rattle.asm_target_sample.specs.Effects.{copy_of, with_sp, below_sp}
use Rattle.asm_target_sample.specs.Instr.{spelling_of, Fits, sample}
use Rattle.asm_target_sample.specs.Reading.{reading}

pub architecture : IsArchitecture (record { machine = 62; quantum = 1; shape = amd64.shape; growth = amd64.growth })
architecture = inl refl

-- any number of bytes is whole quanta of one byte
in_bytes : (n : ℕ) → 1 ≤ n → n ≤ 15 → laws.IsLength 1 n
in_bytes n least most = record { least = least; most = most; whole = omega arith }

pub lengths : laws.HasLengths sample Fits 1
lengths Nop fits = in_bytes 1 (omega arith) (omega arith)
lengths (Move from to) fits = in_bytes 3 (omega arith) (omega arith)
lengths (Push register) fits = in_bytes 1 (omega arith) (omega arith)
lengths (AddSp constant) fits = in_bytes 4 (omega arith) (omega arith)
lengths (Jump distance) fits = in_bytes 5 (omega arith) (omega arith)
lengths Return fits = in_bytes 1 (omega arith) (omega arith)

number_below : (register : Register) → number_of register < 8
number_below Ax = omega arith
number_below Cx = omega arith
number_below Dx = omega arith
number_below Bx = omega arith
number_below Sp = omega arith
number_below Bp = omega arith
number_below Si = omega arith
number_below Di = omega arith

register_of-number_of : (register : Register) → register_of (number_of register) ≡ register
register_of-number_of Ax = refl
register_of-number_of Cx = refl
register_of-number_of Dx = refl
register_of-number_of Bx = refl
register_of-number_of Sp = refl
register_of-number_of Bp = refl
register_of-number_of Si = refl
register_of-number_of Di = refl

-- four bytes give their number back
distance_back : (distance : ℤ) → FitsSigned w32 distance
    → cast_signed w32 (from_le_bytes w32 (to_le_bytes w32 (cast_unsigned w32 distance))) ≡ distance
distance_back distance fits =
    let bound : cast_unsigned w32 distance < 2 ^ 32 = omega (arith, ints) in
    ap (cast_signed w32) (from_le_bytes-to_le_bytes_4 (cast_unsigned w32 distance) bound)
    ∙ to_z-of_z w32 distance fits

-- what is spelled is read, whatever follows
pub reads : (i : Instr) (rest : List ℕ) → Fits i → reading (spelling_of i ++ rest) ≡ Some i
unfolding reading
reads Nop rest fits = grind (arith, nat_tests)
reads (Move from to) rest fits =
    let f : number_of from < 8 = number_below from in
    let t : number_of to < 8 = number_below to in
    let high : (0xc0 + 8 * number_of from + number_of to) / 8 % 8 ≡ number_of from = omega arith in
    let low : (0xc0 + 8 * number_of from + number_of to) % 8 ≡ number_of to = omega arith in
    grind (arith, nat_tests, register_of-number_of)
reads (Push register) rest fits =
    let r : number_of register < 8 = number_below register in
    let high : (0x50 + number_of register) / 8 ≡ 10 = omega arith in
    let low : (0x50 + number_of register) % 8 ≡ number_of register = omega arith in
    grind (arith, nat_tests, register_of-number_of)
reads (AddSp constant) rest fits = rw (to_z-of_z w8 constant fits) (grind (arith, nat_tests))
reads (Jump distance) rest fits = rw (distance_back distance fits) (grind (arith, nat_tests))
reads Return rest fits = grind (arith, nat_tests)

-- bytes that begin with an instruction are read as it
pub begins_read : (i : Instr) (bytes : List ℕ) → Fits i → Begins sample bytes i → reading bytes ≡ Some i
begins_read i bytes fits begins = ap reading begins ∙ reads i (drop (length (spelling_of i)) bytes) fits

pub prefix_free : laws.IsPrefixFree sample Fits
prefix_free i j bytes fi fj bi bj = cc (begins_read i bytes fi bi, begins_read j bytes fj bj)

-- no first byte is that of the padding
first_byte : (a b : ℕ) (xs ys : List ℕ) → a ∷ xs ≡ b ∷ ys → a ≡ b
first_byte a b xs ys e = ap (λ s. slice_index s 0) e

pub no_padding : laws.AvoidsPadding sample Fits 62
no_padding Nop rest fits begins = omega (arith, first_byte 0xcc 0x90 rest _ begins)
no_padding (Move from to) rest fits begins = omega (arith, first_byte 0xcc 0x48 rest _ begins)
no_padding (Push register) rest fits begins =
    let below : number_of register < 8 = number_below register in
    omega (arith, first_byte 0xcc (0x50 + number_of register) rest _ begins)
no_padding (AddSp constant) rest fits begins = omega (arith, first_byte 0xcc 0x48 rest _ begins)
no_padding (Jump distance) rest fits begins = omega (arith, first_byte 0xcc 0xe9 rest _ begins)
no_padding Return rest fits begins = omega (arith, first_byte 0xcc 0xc3 rest _ begins)

-- a constant of one byte
small_constant : (constant : ℤ) → FitsSigned w8 constant
    → IsStackDistance (signed 64 (cast_unsigned w64 constant))
small_constant (pos n) fits =
    let low : n < 128 = omega (arith, ints) in
    let same : signed 64 n ≡ pos n = grind (arith, nat_tests) in
    rw same (record { least = search rules; most = search rules })
small_constant (negsuc n) fits =
    let low : n < 128 = omega (arith, ints) in
    let same : signed 64 (18446744073709551616 - suc n) ≡ negsuc n = grind (arith, nat_tests) in
    rw same (record { least = search rules; most = search rules })

pub small_moves : laws.HasSmallMoves sample Fits amd64.shape
unfolding flow_of
small_moves Nop pc k fits moved = cc
small_moves (Move from Ax) pc k fits moved = cc
small_moves (Move from Cx) pc k fits moved = cc
small_moves (Move from Dx) pc k fits moved = cc
small_moves (Move from Bx) pc k fits moved = cc
small_moves (Move from Sp) pc k fits moved = cc
small_moves (Move from Bp) pc k fits moved = cc
small_moves (Move from Si) pc k fits moved = cc
small_moves (Move from Di) pc k fits moved = cc
small_moves (Push register) pc k fits moved =
    let by : negsuc 7 ≡ k = cc moved in
    subst IsStackDistance by (record { least = search rules; most = search rules })
small_moves (AddSp constant) pc k fits moved =
    let by : signed 64 (cast_unsigned w64 constant) ≡ k = cc moved in
    subst IsStackDistance by (small_constant constant fits)
small_moves (Jump distance) pc k fits moved = cc
small_moves Return pc k fits moved = cc

-- 64 bits
full : IsWidth 64
full = record { least = omega arith; most = omega arith }

-- a copy of a register, and the stack pointer with a constant, are values that a processor makes
copied : (from : Register) → IsBoundedValue (copy_of from)
copied from =
    let low : number_of from < 8 = number_below from in
    record { op = tt; a = omega arith; b = omega arith; c = omega arith; width = full }

moved : (op : Op) (constant : ℕ) → IsBoundedOp op → constant < 2 ^ 64 → IsBoundedValue (with_sp op constant)
moved op constant known small =
    record { op = known; a = omega arith; b = small; c = omega arith; width = full }

-- so is one write to a register
IsWrite : ℕ × Value → Type 0
IsWrite write = IsRegister write.0 × IsBoundedValue write.1

written : (register : Register) (value : Value) → IsBoundedValue value → All IsWrite ((number_of register, value) ∷ [])
unfolding IsWrite
written register value known =
    let low : number_of register < 8 = number_below register in
    All-cons IsWrite (number_of register, value) [] (omega arith, known) (All-nil IsWrite)

pub bounded : laws.HasBoundedEffects sample Fits
unfolding IsWrite
bounded Nop pc fits small =
    record { writes = All-nil IsWrite; wide = tt; load = tt; store = tt; flags = tt; next = tt }
bounded (Move from to) pc fits small =
    record { writes = written to (copy_of from) (copied from); wide = tt; load = tt; store = tt; flags = tt; next = tt }
bounded (Push register) pc fits small =
    let below : IsBoundedAccess below_sp =
    record {
      least = omega arith;
      most = omega arith;
      base = omega arith;
      index = omega arith;
      scale = inl refl;
    } in
    record {
      writes = written Sp (with_sp Subtract 8) (moved Subtract 8 tt (omega arith));
      wide = tt;
      load = tt;
      store = (below, copied register);
      flags = tt;
      next = tt;
    }
bounded (AddSp constant) pc fits small =
    let low : cast_unsigned w64 constant < 2 ^ 64 = omega (arith, ints) in
    record {
      writes = written Sp (with_sp Add (cast_unsigned w64 constant)) (moved Add (cast_unsigned w64 constant) tt low);
      wide = tt;
      load = tt;
      store = tt;
      flags = record { first = omega arith; second = low; bits = full };
      next = tt;
    }
bounded (Jump distance) pc fits small =
    record { writes = All-nil IsWrite; wide = tt; load = tt; store = tt; flags = tt; next = omega arith }
bounded Return pc fits small =
    record { writes = All-nil IsWrite; wide = tt; load = tt; store = tt; flags = tt; next = tt }

-- the jump and the return write nothing, and the others go on behind themselves
pub only_goes : laws.HasOnlyGoing sample Fits
only_goes (Jump distance) pc fits small goes = record { writes = refl; wide = refl; store = refl; flags = refl }
only_goes Return pc fits small goes = record { writes = refl; wide = refl; store = refl; flags = refl }
only_goes _ pc fits small goes = absurd (goes refl)

-- there is no call
pub links : laws.HasLinks sample Fits amd64.shape
links Nop pc fits small = tt
links _ pc fits small = tt
