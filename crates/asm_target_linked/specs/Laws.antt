-- The laws of processors.
use Rattle.std.specs.Int.{w8, w16, cast_signed, cast_unsigned, from_le_bytes, to_le_bytes}
use Rattle.std.specs.Prelude.{All, FitsSigned, pos, ◌-ℤ◌, slice_index}
use Rattle.std.proofs.Common.{◌≡◌, ℕ, ℤ, List, [], ◌∷◌, ◌++◌, ◌+◌, ◌/◌, ◌%◌, ◌^◌, ◌<◌, ◌≤◌, true, false, Some, length, drop, refl, ap, ◌∙◌, arith, inl, inr}
use Rattle.std.proofs.lemmas.Int.{to_z-of_z, ints}
use Rattle.std.proofs.lemmas.Nat.{from_le_bytes-to_le_bytes_2, from_le_bytes-to_le_bytes_4}
use Rattle.std.proofs.lemmas.Bool.Decides.{nat_tests}
use Rattle.std.proofs.lemmas.List.Elements.{All-nil, All-cons}
use Rattle.machine_effect.specs.declared.effect.Atom.{Atom}
use Rattle.machine_effect.specs.declared.effect.Atom.TheVariants.{Reg, Loaded}
use Rattle.machine_effect.specs.declared.effect.Value.{Value}
use Rattle.machine_effect.specs.declared.op.Op.{Op as Operation}
use Rattle.machine_effect.specs.declared.op.Op.TheVariants.{Copy, Add, Subtract}
use Rattle.machine_effect.specs.Bounds.{IsRegister, IsWidth, IsBoundedAtom, IsBoundedValue, IsBoundedOp, IsBoundedAccess}
use Rattle.machine_effect.specs.Flow.{flow_of}
use Rattle.asm_target.specs.Architecture.{IsArchitecture, riscv64}
use Rattle.asm_target.specs.InstructionSet.{Begins}
use Rattle.asm_target.specs.Laws as laws
use Rattle.asm_target_linked.specs.declared.instr.FrameOp.TheVariants.{Save, Load, Below, Above}
use Rattle.asm_target_linked.specs.declared.instr.Instr.{Instr}
use Rattle.asm_target_linked.specs.declared.instr.Instr.TheVariants.{Plain, Frame, Near, Far}
use Rattle.asm_target_linked.specs.declared.instr.Op.TheVariants.{Nop, SaveAt, SetSp, LoadLink, Limit, Return}
use Rattle.asm_target_linked.specs.Instr.{Fits, copy_of, eight_at, linked, spelling_of, word}
use Rattle.asm_target_linked.specs.Reading.{reading}

pub architecture : IsArchitecture (record { machine = 243; quantum = 4; shape = riscv64.shape; growth = riscv64.growth })
architecture = inr (inr refl)

pub lengths : laws.HasLengths linked Fits 4
lengths (Plain op) fits = record { least = omega arith; most = omega arith; whole = refl }
lengths (Frame op bytes) fits = record { least = omega arith; most = omega arith; whole = refl }
lengths (Near held distance) fits = record { least = omega arith; most = omega arith; whole = refl }
lengths (Far call distance) fits = record { least = omega arith; most = omega arith; whole = refl }

-- two bytes give their number back
distance_back : (distance : ℤ) → FitsSigned w16 distance
    → cast_signed w16 (from_le_bytes w16 (to_le_bytes w16 (cast_unsigned w16 distance))) ≡ distance
distance_back distance fits =
    let bound : cast_unsigned w16 distance < 2 ^ 16 = omega (arith, ints) in
    ap (cast_signed w16) (from_le_bytes-to_le_bytes_2 (cast_unsigned w16 distance) bound)
    ∙ to_z-of_z w16 distance fits

-- what is spelled is read, whatever follows
pub reads : (i : Instr) (rest : List ℕ) → Fits i → reading (spelling_of i ++ rest) ≡ Some i
unfolding reading
reads (Plain Nop) rest fits = grind (arith, nat_tests)
reads (Plain SaveAt) rest fits = grind (arith, nat_tests)
reads (Plain SetSp) rest fits = grind (arith, nat_tests)
reads (Plain LoadLink) rest fits = grind (arith, nat_tests)
reads (Plain Limit) rest fits = grind (arith, nat_tests)
reads (Plain Return) rest fits = grind (arith, nat_tests)
reads (Frame Save bytes) rest fits = rw (from_le_bytes-to_le_bytes_4 bytes fits) (grind (arith, nat_tests))
reads (Frame Load bytes) rest fits = rw (from_le_bytes-to_le_bytes_4 bytes fits) (grind (arith, nat_tests))
reads (Frame Below bytes) rest fits = rw (from_le_bytes-to_le_bytes_4 bytes fits) (grind (arith, nat_tests))
reads (Frame Above bytes) rest fits = rw (from_le_bytes-to_le_bytes_4 bytes fits) (grind (arith, nat_tests))
reads (Near true distance) rest fits = rw (to_z-of_z w8 distance fits) (grind (arith, nat_tests))
reads (Near false distance) rest fits = rw (to_z-of_z w8 distance fits) (grind (arith, nat_tests))
reads (Far true distance) rest fits = rw (distance_back distance fits) (grind (arith, nat_tests))
reads (Far false distance) rest fits = rw (distance_back distance fits) (grind (arith, nat_tests))

-- bytes that begin with an instruction are read as it
pub begins_read : (i : Instr) (bytes : List ℕ) → Fits i → Begins linked bytes i → reading bytes ≡ Some i
begins_read i bytes fits begins = ap reading begins ∙ reads i (drop (length (spelling_of i)) bytes) fits

pub prefix_free : laws.IsPrefixFree linked Fits
prefix_free i j bytes fi fj bi bj = cc (begins_read i bytes fi bi, begins_read j bytes fj bj)

-- no first byte is 0
first_byte : (a b : ℕ) (xs ys : List ℕ) → a ∷ xs ≡ b ∷ ys → a ≡ b
first_byte a b xs ys e = ap (λ s. slice_index s 0) e

pub no_padding : laws.AvoidsPadding linked Fits 243
no_padding (Plain Nop) rest fits begins = omega (arith, first_byte 0 1 _ _ begins)
no_padding (Plain SaveAt) rest fits begins = omega (arith, first_byte 0 2 _ _ begins)
no_padding (Plain SetSp) rest fits begins = omega (arith, first_byte 0 3 _ _ begins)
no_padding (Plain LoadLink) rest fits begins = omega (arith, first_byte 0 4 _ _ begins)
no_padding (Plain Limit) rest fits begins = omega (arith, first_byte 0 5 _ _ begins)
no_padding (Plain Return) rest fits begins = omega (arith, first_byte 0 6 _ _ begins)
no_padding (Frame Save bytes) rest fits begins = omega (arith, first_byte 0 32 _ _ begins)
no_padding (Frame Load bytes) rest fits begins = omega (arith, first_byte 0 33 _ _ begins)
no_padding (Frame Below bytes) rest fits begins = omega (arith, first_byte 0 34 _ _ begins)
no_padding (Frame Above bytes) rest fits begins = omega (arith, first_byte 0 35 _ _ begins)
no_padding (Near true distance) rest fits begins = omega (arith, first_byte 0 16 _ _ begins)
no_padding (Near false distance) rest fits begins = omega (arith, first_byte 0 17 _ _ begins)
no_padding (Far true distance) rest fits begins = omega (arith, first_byte 0 49 _ _ begins)
no_padding (Far false distance) rest fits begins = omega (arith, first_byte 0 48 _ _ begins)

-- the stack pointer never moves by a constant that the flow tells
pub small_moves : laws.HasSmallMoves linked Fits riscv64.shape
unfolding flow_of
small_moves (Plain Nop) pc k fits moved = cc
small_moves (Plain SaveAt) pc k fits moved = cc
small_moves (Plain SetSp) pc k fits moved = cc
small_moves (Plain LoadLink) pc k fits moved = cc
small_moves (Plain Limit) pc k fits moved = cc
small_moves (Plain Return) pc k fits moved = cc
small_moves (Frame Save bytes) pc k fits moved = cc
small_moves (Frame Load bytes) pc k fits moved = cc
small_moves (Frame Below bytes) pc k fits moved = cc
small_moves (Frame Above bytes) pc k fits moved = cc
small_moves (Near held distance) pc k fits moved = cc
small_moves (Far true distance) pc k fits moved = cc
small_moves (Far false distance) pc k fits moved = cc

-- 64 bits
full : IsWidth 64
full = record { least = omega arith; most = omega arith }

valued : (op : Operation) (a : Atom) (constant : ℕ) → IsBoundedOp op → IsBoundedAtom a → constant < 2 ^ 64
    → IsBoundedValue (word op a constant)
valued op a constant known atom small = record { op = known; a = atom; b = small; c = omega arith; width = full }

accessed : (register : ℕ) (disp : ℤ) → register < 33 → IsBoundedAccess (eight_at register disp)
accessed register disp low =
    record { least = omega arith; most = omega arith; base = omega arith; index = low; scale = inl refl }

IsWrite : ℕ × Value → Type 0
IsWrite write = IsRegister write.0 × IsBoundedValue write.1

written : (register : ℕ) (value : Value) → register < 33 → IsBoundedValue value → All IsWrite ((register, value) ∷ [])
unfolding IsWrite
written register value low known = All-cons IsWrite (register, value) [] (low, known) (All-nil IsWrite)

-- the link register and what is loaded
link_copy : IsBoundedValue (copy_of (Reg 1))
link_copy = valued Copy (Reg 1) 0 tt (omega arith) (omega arith)

loaded_copy : IsBoundedValue (copy_of Loaded)
loaded_copy = valued Copy Loaded 0 tt tt (omega arith)

less_value : (bytes : ℕ) → bytes < 2 ^ 32 → IsBoundedValue (word Subtract (Reg 2) bytes)
less_value bytes low = valued Subtract (Reg 2) bytes tt (omega arith) (omega arith)

more_value : (bytes : ℕ) → bytes < 2 ^ 32 → IsBoundedValue (word Add (Reg 2) bytes)
more_value bytes low = valued Add (Reg 2) bytes tt (omega arith) (omega arith)

pub bounded : laws.HasBoundedEffects linked Fits
unfolding IsWrite
bounded (Plain Nop) pc fits small =
    record { writes = All-nil IsWrite; wide = tt; load = tt; store = tt; flags = tt; next = tt }
bounded (Plain SaveAt) pc fits small =
    record { writes = All-nil IsWrite; wide = tt; load = tt; store = (accessed 31 (pos 0) (omega arith), link_copy); flags = tt; next = tt }
bounded (Plain SetSp) pc fits small = record {
  writes = written 2 (copy_of (Reg 31)) (omega arith) (valued Copy (Reg 31) 0 tt (omega arith) (omega arith));
  wide = tt;
  load = tt;
  store = tt;
  flags = tt;
  next = tt;
}
bounded (Plain LoadLink) pc fits small = record {
  writes = written 1 (copy_of Loaded) (omega arith) loaded_copy;
  wide = tt;
  load = accessed 2 (pos 0) (omega arith);
  store = tt;
  flags = tt;
  next = tt;
}
bounded (Plain Limit) pc fits small = record {
  writes = written 7 (copy_of Loaded) (omega arith) loaded_copy;
  wide = tt;
  load = accessed 27 (pos 16) (omega arith);
  store = tt;
  flags = tt;
  next = tt;
}
bounded (Plain Return) pc fits small =
    record { writes = All-nil IsWrite; wide = tt; load = tt; store = tt; flags = tt; next = tt }
bounded (Frame Save bytes) pc fits small = record {
  writes = written 2 (word Subtract (Reg 2) bytes) (omega arith) (less_value bytes fits);
  wide = tt;
  load = tt;
  store = (accessed 2 (pos 0 -ℤ pos bytes) (omega arith), link_copy);
  flags = tt;
  next = tt;
}
bounded (Frame Load bytes) pc fits small = record {
  writes = All-cons IsWrite (1, copy_of Loaded) ((2, word Add (Reg 2) bytes) ∷ []) (omega arith, loaded_copy)
      (written 2 (word Add (Reg 2) bytes) (omega arith) (more_value bytes fits));
  wide = tt;
  load = accessed 2 (pos 0) (omega arith);
  store = tt;
  flags = tt;
  next = tt;
}
bounded (Frame Below bytes) pc fits small = record {
  writes = written 31 (word Subtract (Reg 2) bytes) (omega arith) (less_value bytes fits);
  wide = tt;
  load = tt;
  store = tt;
  flags = tt;
  next = tt;
}
bounded (Frame Above bytes) pc fits small = record {
  writes = written 31 (word Add (Reg 2) bytes) (omega arith) (more_value bytes fits);
  wide = tt;
  load = tt;
  store = tt;
  flags = tt;
  next = tt;
}
bounded (Near true distance) pc fits small = record {
  writes = All-nil IsWrite;
  wide = tt;
  load = tt;
  store = tt;
  flags = tt;
  next = (record { first = omega arith; second = omega arith; bits = full }, omega arith);
}
bounded (Near false distance) pc fits small = record {
  writes = All-nil IsWrite;
  wide = tt;
  load = tt;
  store = tt;
  flags = tt;
  next = (record { first = omega arith; second = omega arith; bits = full }, omega arith);
}
bounded (Far true distance) pc fits small = record {
  writes = All-nil IsWrite;
  wide = tt;
  load = tt;
  store = tt;
  flags = tt;
  next = (omega arith, omega arith);
}
bounded (Far false distance) pc fits small =
    record { writes = All-nil IsWrite; wide = tt; load = tt; store = tt; flags = tt; next = omega arith }

pub only_goes : laws.HasOnlyGoing linked Fits
only_goes (Plain Return) pc fits small goes = record { writes = refl; wide = refl; store = refl; flags = refl }
only_goes (Near held distance) pc fits small goes = record { writes = refl; wide = refl; store = refl; flags = refl }
only_goes (Far call distance) pc fits small goes = record { writes = refl; wide = refl; store = refl; flags = refl }
only_goes (Plain Nop) pc fits small goes = absurd (goes refl)
only_goes (Plain SaveAt) pc fits small goes = absurd (goes refl)
only_goes (Plain SetSp) pc fits small goes = absurd (goes refl)
only_goes (Plain LoadLink) pc fits small goes = absurd (goes refl)
only_goes (Plain Limit) pc fits small goes = absurd (goes refl)
only_goes (Frame Save bytes) pc fits small goes = absurd (goes refl)
only_goes (Frame Load bytes) pc fits small goes = absurd (goes refl)
only_goes (Frame Below bytes) pc fits small goes = absurd (goes refl)
only_goes (Frame Above bytes) pc fits small goes = absurd (goes refl)

pub links : laws.HasLinks linked Fits riscv64.shape
links (Far true distance) pc fits small = record { some = refl; spares = λ same. omega (arith, same) }
links (Far false distance) pc fits small = tt
links (Near held distance) pc fits small = tt
links (Plain Nop) pc fits small = tt
links (Plain SaveAt) pc fits small = tt
links (Plain SetSp) pc fits small = tt
links (Plain LoadLink) pc fits small = tt
links (Plain Limit) pc fits small = tt
links (Plain Return) pc fits small = tt
links (Frame Save bytes) pc fits small = tt
links (Frame Load bytes) pc fits small = tt
links (Frame Below bytes) pc fits small = tt
links (Frame Above bytes) pc fits small = tt
