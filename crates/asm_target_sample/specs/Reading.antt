-- Bytes read back as an instruction.
use Rattle.std.specs.Prelude.{ℕ, ℤ, List, [], ◌∷◌, ◌==◌, ◌&&◌, ◌/◌, ◌%◌, nat_le, length, slice_index, Option, Some, None, if◌then◌else◌}
use Rattle.std.specs.Int.{w8, w32, cast_signed, from_le_bytes}
use Rattle.asm_target_sample.specs.declared.instr.Instr.{Instr}
use Rattle.asm_target_sample.specs.declared.instr.Instr.TheVariants.{Nop, Move, Push, AddSp, Jump, Return}
use Rattle.asm_target_sample.specs.Register.{register_of}

-- the four bytes behind an opcode
abbrev pub distance_in : List ℕ → ℤ
distance_in bytes =
    cast_signed w32 (from_le_bytes w32
    (slice_index bytes 1 ∷ slice_index bytes 2 ∷ slice_index bytes 3 ∷ slice_index bytes 4 ∷ []))

-- the registers of a ModRM byte
abbrev pub operands_in : ℕ → Instr
operands_in byte = Move (register_of (byte / 8 % 8)) (register_of (byte % 8))

-- the instruction that bytes begin with, if they begin with one
unfoldable pub reading : List ℕ → Option Instr
reading bytes =
    if length bytes == 0 then None
    else (if slice_index bytes 0 == 0x90 then Some Nop
    else (if slice_index bytes 0 == 0xc3 then Some Return
    else (if slice_index bytes 0 == 0xe9 && nat_le 5 (length bytes) then Some (Jump (distance_in bytes))
    else (if slice_index bytes 0 == 0x48 && slice_index bytes 1 == 0x83 && nat_le 4 (length bytes)
    then Some (AddSp (cast_signed w8 (slice_index bytes 3)))
    else (if slice_index bytes 0 == 0x48 && nat_le 3 (length bytes) then Some (operands_in (slice_index bytes 2))
    else Some (Push (register_of (slice_index bytes 0 % 8))))))))
