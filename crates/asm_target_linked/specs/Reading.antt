-- Bytes read back as an instruction.
use Rattle.std.specs.Prelude.{ℕ, Bool, true, false, List, ◌∷◌, [], ◌==◌, ◌&&◌, nat_le, length, slice_index, Option, Some, None, if◌then◌else◌}
use Rattle.std.specs.Int.{w8, w16, w32, cast_signed, from_le_bytes}
use Rattle.asm_target_linked.specs.declared.instr.FrameOp.TheVariants.{Save, Load, Below, Above}
use Rattle.asm_target_linked.specs.declared.instr.Instr.{Instr}
use Rattle.asm_target_linked.specs.declared.instr.Instr.TheVariants.{Plain, Frame, Near, Far}
use Rattle.asm_target_linked.specs.Instr.{op_of}

-- the number in the last four of eight bytes
abbrev pub number_in : List ℕ → ℕ
number_in bytes =
    from_le_bytes w32 (slice_index bytes 4 ∷ slice_index bytes 5 ∷ slice_index bytes 6 ∷ slice_index bytes 7 ∷ [])

-- the number in the last two of eight bytes
abbrev pub half_in : List ℕ → ℕ
half_in bytes = from_le_bytes w16 (slice_index bytes 6 ∷ slice_index bytes 7 ∷ [])

-- the bytes begin with this one, and are at least so many
abbrev pub starts : List ℕ → ℕ → ℕ → Bool
starts bytes code most = slice_index bytes 0 == code && nat_le most (length bytes)

-- the instruction that bytes begin with, if they begin with one
unfoldable pub reading : List ℕ → Option Instr
reading bytes =
    if length bytes == 0 then None
    else (if starts bytes 16 2 then Some (Near true (cast_signed w8 (slice_index bytes 1)))
    else (if starts bytes 17 2 then Some (Near false (cast_signed w8 (slice_index bytes 1)))
    else (if starts bytes 32 8 then Some (Frame Save (number_in bytes))
    else (if starts bytes 33 8 then Some (Frame Load (number_in bytes))
    else (if starts bytes 34 8 then Some (Frame Below (number_in bytes))
    else (if starts bytes 35 8 then Some (Frame Above (number_in bytes))
    else (if starts bytes 48 8 then Some (Far false (cast_signed w16 (half_in bytes)))
    else (if starts bytes 49 8 then Some (Far true (cast_signed w16 (half_in bytes)))
    else Some (Plain (op_of (slice_index bytes 0)))))))))))
