-- ModRM, SIB and displacement (Intel 64 manual, volume 2, "Instruction Format", the tables of ModRM and SIB).
use Rattle.std.specs.Prelude.{ℕ, ℤ, pos, Bool, List, [], ◌∷◌, ◌++◌, ◌+◌, ◌*◌, ◌/◌, ◌%◌, ◌==◌, ◌&&◌, not, drop, slice_index, if◌then◌else◌}
use Rattle.machine_effect.specs.Numbers.{fits as fits_bits}
use Rattle.amd64_table.specs.declared.reg.Reg.{Reg}
use Rattle.amd64_table.specs.declared.memory.Scale.{Scale}
use Rattle.amd64_table.specs.declared.memory.Scale.TheVariants as scales
use Rattle.amd64_table.specs.declared.memory.Mem.{Mem}
use Rattle.amd64_table.specs.declared.memory.Mem.TheVariants as memory
use Rattle.amd64_table.specs.declared.memory.Rm.{Rm}
use Rattle.amd64_table.specs.declared.memory.Rm.TheVariants as operand
use Rattle.amd64_table.specs.Registers.{low_bits}
use Rattle.amd64_table.specs.Operands.{is_none}
use Rattle.amd64_code.specs.Constants.{byte_of, long_of, byte_in, long_in}
use Rattle.amd64_code.specs.Heads.{one_if}
use Rattle.amd64_code.specs.Registers.{reg_at}

-- the byte ModRM, and the byte SIB, of three fields
abbrev pub fields : ℕ → ℕ → ℕ → ℕ
fields high middle low = 64 * high + 8 * middle + low

-- ModRM's field mod for a displacement: 0 where it is left out, 1 for one byte, 2 for four
unfoldable pub mode_of : Reg → ℤ → ℕ
mode_of base disp =
    if is_none disp && not (low_bits base == 5) then 0 else (if fits_bits 8 disp then 1 else 2)

unfoldable pub disp_bytes : ℕ → ℤ → List ℕ
disp_bytes mode disp = if mode == 0 then [] else (if mode == 1 then byte_of disp else long_of disp)

-- the low bits of SP and R12 as a base mean SIB, which then names no index
abbrev pub bare_sib : Reg → List ℕ
bare_sib base = if low_bits base == 4 then 0x24 ∷ [] else []

abbrev pub scale_bits : Scale → ℕ
scale_bits scales.One = 0
scale_bits scales.Two = 1
scale_bits scales.Four = 2
scale_bits scales.Eight = 3

-- `field` is what ModRM's field reg has
unfoldable pub mem_bytes : ℕ → Mem → List ℕ
mem_bytes field (memory.Base base disp) =
    fields (mode_of base disp) field (low_bits base) ∷ (bare_sib base ++ disp_bytes (mode_of base disp) disp)
mem_bytes field (memory.Indexed base index scale disp) =
    fields (mode_of base disp) field 4
    ∷ fields (scale_bits scale) (low_bits index) (low_bits base)
    ∷ disp_bytes (mode_of base disp) disp
mem_bytes field (memory.Symbol distance) = fields 0 field 5 ∷ long_of distance

unfoldable pub rm_bytes : ℕ → Rm → List ℕ
rm_bytes field (operand.Reg reg) = fields 3 field (low_bits reg) ∷ []
rm_bytes field (operand.Mem place) = mem_bytes field place

-- the operand that bytes begin with, by the bits x and b of REX

abbrev pub field_in : List ℕ → ℕ
field_in bytes = slice_index bytes 0 / 8 % 8

abbrev pub low_in : List ℕ → ℕ
low_in bytes = slice_index bytes 0 % 8

unfoldable pub disp_in : ℕ → List ℕ → ℤ
disp_in mode bytes = if mode == 0 then pos 0 else (if mode == 1 then byte_in bytes else long_in bytes)

unfoldable pub scale_at : ℕ → Scale
scale_at bits =
    if bits == 0 then scales.One
    else (if bits == 1 then scales.Two else (if bits == 2 then scales.Four else scales.Eight))

-- from SIB on
unfoldable pub sib_in : Bool → Bool → ℕ → List ℕ → Mem
sib_in x b mode bytes =
    if field_in bytes == 4 && not x then memory.Base (reg_at b (low_in bytes)) (disp_in mode (drop 1 bytes))
    else memory.Indexed (reg_at b (low_in bytes)) (reg_at x (field_in bytes))
    (scale_at (slice_index bytes 0 / 64 % 4)) (disp_in mode (drop 1 bytes))

unfoldable pub mem_in : Bool → Bool → List ℕ → Mem
mem_in x b bytes =
    if slice_index bytes 0 / 64 == 0 && low_in bytes == 5 then memory.Symbol (long_in (drop 1 bytes))
    else (if low_in bytes == 4 then sib_in x b (slice_index bytes 0 / 64) (drop 1 bytes)
    else memory.Base (reg_at b (low_in bytes)) (disp_in (slice_index bytes 0 / 64) (drop 1 bytes)))

unfoldable pub rm_in : Bool → Bool → List ℕ → Rm
rm_in x b bytes =
    if slice_index bytes 0 / 64 == 3 then operand.Reg (reg_at b (low_in bytes)) else operand.Mem (mem_in x b bytes)

abbrev pub disp_size : ℕ → ℕ
disp_size mode = if mode == 0 then 0 else (if mode == 1 then 1 else 4)

-- how many bytes ModRM, SIB and displacement are
unfoldable pub operand_size : List ℕ → ℕ
operand_size bytes =
    if slice_index bytes 0 / 64 == 3 then 1
    else (if slice_index bytes 0 / 64 == 0 && low_in bytes == 5 then 5
    else 1 + one_if (low_in bytes == 4) + disp_size (slice_index bytes 0 / 64))
