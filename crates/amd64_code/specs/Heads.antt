-- What stands before ModRM: LOCK, a prefix, REX, the opcode (Intel 64 manual, volume 2, "Instruction Format").
use Rattle.std.specs.Prelude.{ℕ, Bool, false, List, [], ◌∷◌, ◌++◌, ◌+◌, ◌*◌, ◌/◌, ◌%◌, ◌==◌, ◌||◌, drop, slice_index, if◌then◌else◌}
use Rattle.amd64_code.specs.declared.rex.Rex.{Rex}
use Rattle.amd64_code.specs.declared.head.Legacy.{Legacy}
use Rattle.amd64_code.specs.declared.head.Legacy.TheVariants.{Absent, OperandSize, Repeat, Fs}
use Rattle.amd64_code.specs.declared.head.Opcode.{Opcode}
use Rattle.amd64_code.specs.declared.head.Opcode.TheVariants.{One, Two}
use Rattle.amd64_code.specs.declared.head.Head.{Head}

abbrev pub lock_bytes : Bool → List ℕ
lock_bytes lock = if lock then 0xf0 ∷ [] else []

abbrev pub legacy_bytes : Legacy → List ℕ
legacy_bytes Absent = []
legacy_bytes OperandSize = 0x66 ∷ []
legacy_bytes Repeat = 0xf3 ∷ []
legacy_bytes Fs = 0x64 ∷ []

abbrev pub one_if : Bool → ℕ
one_if test = if test then 1 else 0

abbrev pub rex_byte : Rex → ℕ
rex_byte rex = 0x40 + 8 * one_if rex.w + 4 * one_if rex.r + 2 * one_if rex.x + one_if rex.b

-- REX stands where one of its bits is set, or where a byte operand asks for it
unfoldable pub rex_bytes : Bool → Rex → List ℕ
rex_bytes bare rex = if bare || rex.w || rex.r || rex.x || rex.b then rex_byte rex ∷ [] else []

abbrev pub opcode_bytes : Opcode → List ℕ
opcode_bytes (One opcode) = opcode ∷ []
opcode_bytes (Two opcode) = 0x0f ∷ opcode ∷ []

unfoldable pub head_bytes : Head → List ℕ
head_bytes head =
    lock_bytes head.lock ++ legacy_bytes head.legacy ++ rex_bytes head.bare head.rex ++ opcode_bytes head.opcode

-- the parts of a head that bytes begin with, and what is behind each

abbrev pub lock_in : List ℕ → Bool
lock_in bytes = slice_index bytes 0 == 0xf0

abbrev pub behind_lock : List ℕ → List ℕ
behind_lock bytes = if slice_index bytes 0 == 0xf0 then drop 1 bytes else bytes

unfoldable pub legacy_in : List ℕ → Legacy
legacy_in bytes =
    if slice_index bytes 0 == 0x66 then OperandSize
    else (if slice_index bytes 0 == 0xf3 then Repeat
    else (if slice_index bytes 0 == 0x64 then Fs else Absent))

abbrev pub behind_legacy : List ℕ → List ℕ
behind_legacy bytes =
    if slice_index bytes 0 == 0x66 || slice_index bytes 0 == 0xf3 || slice_index bytes 0 == 0x64 then drop 1 bytes
    else bytes

abbrev pub no_rex : Rex
no_rex = record { w = false; r = false; x = false; b = false }

abbrev pub rex_at : ℕ → Rex
rex_at byte = record { w = byte / 8 % 2 == 1; r = byte / 4 % 2 == 1; x = byte / 2 % 2 == 1; b = byte % 2 == 1 }

unfoldable pub rex_in : List ℕ → Rex
rex_in bytes = if slice_index bytes 0 / 16 == 4 then rex_at (slice_index bytes 0) else no_rex

abbrev pub behind_rex : List ℕ → List ℕ
behind_rex bytes = if slice_index bytes 0 / 16 == 4 then drop 1 bytes else bytes

abbrev pub opcode_in : List ℕ → Opcode
opcode_in bytes = if slice_index bytes 0 == 0x0f then Two (slice_index bytes 1) else One (slice_index bytes 0)

abbrev pub behind_opcode : List ℕ → List ℕ
behind_opcode bytes = if slice_index bytes 0 == 0x0f then drop 2 bytes else drop 1 bytes
