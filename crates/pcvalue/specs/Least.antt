-- The least form of a pc-value table: the one that an encoder writes for its runs.
use Rattle.std.specs.Prelude.{ℕ, zero, suc, Bool, true, false, List, ◌+◌, ◌*◌, ◌^◌, ◌==◌, ◌&&◌, not, nat_lt, length, Option, Some, None, IsTrue, if◌then◌else◌}
use Rattle.pcvalue.specs.Varint.{varint}
use Rattle.pcvalue.specs.Runs.{runs_of}

-- the fewest bytes that spell a number of 32 bits
abbrev pub varint_len : ℕ → ℕ
varint_len number =
    if nat_lt number (2 ^ 7) then 1
    else (if nat_lt number (2 ^ 14) then 2
    else (if nat_lt number (2 ^ 21) then 3
    else (if nat_lt number (2 ^ 28) then 4
    else 5)))

-- the number that was read from the front of the bytes has its fewest bytes
abbrev pub is_shortest : List ℕ → ℕ × List ℕ → Bool
is_shortest bytes read = length bytes == varint_len read.0 + length read.1

abbrev pub and_read : Option (ℕ × List ℕ) → (ℕ × List ℕ → Bool) → Bool
and_read (Some read) test = test read
and_read None test = false

-- the number of quanta has its fewest bytes and isn't 0, and so it goes on behind it
abbrev pub are_least_quanta : ℕ → (List ℕ → Bool) → List ℕ → ℕ × List ℕ → Bool
are_least_quanta quantum others bytes quanta =
    is_shortest bytes quanta && nat_lt 0 (quanta.0 * quantum) && others quanta.1

-- the change has its fewest bytes, and ends the table or stands before a least number of quanta
abbrev pub is_least_change : ℕ → Bool → (List ℕ → Bool) → List ℕ → ℕ × List ℕ → Bool
is_least_change quantum first others bytes code =
    is_shortest bytes code
    && (if code.0 == 0 && not first then true
    else and_read (varint code.1) (are_least_quanta quantum others code.1))

-- each number up to the table's end has its fewest bytes, and each run has a length above 0. That neighbours' values
-- differ needs no word: a change of 0 behind the first run ends the table
unfoldable pub is_least_within : ℕ → ℕ → Bool → List ℕ → Bool
is_least_within zero quantum first bytes = false
is_least_within (suc most) quantum first bytes =
    and_read (varint bytes) (is_least_change quantum first (is_least_within most quantum false) bytes)

unfoldable pub is_least_form : ℕ → List ℕ → Bool
is_least_form quantum bytes = (runs_of quantum bytes).whole && is_least_within (length bytes) quantum true bytes

-- the bytes begin with a whole table in least form
abbrev pub IsLeastForm : ℕ → List ℕ → Type 0
IsLeastForm quantum bytes = IsTrue (is_least_form quantum bytes)
