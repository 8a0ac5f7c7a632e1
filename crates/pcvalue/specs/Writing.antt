-- How runs are written as a pc-value table: in its least form.
use Rattle.std.specs.Prelude.{◌≡◌, ◌≢◌, ◌<◌, ℕ, zero, suc, ℤ, pos, negsuc, ◌-ℤ◌, List, [], ◌∷◌, ◌++◌, ◌+◌, ◌-◌, ◌*◌, ◌/◌, ◌%◌, ◌^◌, nat_lt, IsTrue, if◌then◌else◌}
use Rattle.pcvalue.specs.declared.run.Run.{Run}
use Rattle.pcvalue.specs.Runs.{fits_i32}

-- a number in at most this many bytes: seven bits a byte, the lowest first, and a high bit on each byte but the last
unfoldable pub number_bytes_within : ℕ → ℕ → List ℕ
number_bytes_within zero number = []
number_bytes_within (suc most) number =
    if nat_lt number 128 then number ∷ [] else (128 + number % 128) ∷ number_bytes_within most (number / 128)

-- a number of 32 bits
unfoldable pub number_bytes : ℕ → List ℕ
number_bytes number = number_bytes_within 5 number

-- the code of a signed number: 0, 1, 2, 3 and so on for 0, -1, 1, -2 and so on
abbrev pub zigzag_code : ℤ → ℕ
zigzag_code (pos n) = 2 * n
zigzag_code (negsuc n) = 2 * n + 1

-- what stands for a run before the first: place 0 and value -1
abbrev pub no_run : Run
no_run = record { end = 0; value = negsuc 0 }

-- a run behind another: by how much the value changes, and over how many quanta it holds
unfoldable pub run_bytes : ℕ → Run → Run → List ℕ
run_bytes quantum last run =
    number_bytes (zigzag_code (run.value -ℤ last.value)) ++ number_bytes ((run.end - last.end) / quantum)

-- the runs behind another, and the change of 0 that ends a table
unfoldable pub bytes_behind : ℕ → Run → List Run → List ℕ
bytes_behind quantum last [] = 0 ∷ []
bytes_behind quantum last (run ∷ runs) = run_bytes quantum last run ++ bytes_behind quantum run runs

unfoldable pub table_bytes : ℕ → List Run → List ℕ
table_bytes quantum runs = bytes_behind quantum no_run runs

-- a run can stand behind another: it holds over some whole quanta, and both its numbers and its change fit 32 bits
pub record CanFollow (quantum : ℕ) (last run : Run) : Type 0 where
  pub longer : last.end < run.end
  pub short : run.end < 2 ^ 32
  pub whole : (run.end - last.end) % quantum ≡ 0
  pub value : IsTrue (fits_i32 run.value)
  pub change : IsTrue (fits_i32 (run.value -ℤ last.value))

-- the runs can stand behind another, and neighbours have different values
abbrev pub CanStand : ℕ → Run → List Run → Type 0
CanStand quantum last [] = Unit {0}
CanStand quantum last (run ∷ runs) =
    CanFollow quantum last run × (run.value ≢ last.value) × CanStand quantum run runs

-- Runs that a table can stand for: at least one, ends that rise from above 0 by whole quanta, neighbours of different
-- values, and changes of 32 bits, the first from -1.
abbrev pub AreRuns : ℕ → List Run → Type 0
AreRuns quantum [] = ⊥
AreRuns quantum (run ∷ runs) = CanFollow quantum no_run run × CanStand quantum run runs
