-- The runs of a pc-value table. Each is a pair of numbers: by how much the value changes, zigzag coded, and
-- over how many quanta it holds. A table begins at value -1 and place 0, and a change of 0 after the first pair
-- ends it.
use Rattle.std.specs.Prelude.{ℕ, zero, suc, ℤ, pos, negsuc, Bool, true, false, List, [], ◌∷◌, ◌+◌, ◌+ℤ◌, ◌*◌, ◌/◌, ◌%◌, ◌^◌, ◌==◌, ◌&&◌, not, nat_lt, length, Option, Some, None, if◌then◌else◌}
use Rattle.pcvalue.specs.declared.run.Run.{Run}
use Rattle.pcvalue.specs.Varint.{varint}

-- the signed number behind a zigzag code: 0, -1, 1, -2, 2 and so on
abbrev pub zigzag : ℕ → ℤ
zigzag code = if code % 2 == 0 then pos (code / 2) else negsuc (code / 2)

-- whether a value fits 32 bits
abbrev pub fits_i32 : ℤ → Bool
fits_i32 (pos n) = nat_lt n (2 ^ 31)
fits_i32 (negsuc n) = nat_lt n (2 ^ 31)

-- the run that was read last, and the bytes behind it
pub record Point : Type 0 where
  pub run : Run
  pub rest : List ℕ

-- what stands at a point: another run and the point behind it, the table's end, or neither
pub data Reading : Type 0 where
  Another : (point : Point) → Reading
  Finished : Reading
  Fault : Reading

abbrev pub or_fault : Option (ℕ × List ℕ) → (ℕ × List ℕ → Reading) → Reading
or_fault (Some read) next = next read
or_fault None next = Fault

-- the run whose value changes by this code and that holds over these quanta
unfoldable pub run_over : ℕ → Point → ℕ → ℕ × List ℕ → Reading
run_over quantum point code quanta =
    if fits_i32 (point.run.value +ℤ zigzag code) && nat_lt (point.run.end + quanta.0 * quantum) (2 ^ 32)
    then Another (record {
      run = record { end = point.run.end + quanta.0 * quantum; value = point.run.value +ℤ zigzag code };
      rest = quanta.1;
    })
    else Fault

-- the run whose value changes by this code; the code 0 ends the table, except at its first run
unfoldable pub run_by : ℕ → Bool → Point → ℕ × List ℕ → Reading
run_by quantum first point code =
    if code.0 == 0 && not first then Finished else or_fault (varint code.1) (run_over quantum point code.0)

unfoldable pub next_run : ℕ → Bool → Point → Reading
next_run quantum first point = or_fault (varint point.rest) (run_by quantum first point)

-- the runs that were found, and whether the table's end stands behind them
pub record Runs : Type 0 where
  pub runs : List Run
  pub whole : Bool

abbrev pub before : Run → Runs → Runs
before run others = record { runs = run ∷ others.runs; whole = others.whole }

abbrev pub runs_from : Reading → (Point → Runs) → Runs
runs_from (Another point) others = before point.run (others point)
runs_from Finished others = record { runs = []; whole = true }
runs_from Fault others = record { runs = []; whole = false }

-- the runs from a point on, of which there are at most this many
unfoldable pub runs_within : ℕ → ℕ → Bool → Point → Runs
runs_within zero quantum first point = record { runs = []; whole = false }
runs_within (suc most) quantum first point =
    runs_from (next_run quantum first point) (runs_within most quantum false)

-- the point before the first run
abbrev pub start : List ℕ → Point
start bytes = record { run = record { end = 0; value = negsuc 0 }; rest = bytes }

-- the runs of the table that the bytes begin with; each takes two bytes at least
unfoldable pub runs_of : ℕ → List ℕ → Runs
runs_of quantum bytes = runs_within (length bytes) quantum true (start bytes)
