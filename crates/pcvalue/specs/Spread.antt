-- How a table's values are spread over stretches in one pass, each run being judged as it is read.
use Rattle.std.specs.Prelude.{ℕ, ℤ, Bool, true, false, List, [], ◌∷◌, ◌==◌, nat_lt, Option, Some, None, if◌then◌else◌}
use Rattle.std.specs.Option.{option_map}
use Rattle.pcvalue.specs.Varint.{varint}
use Rattle.pcvalue.specs.Runs.{Point, Reading, Another, Finished, Fault, next_run}
use Rattle.pcvalue.specs.Least.{and_read, is_least_change}

-- the run or the end that stands there has its least form, whatever stands behind it
unfoldable pub is_least_at : ℕ → Bool → List ℕ → Bool
is_least_at quantum first bytes = and_read (varint bytes) (is_least_change quantum first (λ _. true) bytes)

-- what stands at a point; anything but the least form is a fault
unfoldable pub least_run : ℕ → Bool → Point → Reading
least_run quantum first point = if is_least_at quantum first point.rest then next_run quantum first point else Fault

-- what holds behind a stretch that ends there: the same run, or what stands behind it where it ends there too
unfoldable pub behind_stretch : ℕ → Point → ℕ → Reading
behind_stretch quantum point end =
    if nat_lt end point.run.end then Another point
    else if end == point.run.end then least_run quantum false point else Fault

-- the values of the stretches from a run on; `None` where the table doesn't end with the last of them, or changes in one
unfoldable pub spread : ℕ → Reading → List ℕ → Option (List ℤ)
spread quantum (Another point) (end ∷ ends) =
    option_map (λ values. point.run.value ∷ values) (spread quantum (behind_stretch quantum point end) ends)
spread quantum (Another point) [] = None
spread quantum Finished (end ∷ ends) = None
spread quantum Finished [] = Some []
spread quantum Fault ends = None
