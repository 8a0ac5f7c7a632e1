-- What each status says of the words, the files, the standard output and the standard error.
use Rattle.std.specs.Prelude.{◌≡◌, ◌⊎◌, ℕ, List}
use Rattle.goasm_run.specs.declared.stop.Stop.{Stop}
use Rattle.goasm_run.specs.declared.stop.Stop.TheVariants as stops
use Rattle.goasm_run.specs.Changes.{ShelfChange, SinkChange, Takes, FailsToTake, TakesNothing}
use Rattle.goasm_run.specs.Endings.{Text, Refusal}
use Rattle.goasm_run.specs.Plan.{Plan, Malformed, EndsIn, StopsAt}
use Rattle.goasm_run.specs.Lines.{words_line, memory_line, unread_line}

-- a line that says why there is no text
pub data SaysWhy (shelf : ShelfChange) (plan : Plan) (line : List ℕ) : Type 0 where
  SaysRefusal : EndsIn shelf plan (Refusal line) → SaysWhy shelf plan line
  SaysWords : plan ≡ Malformed → line ≡ words_line → SaysWhy shelf plan line
  SaysMemory : line ≡ memory_line → SaysWhy shelf plan line
  SaysUnread : (name : List ℕ) → StopsAt shelf plan name → line ≡ unread_line name → SaysWhy shelf plan line

-- the standard output failed in the plan's text, and nothing is said
pub record OutFailed (shelf : ShelfChange) (plan : Plan) (out err : SinkChange) : Type 0 where
  pub text : List ℕ
  pub ends : EndsIn shelf plan (Text text)
  pub fails : FailsToTake out text
  pub unsaid : TakesNothing err

-- the standard error failed in the line that says why there is no text
pub record ErrFailed (shelf : ShelfChange) (plan : Plan) (out err : SinkChange) : Type 0 where
  pub line : List ℕ
  pub why : SaysWhy shelf plan line
  pub fails : FailsToTake err line
  pub unwritten : TakesNothing out

-- why an answer of the plan isn't told, and by which status: memory was wanting, a read failed, or the standard error failed
pub data KeptBack (status : ℕ) (shelf : ShelfChange) (plan : Plan) (out err : SinkChange) : Type 0 where
  NoMemory : status ≡ 3 → KeptBack status shelf plan out err
  NoFile : (name : List ℕ) → status ≡ 4 → StopsAt shelf plan name → KeptBack status shelf plan out err
  NoLine : status ≡ 5 → ErrFailed shelf plan out err → KeptBack status shelf plan out err

-- a stop is told by this line, and ends with this status where the line is taken; without memory for the line of a
-- file that couldn't be read, it is told as want of memory
abbrev pub IsToldBy : Stop → ℕ → List ℕ → Type 0
IsToldBy (stops.Refused said) status line = (status ≡ 1) × (line ≡ said)
IsToldBy stops.Words status line = (status ≡ 2) × (line ≡ words_line)
IsToldBy stops.Memory status line = (status ≡ 3) × (line ≡ memory_line)
IsToldBy (stops.Unread name) status line =
    ((status ≡ 4) × (line ≡ unread_line name)) ⊎ ((status ≡ 3) × (line ≡ memory_line))

-- a sink took the line, or failed in it; the result is the status, or 5
abbrev pub IsWritten : SinkChange → ℕ → ℕ → List ℕ → Type 0
IsWritten sink result status line =
    ((result ≡ status) × Takes sink line) ⊎ ((result ≡ 5) × FailsToTake sink line)

-- a sink took the line that tells a stop, or failed in it
abbrev pub Told : SinkChange → Stop → ℕ → Type 0
Told sink stop result =
    (status : ℕ) × (line : List ℕ) × IsToldBy stop status line × IsWritten sink result status line
