-- What it means that a command ended with a text, or without one.
use Rattle.std.specs.Prelude.{◌≡◌, ◌≢◌, ◌⊎◌, ℕ, List, ◌+◌, ◌≤◌, length, Option, Result, Err, IfOk, IfErr}
use Rattle.goasm_base.specs.Shelf.{Files, Reads, ReadLog, with_read}
use Rattle.goasm_run.specs.declared.stop.Stop.{Stop}
use Rattle.goasm_run.specs.declared.stop.Stop.TheVariants as stops
use Rattle.goasm_run.specs.Changes.{ShelfChange, FailsToRead, ReadsAll}
use Rattle.goasm_run.specs.Endings.{Ending, Text, Refusal}
use Rattle.goasm_run.specs.Plan.{Plan, Tell, Refuse, Malformed, ComesTo, MakesReads, EndsIn, StopsAt}

-- a read of this name gave these bytes
pub record IsRead (shelf : ShelfChange) (name : List ℕ) (limit : ℕ) (bytes : List ℕ) : Type 0 where
  pub given : Reads shelf.holds name limit bytes
  pub short : length bytes ≤ limit + 1
  pub unfailed : ReadsAll shelf
  pub asked : shelf.reads_now ≡ with_read name shelf.reads_before

-- a read of this name ended so
abbrev pub ReadStopped : ShelfChange → List ℕ → Stop → Type 0
ReadStopped shelf name (stops.Refused line) = ⊥
ReadStopped shelf name stops.Words = ⊥
ReadStopped shelf name stops.Memory =
    (shelf.reads_now ≡ shelf.reads_before) ⊎ (shelf.reads_now ≡ with_read name shelf.reads_before)
ReadStopped shelf name (stops.Unread file) =
    (file ≡ name) × FailsToRead shelf name × (shelf.reads_now ≡ with_read name shelf.reads_before)

-- an answer that reads nothing ended so
abbrev pub AnswerStopped : Plan → Stop → Type 0
AnswerStopped plan (stops.Refused line) = plan ≡ Refuse line
AnswerStopped plan stops.Words = ⊥
AnswerStopped plan stops.Memory = Unit {0}
AnswerStopped plan (stops.Unread file) = ⊥

-- an answer that reads nothing is the plan's
pub record Gives (plan : Plan) (result : Result (List ℕ) Stop) : Type 0 where
  pub text : IfOk result (λ text. plan ≡ Tell text)
  pub stopped : IfErr result (AnswerStopped plan)

-- a plan that reads nothing comes to this ending, whatever the shelf holds and was asked for
abbrev pub ComesAtOnce : Plan → Ending → Type 0
ComesAtOnce plan ending =
    (told : Option Files) (before now : ReadLog) → now ≡ before → ComesTo told plan before now ending

abbrev pub EndStopped : Plan → Stop → Type 0
EndStopped plan (stops.Refused line) = ComesAtOnce plan (Refusal line)
EndStopped plan stops.Words = ⊥
EndStopped plan stops.Memory = Unit {0}
EndStopped plan (stops.Unread file) = ⊥

-- an answer that reads nothing is one to which the plan comes
pub record Settles (plan : Plan) (result : Result (List ℕ) Stop) : Type 0 where
  pub text : IfOk result (λ text. ComesAtOnce plan (Text text))
  pub stopped : IfErr result (EndStopped plan)

-- a command of this plan ended so
abbrev pub Stopped : ShelfChange → Plan → Stop → Type 0
Stopped shelf plan (stops.Refused line) = EndsIn shelf plan (Refusal line)
Stopped shelf plan stops.Words = ⊥
Stopped shelf plan stops.Memory = MakesReads shelf plan
Stopped shelf plan (stops.Unread name) = StopsAt shelf plan name

-- a command's answer is the plan's
pub record Answers (shelf : ShelfChange) (plan : Plan) (result : Result (List ℕ) Stop) : Type 0 where
  pub text : IfOk result (λ text. EndsIn shelf plan (Text text))
  pub stopped : IfErr result (Stopped shelf plan)

-- the answer to the words is the plan's; to see that they have no command's form takes no read and no memory
pub record AnswersWords (shelf : ShelfChange) (plan : Plan) (result : Result (List ℕ) Stop) : Type 0 where
  pub answers : plan ≢ Malformed → Answers shelf plan result
  pub words : plan ≡ Malformed → (result ≡ Err stops.Words) × (shelf.reads_now ≡ shelf.reads_before)
