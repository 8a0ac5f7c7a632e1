-- What words ask for: which files are read, in which order and up to which length, and then a text or a refusal.
use Rattle.std.specs.Prelude.{◌≡◌, ◌⊎◌, ℕ, List, ◌+◌, ◌≤◌, length, Option, Some}
use Rattle.goasm_base.specs.Shelf.{Files, read_of, Reads, ReadLog, with_read}
use Rattle.goasm_run.specs.Changes.{ShelfChange, FailsToRead, ReadsAll}
use Rattle.goasm_run.specs.Endings.{Ending, Text, Refusal, NoForm}
use Rattle.goasm_run.specs.Questions.{Question, IsSound, IsAnswer}

pub data Plan : Type 0 where
  -- read the first bytes of the named file, one more than its limit, and go on by them
  Ask : (name : List ℕ) (limit : ℕ) (next : List ℕ → Plan) → Plan
  -- write this text
  Tell : (text : List ℕ) → Plan
  -- the input meets a refusal, whose line this is
  Refuse : (line : List ℕ) → Plan
  -- end as this question is answered
  Pose : (question : Question) → Plan
  -- the words have no command's form
  Malformed : Plan

-- Below, the reads of a plan lead from the log `before` to the log `now`: each is one read more, of the name that the plan
-- asks for. So none is tried again, none is left out, they come in the plan's order, and no other file is read.

-- a plan may come to an ending over some answers of the shelf; where the shelf tells its files, the answers are
-- what these hold, and the ending is the one that it has over them
abbrev pub ComesTo : Option Files → Plan → ReadLog → ReadLog → Ending → Type 0
ComesTo told (Ask name limit next) before now ending =
    (bytes : List ℕ) × Reads told name limit bytes × (length bytes ≤ limit + 1)
    × ComesTo told (next bytes) (with_read name before) now ending
ComesTo told (Tell text) before now ending = (Text text ≡ ending) × (now ≡ before)
ComesTo told (Refuse line) before now ending = (Refusal line ≡ ending) × (now ≡ before)
ComesTo told (Pose question) before now ending = IsSound question × IsAnswer question ending × (now ≡ before)
ComesTo told Malformed before now ending = (NoForm ≡ ending) × (now ≡ before)

-- a plan comes to ask for a file of this name, after reads that the shelf answered; that read is the last one
abbrev pub AsksFor : Option Files → Plan → ReadLog → ReadLog → List ℕ → Type 0
AsksFor told (Ask asked limit next) before now name =
    ((asked ≡ name) × (now ≡ with_read asked before))
    ⊎ ((bytes : List ℕ) × Reads told asked limit bytes × (length bytes ≤ limit + 1)
    × AsksFor told (next bytes) (with_read asked before) now name)
AsksFor told (Tell text) before now name = ⊥
AsksFor told (Refuse line) before now name = ⊥
AsksFor told (Pose question) before now name = ⊥
AsksFor told Malformed before now name = ⊥

-- a plan makes its first reads, one at least; the shelf answered all of them but the last, of which nothing is said
abbrev pub MakesSome : Option Files → Plan → ReadLog → ReadLog → Type 0
MakesSome told (Ask name limit next) before now =
    (now ≡ with_read name before)
    ⊎ ((bytes : List ℕ) × Reads told name limit bytes × (length bytes ≤ limit + 1)
    × MakesSome told (next bytes) (with_read name before) now)
MakesSome told (Tell text) before now = ⊥
MakesSome told (Refuse line) before now = ⊥
MakesSome told (Pose question) before now = ⊥
MakesSome told Malformed before now = ⊥

-- the reads that a call made are the first ones of the plan, or there was none
abbrev pub MakesReads : ShelfChange → Plan → Type 0
MakesReads shelf plan =
    (shelf.reads_now ≡ shelf.reads_before) ⊎ MakesSome shelf.holds plan shelf.reads_before shelf.reads_now

-- a call made all reads of the plan, none of which failed, and came to this ending
abbrev pub EndsIn : ShelfChange → Plan → Ending → Type 0
EndsIn shelf plan ending =
    ComesTo shelf.holds plan shelf.reads_before shelf.reads_now ending × ReadsAll shelf

-- a call made the reads of the plan up to one of this name, which failed
abbrev pub StopsAt : ShelfChange → Plan → List ℕ → Type 0
StopsAt shelf plan name =
    AsksFor shelf.holds plan shelf.reads_before shelf.reads_now name × FailsToRead shelf name

-- a plan ends so over these files; it has no ending where a file is asked for that they don't have
abbrev pub EndsOver : Files → Plan → Ending → Type 0
EndsOver files (Ask name limit next) ending =
    (bytes : List ℕ) × (read_of files name limit ≡ Some bytes) × EndsOver files (next bytes) ending
EndsOver files (Tell text) ending = Text text ≡ ending
EndsOver files (Refuse line) ending = Refusal line ≡ ending
EndsOver files (Pose question) ending = IsAnswer question ending
EndsOver files Malformed ending = NoForm ≡ ending
