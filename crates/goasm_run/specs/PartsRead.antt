-- How reading the files of a list goes on, line by line.
use Rattle.std.specs.Prelude.{◌≡◌, ◌⊎◌, ◌<◌, ◌≤◌, ℕ, suc, List, [], ◌∷◌, length, All, Option}
use Rattle.goasm_base.specs.Lines.{last_line}
use Rattle.goasm_base.specs.Shelf.{Files, ReadLog}
use Rattle.goasm_list.specs.declared.line.ListLine.{ListLine}
use Rattle.goasm_run.specs.declared.part.Part.{Part}
use Rattle.goasm_run.specs.declared.stop.Stop.{Stop}
use Rattle.goasm_run.specs.declared.stop.Stop.TheVariants as stops
use Rattle.goasm_run.specs.Changes.{ShelfChange, FailsToRead}
use Rattle.goasm_run.specs.Endings.{Ending}
use Rattle.goasm_run.specs.Plan.{Plan, ComesTo, AsksFor, MakesSome, MakesReads}
use Rattle.goasm_run.specs.Parts.{ask_parts}
use Rattle.goasm_run.specs.Sources.{names_of}

-- A plan leads to what is left of it, by reads that the shelf answered, which lead from one log to another. So what comes
-- of the rest comes of the plan.
pub record LeadsTo (told : Option Files) (plan : Plan) (before : ReadLog) (rest : Plan) (between : ReadLog) : Type 0 where
  pub comes : (now : ReadLog) (ending : Ending) → ComesTo told rest between now ending → ComesTo told plan before now ending
  pub asks : (now : ReadLog) (name : List ℕ) → AsksFor told rest between now name → AsksFor told plan before now name
  pub makes : (now : ReadLog) → MakesSome told rest between now → MakesSome told plan before now
  pub made : (between ≡ before) ⊎ MakesSome told plan before between

-- A line leads from parts that there are to others, with the number of the next file.
abbrev pub LineLeads : Option Files → ListLine → ℕ → List Part → ReadLog → ℕ → List Part → ReadLog → Type 0
LineLeads told line number parts before number_now parts_now between =
    (lines : List ListLine) (next : List Part → Plan)
    → LeadsTo told (ask_parts number (line ∷ lines) parts next) before (ask_parts number_now lines parts_now next) between

-- the parts that are files have the numbers below this one, from 1, and each part has a line up to the greatest one
pub record NumbersUpTo (number : ℕ) (parts : List Part) : Type 0 where
  pub count : number ≡ suc (length (names_of parts))
  pub below : All (λ part. part.file < number) parts
  pub lines : All (λ part. part.line ≤ last_line) parts

-- reading the file of a line ended so
abbrev pub LineStopped : ShelfChange → ListLine → ℕ → List Part → Stop → Type 0
LineStopped shelf line number parts (stops.Refused said) = ⊥
LineStopped shelf line number parts stops.Words = ⊥
LineStopped shelf line number parts stops.Memory =
    (lines : List ListLine) (next : List Part → Plan) → MakesReads shelf (ask_parts number (line ∷ lines) parts next)
LineStopped shelf line number parts (stops.Unread name) =
    ((lines : List ListLine) (next : List Part → Plan)
    → AsksFor shelf.holds (ask_parts number (line ∷ lines) parts next) shelf.reads_before shelf.reads_now name)
    × FailsToRead shelf name

-- reading the files of all lines ended so
abbrev pub PartsStopped : ShelfChange → List ListLine → Stop → Type 0
PartsStopped shelf lines (stops.Refused said) = ⊥
PartsStopped shelf lines stops.Words = ⊥
PartsStopped shelf lines stops.Memory = (next : List Part → Plan) → MakesReads shelf (ask_parts 1 lines [] next)
PartsStopped shelf lines (stops.Unread name) =
    ((next : List Part → Plan) → AsksFor shelf.holds (ask_parts 1 lines [] next) shelf.reads_before shelf.reads_now name)
    × FailsToRead shelf name
