-- What a shelf and a sink tell of a call: how they were before it, and how they are now.
use Rattle.std.specs.Prelude.{◌≡◌, ℕ, List, Option}
use Rattle.goasm_base.specs.Shelf.{Files, Rose, ReadLog}
use Rattle.goasm_base.specs.Sink.{with_more, TookPrefix}

pub record ShelfChange : Type 0 where
  -- the files that the shelf holds, where it tells them
  pub holds : Option Files
  -- how many reads of a name failed
  pub faults_before : List ℕ → ℕ
  pub faults_now : List ℕ → ℕ
  -- the reads that were made
  pub reads_before : ReadLog
  pub reads_now : ReadLog

abbrev pub shelf_change : {S : Type 0} (holds : S → Option Files) (faults : S → List ℕ → ℕ) (reads : S → ReadLog) (before now : S) → ShelfChange
shelf_change holds faults reads before now = record {
  holds = holds before;
  faults_before = faults before;
  faults_now = faults now;
  reads_before = reads before;
  reads_now = reads now;
}

-- a read of this name failed
abbrev pub FailsToRead : ShelfChange → List ℕ → Type 0
FailsToRead shelf name = Rose (shelf.faults_before name) (shelf.faults_now name)

-- no read failed
abbrev pub ReadsAll : ShelfChange → Type 0
ReadsAll shelf = (name : List ℕ) → shelf.faults_now name ≡ shelf.faults_before name

pub record SinkChange : Type 0 where
  -- the bytes that the sink took, where it tells them
  pub taken_before : Option (List ℕ)
  pub taken_now : Option (List ℕ)
  -- how many writes failed
  pub faults_before : ℕ
  pub faults_now : ℕ

abbrev pub sink_change : {S : Type 0} (took : S → Option (List ℕ)) (faults : S → ℕ) (before now : S) → SinkChange
sink_change took faults before now = record {
  taken_before = took before;
  taken_now = took now;
  faults_before = faults before;
  faults_now = faults now;
}

-- the sink took all of this text
abbrev pub Takes : SinkChange → List ℕ → Type 0
Takes sink text = sink.taken_now ≡ with_more sink.taken_before text

-- a write of this text failed, after a prefix of it
pub record FailsToTake (sink : SinkChange) (text : List ℕ) : Type 0 where
  pub failed : Rose sink.faults_before sink.faults_now
  pub prefix : TookPrefix sink.taken_before sink.taken_now text

-- the sink took nothing
abbrev pub TakesNothing : SinkChange → Type 0
TakesNothing sink = sink.taken_now ≡ sink.taken_before
