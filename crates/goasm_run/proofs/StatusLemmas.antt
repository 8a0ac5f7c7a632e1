use Rattle.std.proofs.Common.{◌≡◌, ◌≢◌, ◌⊎◌, ℕ, List, Some, Result, Ok, Err, inl, inr, refl, sym, ap, ◌∙◌, arith}
use Rattle.goasm_base.specs.Shelf.{Files}
use Rattle.goasm_base.specs.Sink.{with_more}
use Rattle.goasm_run.specs.declared.stop.Stop.{Stop}
use Rattle.goasm_run.specs.declared.stop.Stop.TheVariants as stops
use Rattle.goasm_run.specs.Changes.{ShelfChange, SinkChange, Takes, FailsToTake, TakesNothing}
use Rattle.goasm_run.specs.Endings.{Text, Refusal}
use Rattle.goasm_run.specs.Plan.{Plan, Ask, Tell, Refuse, Pose, Malformed, EndsIn, StopsAt, MakesReads, EndsOver}
use Rattle.goasm_run.specs.Questions.{HaveOneAnswer}
use Rattle.goasm_run.specs.Stops.{Stopped, AnswersWords}
use Rattle.goasm_run.specs.Statuses.{SaysWhy, SaysRefusal, SaysWords, SaysMemory, SaysUnread, ErrFailed, KeptBack, NoMemory, NoFile, NoLine, IsToldBy, Told}
use Rattle.goasm_run.proofs.PlanLemmas.{no_text, one_refusal, malformed_untold, malformed_unended, malformed_unrefused, malformed_unread, ends_makes, stops_makes}

-- the words' command ended so, or they have no command's form
abbrev pub WordsStopped : ShelfChange → Plan → Stop → Type 0
WordsStopped shelf plan (stops.Refused line) = EndsIn shelf plan (Refusal line)
WordsStopped shelf plan stops.Words = (plan ≡ Malformed) × (shelf.reads_now ≡ shelf.reads_before)
WordsStopped shelf plan stops.Memory = (plan ≢ Malformed) × MakesReads shelf plan
WordsStopped shelf plan (stops.Unread name) = StopsAt shelf plan name

is_malformed : (plan : Plan) → (plan ≡ Malformed) ⊎ (plan ≢ Malformed)
is_malformed (Ask name limit next) = inr (λ is. cc)
is_malformed (Tell text) = inr (λ is. cc)
is_malformed (Refuse line) = inr (λ is. cc)
is_malformed (Pose question) = inr (λ is. cc)
is_malformed Malformed = inl refl

no_text_there : (text : List ℕ) (stop : Stop) (result : Result (List ℕ) Stop) → result ≡ Ok text → result ≡ Err stop → ⊥
no_text_there text stop result is other = cc

same_stop : (stop other : Stop) (result : Result (List ℕ) Stop) → result ≡ Err stop → result ≡ Err other → stop ≡ other
same_stop stop other result is that = cc

pub text_ends : (shelf : ShelfChange) (plan : Plan) (text : List ℕ)
    → AnswersWords shelf plan (Ok text) → EndsIn shelf plan (Text text)
text_ends shelf plan text answers =
    elim (is_malformed plan) [
      | inl is ↦ absurd (no_text_there text stops.Words (Ok text) refl (answers.words is).0)
      | inr formed ↦ (answers.answers formed).text
    ]

formed_stopped : (shelf : ShelfChange) (plan : Plan) (stop : Stop)
    → plan ≢ Malformed → Stopped shelf plan stop → WordsStopped shelf plan stop
formed_stopped shelf plan (stops.Refused line) formed stopped = stopped
formed_stopped shelf plan stops.Words formed stopped = absurd stopped
formed_stopped shelf plan stops.Memory formed stopped = (formed, stopped)
formed_stopped shelf plan (stops.Unread name) formed stopped = stopped

malformed_stopped : (shelf : ShelfChange) (plan : Plan) (stop : Stop)
    → plan ≡ Malformed → stop ≡ stops.Words → shelf.reads_now ≡ shelf.reads_before → WordsStopped shelf plan stop
malformed_stopped shelf plan stop is words same = rw words (is, same)

pub words_stopped : (shelf : ShelfChange) (plan : Plan) (stop : Stop)
    → AnswersWords shelf plan (Err stop) → WordsStopped shelf plan stop
words_stopped shelf plan stop answers =
    elim (is_malformed plan) [
      | inl is ↦
          malformed_stopped shelf plan stop is (same_stop stop stops.Words (Err stop) refl (answers.words is).0) (answers.words is).1
      | inr formed ↦ formed_stopped shelf plan stop formed (answers.answers formed).stopped
    ]

-- the line that tells a stop says why there is no text
says_why : (shelf : ShelfChange) (plan : Plan) (stop : Stop) (status : ℕ) (line : List ℕ)
    → WordsStopped shelf plan stop → IsToldBy stop status line → SaysWhy shelf plan line
says_why shelf plan (stops.Refused said) status line stopped told = SaysRefusal (rw told.1 stopped)
says_why shelf plan stops.Words status line stopped told = SaysWords stopped.0 told.1
says_why shelf plan stops.Memory status line stopped told = SaysMemory told.1
says_why shelf plan (stops.Unread name) status line stopped told =
    elim told [ inl unread ↦ SaysUnread name stopped unread.1 | inr memory ↦ SaysMemory memory.1 ]

pub err_failed : (shelf : ShelfChange) (plan : Plan) (out err : SinkChange) (stop : Stop) (status : ℕ) (line : List ℕ)
    → TakesNothing out → WordsStopped shelf plan stop → IsToldBy stop status line → FailsToTake err line
    → ErrFailed shelf plan out err
err_failed shelf plan out err stop status line unwritten stopped told failed = record {
  line = line;
  why = says_why shelf plan stop status line stopped told;
  fails = failed;
  unwritten = unwritten;
}

-- want of memory is told by 3, or the standard error failed
memory_kept : (shelf : ShelfChange) (plan : Plan) (out err : SinkChange) (result : ℕ)
    → TakesNothing out → WordsStopped shelf plan stops.Memory → Told err stops.Memory result
    → KeptBack result shelf plan out err
memory_kept shelf plan out err result unwritten stopped told =
    elim told.3 [
      | inl taken ↦ NoMemory (taken.0 ∙ told.2.0)
      | inr failed ↦ NoLine failed.0 (err_failed shelf plan out err stops.Memory told.0 told.1 unwritten stopped told.2 failed.1)
    ]

-- a read that failed is told by 4, or by 3 where there is no memory for its line, or the standard error failed
unread_told : (shelf : ShelfChange) (plan : Plan) (out err : SinkChange) (name : List ℕ) (result status : ℕ) (line : List ℕ)
    → StopsAt shelf plan name → result ≡ status → IsToldBy (stops.Unread name) status line → KeptBack result shelf plan out err
unread_told shelf plan out err name result status line stopped is told =
    elim told [ inl unread ↦ NoFile name (is ∙ unread.0) stopped | inr memory ↦ NoMemory (is ∙ memory.0) ]

unread_kept : (shelf : ShelfChange) (plan : Plan) (out err : SinkChange) (name : List ℕ) (result : ℕ)
    → TakesNothing out → StopsAt shelf plan name → Told err (stops.Unread name) result → KeptBack result shelf plan out err
unread_kept shelf plan out err name result unwritten stopped told =
    elim told.3 [
      | inl taken ↦ unread_told shelf plan out err name result told.0 told.1 stopped taken.0 told.2
      | inr failed ↦ NoLine failed.0 (err_failed shelf plan out err (stops.Unread name) told.0 told.1 unwritten stopped told.2 failed.1)
    ]

-- where the words have a text, only want of memory, a read that failed or a failing sink keep it back
pub kept_back : HaveOneAnswer → (shelf : ShelfChange) (plan : Plan) (out err : SinkChange) (files : Files) (text : List ℕ)
    (stop : Stop) (result : ℕ)
    → shelf.holds ≡ Some files → EndsOver files plan (Text text)
    → TakesNothing out → WordsStopped shelf plan stop → Told err stop result → KeptBack result shelf plan out err
kept_back one shelf plan out err files text (stops.Refused line) result tells is unwritten stopped told =
    absurd (no_text one shelf files plan line text tells stopped is)
kept_back one shelf plan out err files text stops.Words result tells is unwritten stopped told =
    absurd (malformed_untold files plan text stopped.0 is)
kept_back one shelf plan out err files text stops.Memory result tells is unwritten stopped told =
    memory_kept shelf plan out err result unwritten stopped told
kept_back one shelf plan out err files text (stops.Unread name) result tells is unwritten stopped told =
    unread_kept shelf plan out err name result unwritten stopped told

-- where the input meets a refusal, its line is told, or the same keep it back
pub refusal_told : HaveOneAnswer → (shelf : ShelfChange) (plan : Plan) (out err : SinkChange) (files : Files) (line : List ℕ)
    (stop : Stop) (result : ℕ)
    → shelf.holds ≡ Some files → EndsOver files plan (Refusal line)
    → TakesNothing out → WordsStopped shelf plan stop → Told err stop result
    → ((result ≡ 1) × Takes err line) ⊎ KeptBack result shelf plan out err
refusal_told one shelf plan out err files line (stops.Refused said) result tells is unwritten stopped told =
    let same : said ≡ line = one_refusal one shelf files plan said line tells stopped is in
    let shown : told.1 ≡ line = told.2.1 ∙ same in
    elim told.3 [
      | inl taken ↦ inl (taken.0 ∙ told.2.0, taken.1 ∙ ap (λ l. with_more err.taken_before l) shown)
      | inr failed ↦ inr (NoLine failed.0 (err_failed shelf plan out err (stops.Refused said) told.0 told.1 unwritten stopped told.2 failed.1))
    ]
refusal_told one shelf plan out err files line stops.Words result tells is unwritten stopped told =
    absurd (malformed_unended files plan line stopped.0 is)
refusal_told one shelf plan out err files line stops.Memory result tells is unwritten stopped told =
    inr (memory_kept shelf plan out err result unwritten stopped told)
refusal_told one shelf plan out err files line (stops.Unread name) result tells is unwritten stopped told =
    inr (unread_kept shelf plan out err name result unwritten stopped told)

-- words of no form are told by 2, or the standard error failed
pub words_told : (shelf : ShelfChange) (plan : Plan) (err : SinkChange) (stop : Stop) (result : ℕ)
    → plan ≡ Malformed → WordsStopped shelf plan stop → Told err stop result → (result ≡ 2) ⊎ (result ≡ 5)
words_told shelf plan err (stops.Refused line) result is stopped told =
    absurd (malformed_unrefused shelf plan line is stopped)
words_told shelf plan err stops.Words result is stopped told =
    elim told.3 [ inl taken ↦ inl (taken.0 ∙ told.2.0) | inr failed ↦ inr failed.0 ]
words_told shelf plan err stops.Memory result is stopped told = absurd (stopped.0 is)
words_told shelf plan err (stops.Unread name) result is stopped told =
    absurd (malformed_unread shelf plan name is stopped)

-- a stop comes after some reads of the plan
pub stopped_makes : (shelf : ShelfChange) (plan : Plan) (stop : Stop) → WordsStopped shelf plan stop → MakesReads shelf plan
stopped_makes shelf plan (stops.Refused line) stopped = ends_makes shelf plan (Refusal line) stopped
stopped_makes shelf plan stops.Words stopped = inl stopped.1
stopped_makes shelf plan stops.Memory stopped = stopped.1
stopped_makes shelf plan (stops.Unread name) stopped = stops_makes shelf plan name stopped

-- of the statuses that tell a stop none is 5
not_five : (stop : Stop) (status : ℕ) (line : List ℕ) → IsToldBy stop status line → status ≡ 5 → ⊥
not_five (stops.Refused said) status line told five = omega arith
not_five stops.Words status line told five = omega arith
not_five stops.Memory status line told five = omega arith
not_five (stops.Unread name) status line told five = elim told [ inl unread ↦ omega arith | inr memory ↦ omega arith ]

-- status 5 comes where the standard error failed
pub unsaid : (shelf : ShelfChange) (plan : Plan) (out err : SinkChange) (stop : Stop) (result : ℕ)
    → TakesNothing out → WordsStopped shelf plan stop → Told err stop result → result ≡ 5 → ErrFailed shelf plan out err
unsaid shelf plan out err stop result unwritten stopped told five =
    elim told.3 [
      | inl taken ↦ absurd (not_five stop told.0 told.1 told.2 (sym taken.0 ∙ five))
      | inr failed ↦ err_failed shelf plan out err stop told.0 told.1 unwritten stopped told.2 failed.1
    ]
