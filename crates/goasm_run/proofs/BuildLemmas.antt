-- The parts of a build, and what is asked of the build.
use Rattle.std.proofs.Common.{◌≡◌, ◌+◌, ◌≤◌, ℕ, List, length, Option, Result, Ok, Err, IsErrAnd, inl, inr, refl, sym, subst, ap, ◌∙◌}
use Rattle.goasm_base.specs.Shelf.{Files, Reads, ReadLog, with_read}
use Rattle.goasm_run.specs.declared.build.Build.{Build}
use Rattle.goasm_run.specs.declared.part.Part.{Part}
use Rattle.goasm_run.specs.declared.stop.Stop.{Stop}
use Rattle.goasm_run.specs.declared.stop.Stop.TheVariants as stops
use Rattle.goasm_run.specs.Builds.{Judge, over_sources, build_answer}
use Rattle.goasm_run.specs.BuildsMade.{Makes, ReadsParts}
use Rattle.goasm_run.specs.Changes.{ShelfChange, shelf_change}
use Rattle.goasm_run.specs.PartsRead.{LeadsTo}
use Rattle.goasm_run.specs.Plan.{Plan, Ask}
use Rattle.goasm_run.specs.Sources.{Sources, file_names, lexed}
use Rattle.goasm_run.specs.Stops.{AnswerStopped, Answers, EndStopped, IsRead, Settles, Stopped}

-- builds that read nothing

pub makes_same : (plan other : Judge → Plan) (result : Result Build Stop)
    → ((judge : Judge) → plan judge ≡ other judge) → Makes other result → Makes plan result
makes_same plan other (Ok build) same makes = record {
  made = λ judge. same judge ∙ makes.made judge;
  expanded = makes.expanded;
  stopped = tt;
}
makes_same plan other (Err stop) same makes = record {
  made = tt;
  expanded = tt;
  stopped = λ judge. subst (λ (p : Plan). AnswerStopped p stop) (sym (same judge)) (makes.stopped judge);
}

pub build_is : (list : List ℕ) (parts : List Part) (names : List (List ℕ)) (found : Sources)
    → names ≡ file_names list parts → lexed names parts ≡ Ok found
    → (judge : Judge) → build_answer judge list parts ≡ over_sources judge names (Ok found)
unfolding build_answer
build_is list parts names found is tokens judge =
    ap (λ (n : List (List ℕ)). over_sources judge n (lexed n parts)) (sym is) ∙ ap (over_sources judge names) tokens

-- what is asked of a build that reads nothing

pub settled_by : (plan rest : Plan) (result : Result (List ℕ) Stop) → plan ≡ rest → Settles rest result → Settles plan result
settled_by plan rest result same settles = subst (λ (p : Plan). Settles p result) (sym same) settles

end_stopped : (plan : Plan) (stop : Stop) → AnswerStopped plan stop → EndStopped plan stop
end_stopped plan (stops.Refused line) stopped = λ told before now same. rw stopped (refl, same)
end_stopped plan stops.Words stopped = stopped
end_stopped plan stops.Memory stopped = tt
end_stopped plan (stops.Unread name) stopped = absurd stopped

pub stop_settles : (plan : Plan) (result : Result (List ℕ) Stop) (stop : Stop)
    → IsErrAnd result (λ y. y ≡ stop) → AnswerStopped plan stop → Settles plan result
stop_settles plan (Ok text) stop is stopped = absurd is
stop_settles plan (Err y) stop is stopped = record { text = tt; stopped = subst (EndStopped plan) (sym is) (end_stopped plan stop stopped) }

-- parts that were not read

pub reading_stopped : (shelf : ShelfChange) (plan : (List Part → Plan) → Plan) (result : Result (List Part) Stop) (stop : Stop)
    → IsErrAnd result (λ y. y ≡ stop) → ((next : List Part → Plan) → Stopped shelf (plan next) stop) → ReadsParts shelf plan result
reading_stopped shelf plan (Ok parts) stop is stopped = absurd is
reading_stopped shelf plan (Err y) stop is stopped = record {
  leads = tt;
  unfailed = tt;
  numbered = tt;
  stopped = λ next. subst (Stopped shelf (plan next)) (sym is) (stopped next);
}

-- behind a read

module _ (told : Option Files) (name : List ℕ) (limit : ℕ) (next : List ℕ → Plan) (bytes : List ℕ) (before mid : ReadLog)
    (given : Reads told name limit bytes) (short : length bytes ≤ limit + 1) (asked : mid ≡ with_read name before) where
  leads_read : (rest : Plan) (between : ReadLog) → LeadsTo told (next bytes) mid rest between
      → LeadsTo told (Ask name limit next) before rest between
  leads_read rest between leads = record {
    comes = λ now ending comes. (bytes, given, short, rw asked at (leads.comes now ending comes));
    asks = λ now file asks. inr (bytes, given, short, rw asked at (leads.asks now file asks));
    makes = λ now makes. inr (bytes, given, short, rw asked at (leads.makes now makes));
    made = elim leads.made [
      | inl same ↦ inr (inl (same ∙ asked))
      | inr some ↦ inr (inr (bytes, given, short, rw asked at some))
    ];
  }

module _ {S : Type 0} (holds : S → Option Files) (faults : S → List ℕ → ℕ) (reads : S → ReadLog) (old mid new : S)
    (name : List ℕ) (limit : ℕ) (bytes : List ℕ) (read : IsRead (shelf_change holds faults reads old mid) name limit bytes)
    (same : holds mid ≡ holds old) where
  stopped_read : (next : List ℕ → Plan) (stop : Stop) → Stopped (shelf_change holds faults reads mid new) (next bytes) stop
      → Stopped (shelf_change holds faults reads old new) (Ask name limit next) stop
  stopped_read next (stops.Refused line) stopped = (
    (bytes, read.given, read.short, rw (same, read.asked) at stopped.0),
    λ file. stopped.1 file ∙ read.unfailed file,
  )
  stopped_read next stops.Words stopped = stopped
  stopped_read next stops.Memory stopped =
      elim stopped [
        | inl none ↦ inr (inl (none ∙ read.asked))
        | inr some ↦ inr (inr (bytes, read.given, read.short, rw (same, read.asked) at some))
      ]
  stopped_read next (stops.Unread file) stopped = (
    inr (bytes, read.given, read.short, rw (same, read.asked) at stopped.0),
    rw (read.unfailed file) at stopped.1,
  )

  pub answers_read : (next : List ℕ → Plan) (result : Result (List ℕ) Stop) → Answers (shelf_change holds faults reads mid new) (next bytes) result
      → Answers (shelf_change holds faults reads old new) (Ask name limit next) result
  answers_read next (Ok text) answers = record {
    text = ((bytes, read.given, read.short, rw (same, read.asked) at answers.text.0), λ file. answers.text.1 file ∙ read.unfailed file);
    stopped = tt;
  }
  answers_read next (Err stop) answers = record { text = tt; stopped = stopped_read next stop answers.stopped }

  pub parts_read : (next : (List Part → Plan) → List ℕ → Plan) (result : Result (List Part) Stop)
      → ReadsParts (shelf_change holds faults reads mid new) (λ asked. next asked bytes) result
      → ReadsParts (shelf_change holds faults reads old new) (λ asked. Ask name limit (next asked)) result
  parts_read next (Ok parts) found = record {
    leads = λ asked. leads_read (holds old) name limit (next asked) bytes (reads old) (reads mid) read.given read.short read.asked
        (asked parts) (reads new) (rw same at (found.leads asked));
    unfailed = λ file. found.unfailed file ∙ read.unfailed file;
    numbered = found.numbered;
    stopped = tt;
  }
  parts_read next (Err stop) found = record {
    leads = tt;
    unfailed = tt;
    numbered = tt;
    stopped = λ asked. stopped_read (next asked) stop (found.stopped asked);
  }
