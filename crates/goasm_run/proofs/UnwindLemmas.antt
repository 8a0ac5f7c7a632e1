-- The plan of a call chain ends as image and dump are judged.
use Rattle.std.proofs.Common.{◌≡◌, ◌<◌, ◌≤◌, ℕ, List, Option, length, Result, Ok, Err, IfOk, IfErr, inl, inr, sym, ap, refl}
use Rattle.std.proofs.lemmas.Bool.{le-ltb, lt-ltb}
use Rattle.image_rules.specs.Machine.{Machine}
use Rattle.image_rules.specs.Sound.{IsSoundImage}
use Rattle.goasm_run.specs.declared.architecture.Architecture.{Architecture}
use Rattle.goasm_run.specs.declared.architecture.Architecture.TheVariants.{Amd64}
use Rattle.goasm_run.specs.declared.stop.Stop.{Stop}
use Rattle.goasm_run.specs.declared.stop.Stop.TheVariants as stops
use Rattle.goasm_run.specs.ChainsJudged.{JudgeStopped}
use Rattle.goasm_run.specs.Endings.{Text}
use Rattle.goasm_run.specs.Images.{architecture_in}
use Rattle.goasm_run.specs.ImagesJudged.{ImageStopped}
use Rattle.goasm_run.specs.Limits.{image_limit}
use Rattle.goasm_run.specs.Lines.{too_long_line}
use Rattle.goasm_run.specs.Plan.{Plan, Refuse, Pose}
use Rattle.goasm_run.specs.Questions.{IsDumpJudged, IsUnwound}
use Rattle.goasm_run.specs.Questions as question
use Rattle.goasm_run.specs.Stops.{Settles}
use Rattle.goasm_run.specs.Targets.{amd64_machine}
use Rattle.goasm_run.specs.Unwind.{unwind_answer, unwind_for}
use Rattle.goasm_run.proofs.ImageLemmas.{settles_same}

-- the plan, by the length of the image and by its architecture

pub too_long : (name dump_name image dump : List ℕ) → image_limit < length image
    → unwind_answer name dump_name image dump ≡ Refuse (too_long_line name)
unfolding unwind_answer
too_long name dump_name image dump long = rw (lt-ltb image_limit (length image) long) refl

pub short_enough : (name dump_name image dump : List ℕ) (found : Option Architecture) → length image ≤ image_limit
    → found ≡ architecture_in image → unwind_answer name dump_name image dump ≡ unwind_for name dump_name image dump found
unfolding unwind_answer
short_enough name dump_name image dump found short is =
    rw (le-ltb image_limit (length image) short) (ap (unwind_for name dump_name image dump) (sym is))

-- the judgement of the image, and then of the dump

module _ {Instr : Type 0} (machine : Machine Instr) (name dump_name image dump : List ℕ) where
  pub over_unsound : (stop : Stop) → ImageStopped machine name image stop → JudgeStopped (IsUnwound machine name dump_name image dump) stop
  over_unsound (stops.Refused line) stopped = inl (line, stopped, refl)
  over_unsound stops.Words stopped = stopped
  over_unsound stops.Memory stopped = tt
  over_unsound (stops.Unread file) stopped = stopped

  pub text_over_sound : (result : Result (List ℕ) Stop) → IsSoundImage machine image
      → IfOk result (λ text. IsDumpJudged machine dump_name image dump (Text text))
      → IfOk result (λ text. IsUnwound machine name dump_name image dump (Text text))
  text_over_sound (Ok text) sound judged = inr (sound, judged)
  text_over_sound (Err stop) sound judged = tt

  judge_over_sound : (stop : Stop) → IsSoundImage machine image → JudgeStopped (IsDumpJudged machine dump_name image dump) stop
      → JudgeStopped (IsUnwound machine name dump_name image dump) stop
  judge_over_sound (stops.Refused line) sound stopped = inr (sound, stopped)
  judge_over_sound stops.Words sound stopped = stopped
  judge_over_sound stops.Memory sound stopped = tt
  judge_over_sound (stops.Unread file) sound stopped = stopped

  pub stopped_over_sound : (result : Result (List ℕ) Stop) → IsSoundImage machine image
      → IfErr result (JudgeStopped (IsDumpJudged machine dump_name image dump))
      → IfErr result (JudgeStopped (IsUnwound machine name dump_name image dump))
  stopped_over_sound (Ok text) sound stopped = tt
  stopped_over_sound (Err stop) sound stopped = judge_over_sound stop sound stopped

-- a question of a call chain is answered

settles_judged : (name dump_name image dump : List ℕ) (result : Result (List ℕ) Stop)
    → IfOk result (λ text. IsUnwound amd64_machine name dump_name image dump (Text text))
    → IfErr result (JudgeStopped (IsUnwound amd64_machine name dump_name image dump))
    → Settles (Pose (question.Chain Amd64 name dump_name image dump)) result
settles_judged name dump_name image dump (Ok text) judged stopped =
    record { text = λ told before now stays. (tt, judged, stays); stopped = tt }
settles_judged name dump_name image dump (Err (stops.Refused line)) judged stopped =
    record { text = tt; stopped = λ told before now stays. (tt, stopped, stays) }
settles_judged name dump_name image dump (Err stops.Words) judged stopped = record { text = tt; stopped = stopped }
settles_judged name dump_name image dump (Err stops.Memory) judged stopped = record { text = tt; stopped = tt }
settles_judged name dump_name image dump (Err (stops.Unread file)) judged stopped = record { text = tt; stopped = stopped }

pub settles_chain : (plan : Plan) (name dump_name image dump : List ℕ) (result : Result (List ℕ) Stop)
    → plan ≡ Pose (question.Chain Amd64 name dump_name image dump)
    → IfOk result (λ text. IsUnwound amd64_machine name dump_name image dump (Text text))
    → IfErr result (JudgeStopped (IsUnwound amd64_machine name dump_name image dump)) → Settles plan result
settles_chain plan name dump_name image dump result is judged stopped =
    settles_same plan (Pose (question.Chain Amd64 name dump_name image dump)) result is
    (settles_judged name dump_name image dump result judged stopped)
