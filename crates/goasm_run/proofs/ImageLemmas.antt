-- The plan of an image ends as the image is judged.
use Rattle.std.proofs.Common.{◌≡◌, ◌<◌, ◌≤◌, ℕ, List, Option, length, Result, Ok, Err, IfOk, IfErr, sym, ap, subst, refl}
use Rattle.std.proofs.lemmas.Bool.{le-ltb, lt-ltb}
use Rattle.goasm_run.specs.declared.architecture.Architecture.{Architecture}
use Rattle.goasm_run.specs.declared.architecture.Architecture.TheVariants.{Amd64}
use Rattle.goasm_run.specs.declared.image_text.ImageText.{ImageText}
use Rattle.goasm_run.specs.declared.stop.Stop.{Stop}
use Rattle.goasm_run.specs.declared.stop.Stop.TheVariants as stops
use Rattle.goasm_run.specs.Endings.{Text, Refusal}
use Rattle.goasm_run.specs.Images.{architecture_in, image_answer, image_for}
use Rattle.goasm_run.specs.ImagesJudged.{ImageStopped}
use Rattle.goasm_run.specs.Limits.{image_limit}
use Rattle.goasm_run.specs.Lines.{too_long_line}
use Rattle.goasm_run.specs.Plan.{Plan, Refuse, Pose}
use Rattle.goasm_run.specs.Questions.{IsJudged}
use Rattle.goasm_run.specs.Questions as question
use Rattle.goasm_run.specs.Stops.{Settles}
use Rattle.goasm_run.specs.Targets.{amd64_machine}

-- the plan, by the length of what was read and by the architecture

pub too_long : (said : ImageText) (name bytes : List ℕ) → image_limit < length bytes → image_answer said name bytes ≡ Refuse (too_long_line name)
unfolding image_answer
too_long said name bytes long = rw (lt-ltb image_limit (length bytes) long) refl

pub short_enough : (said : ImageText) (name bytes : List ℕ) (found : Option Architecture) → length bytes ≤ image_limit
    → found ≡ architecture_in bytes → image_answer said name bytes ≡ image_for said name bytes found
unfolding image_answer
short_enough said name bytes found short is = rw (le-ltb image_limit (length bytes) short) (ap (image_for said name bytes) (sym is))

pub settles_same : (plan other : Plan) (result : Result (List ℕ) Stop) → plan ≡ other → Settles other result → Settles plan result
settles_same plan other result same settles = subst (λ (p : Plan). Settles p result) (sym same) settles

pub settles_refused : (plan : Plan) (line said : List ℕ) → plan ≡ Refuse line → said ≡ line → Settles plan (Err (stops.Refused said))
settles_refused plan line said is same =
    settles_same plan (Refuse line) (Err (stops.Refused said)) is
    (record { text = tt; stopped = λ told before now stays. (ap Refusal (sym same), stays) })

-- a question of an image is answered

settles_judged : (said : ImageText) (name bytes : List ℕ) (result : Result (List ℕ) Stop)
    → IfOk result (λ text. IsJudged amd64_machine said name bytes (Text text)) → IfErr result (ImageStopped amd64_machine name bytes)
    → Settles (Pose (question.Image Amd64 said name bytes)) result
settles_judged said name bytes (Ok text) judged stopped =
    record { text = λ told before now stays. (tt, judged, stays); stopped = tt }
settles_judged said name bytes (Err (stops.Refused line)) judged stopped =
    record { text = tt; stopped = λ told before now stays. (tt, stopped, stays) }
settles_judged said name bytes (Err stops.Words) judged stopped = record { text = tt; stopped = stopped }
settles_judged said name bytes (Err stops.Memory) judged stopped = record { text = tt; stopped = tt }
settles_judged said name bytes (Err (stops.Unread file)) judged stopped = record { text = tt; stopped = stopped }

pub settles_image : (plan : Plan) (said : ImageText) (name bytes : List ℕ) (result : Result (List ℕ) Stop)
    → plan ≡ Pose (question.Image Amd64 said name bytes)
    → IfOk result (λ text. IsJudged amd64_machine said name bytes (Text text)) → IfErr result (ImageStopped amd64_machine name bytes)
    → Settles plan result
settles_image plan said name bytes result is judged stopped =
    settles_same plan (Pose (question.Image Amd64 said name bytes)) result is (settles_judged said name bytes result judged stopped)
