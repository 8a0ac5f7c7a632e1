-- Why an image is not accepted.
use Rattle.std.specs.Prelude.{ℕ, List}
use Rattle.image_rules.specs.Machine.{Machine}
use Rattle.goasm_run.specs.declared.stop.Stop.{Stop}
use Rattle.goasm_run.specs.declared.stop.Stop.TheVariants as stops
use Rattle.goasm_run.specs.Questions.{IsUnsound}

-- an image is refused for a reason that its line tells, or memory is wanting
abbrev pub ImageStopped : {Instr : Type 0} → Machine Instr → List ℕ → List ℕ → Stop → Type 0
ImageStopped machine name bytes (stops.Refused line) = IsUnsound machine name bytes line
ImageStopped machine name bytes stops.Words = ⊥
ImageStopped machine name bytes stops.Memory = Unit {0}
ImageStopped machine name bytes (stops.Unread file) = ⊥
