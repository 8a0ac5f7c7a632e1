-- Why a call chain has no text.
use Rattle.goasm_run.specs.declared.stop.Stop.{Stop}
use Rattle.goasm_run.specs.declared.stop.Stop.TheVariants as stops
use Rattle.goasm_run.specs.Endings.{Ending, Refusal}

-- a judgement ends in a refusal, whose line it tells, or memory is wanting
abbrev pub JudgeStopped : (Ending → Type 0) → Stop → Type 0
JudgeStopped IsEnd (stops.Refused line) = IsEnd (Refusal line)
JudgeStopped IsEnd stops.Words = ⊥
JudgeStopped IsEnd stops.Memory = Unit {0}
JudgeStopped IsEnd (stops.Unread file) = ⊥
