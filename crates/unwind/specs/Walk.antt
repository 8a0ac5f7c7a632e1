-- The walk of a stack: from the registers of a machine and the words of its memory to the calls that were made and haven't returned.
use Rattle.std.specs.Prelude.{◌≡◌, ℕ, ◌+◌, ◌-◌, ◌^◌, ◌<◌, ◌==◌, Bool, nat_le, List, [], ◌∷◌, Option, Some, None, if◌then◌else◌}
use Rattle.asm_target.specs.FlowFunction.{Range, is_within}
use Rattle.unwind.specs.declared.stage.Place.{Place}
use Rattle.unwind.specs.declared.stage.Stage.{Stage}
use Rattle.unwind.specs.declared.stage.Stage.TheVariants as stages
use Rattle.image_check.specs.declared.seen.Seen.{Seen}
use Rattle.image_check.specs.declared.seen.UnwindNo.TheVariants.{U1, U2, U3, U4, U5}
use Rattle.unwind.specs.declared.walked.Walked.{Walked}
use Rattle.unwind.specs.declared.walked.Walked.TheVariants as answers

-- What a walk looks at in an image: the addresses of its text; the number of the function whose range has an address; whether an
-- instruction begins at an address; the depth of a function at an address; whether a stack ends in a function; the function of the
-- call that ends at an address and is no call of a routine that grows the stack; and whether a call leaves its return address in a
-- register
pub record Looks : Type 0 where
  pub text : Range
  pub function_at : ℕ → Option ℕ
  pub is_start : ℕ → Bool
  pub depth_at : ℕ → ℕ → ℕ
  pub is_top : ℕ → Bool
  pub caller_at : ℕ → Option ℕ
  pub has_link : Bool

-- what is told of a stage that a step led to
abbrev pub answer_at : Stage → Walked
answer_at (stages.Start pc sp link) = answers.End
answer_at (stages.At place) = answers.Frame place.seen
answer_at stages.End = answers.End
answer_at (stages.No refusal) = answers.No refusal

-- how many bytes a call pushes
abbrev pub pushed_by : Bool → ℕ
pushed_by linked = if linked then 0 else 8

-- where a return address stands in memory, by the stack pointer and the depth
abbrev pub place_by : Bool → ℕ → ℕ → ℕ
place_by linked sp depth = if linked then sp else sp + depth

-- the return address: at depth 0 the first frame has it in the link register, where there is one
abbrev pub word_by : (ℕ → Option ℕ) → Option ℕ → ℕ → ℕ → Option ℕ
word_by memory (Some link) at depth = if depth == 0 then Some link else memory at
word_by memory None at depth = memory at

-- no frame comes behind this
abbrev pub IsOver : Stage → Type 0
IsOver (stages.Start pc sp link) = ⊥
IsOver (stages.At place) = ⊥
IsOver stages.End = Unit {0}
IsOver (stages.No refusal) = Unit {0}

module _ (looks : Looks) where
  -- the first frame is that of the function which has the address, and an instruction begins there. The link register counts only there
  abbrev pub begun : Option ℕ → ℕ → ℕ → ℕ → Stage
  begun None pc sp link = stages.No (U1 pc)
  begun (Some func) pc sp link =
      if looks.is_start pc
      then stages.At (record {
        seen = record { func = func; pc = pc; look = pc };
        sp = sp;
        link = if looks.has_link then Some link else None;
      })
      else stages.No (U2 pc)

  -- the caller waits behind its call, with the stack pointer as it was before
  abbrev pub called : Option ℕ → ℕ → ℕ → ℕ → Stage
  called None sp depth word = stages.No (U4 word)
  called (Some func) sp depth word =
      if nat_le (2 ^ 64) (sp + depth + pushed_by looks.has_link) then stages.No (U5 sp depth)
      else stages.At (record {
        seen = record { func = func; pc = word; look = word - 1 };
        sp = sp + depth + pushed_by looks.has_link;
        link = None;
      })

  -- the word is a return address
  abbrev pub returned : ℕ → ℕ → ℕ → Stage
  returned sp depth word = if is_within looks.text word then called (looks.caller_at word) sp depth word else stages.End

  -- the return address was asked for
  abbrev pub asked : ℕ → ℕ → Option ℕ → Stage
  asked sp depth None = stages.No (U3 (place_by looks.has_link sp depth))
  asked sp depth (Some word) = returned sp depth word

  module _ (memory : ℕ → Option ℕ) where
    -- a frame lies below its caller's, by the depth
    abbrev pub behind : Place → ℕ → Stage
    behind place depth =
        if nat_le (2 ^ 64) (place.sp + depth) then stages.No (U5 place.sp depth)
        else asked place.sp depth (word_by memory place.link (place_by looks.has_link place.sp depth) depth)

    -- a walk ends behind a function in which a stack ends, and where a return address lies outside the text
    abbrev pub next_stage : Stage → Stage
    next_stage (stages.Start pc sp link) = begun (looks.function_at pc) pc sp link
    next_stage (stages.At place) =
        if looks.is_top place.seen.func then stages.End else behind place (looks.depth_at place.seen.func place.seen.look)
    next_stage stages.End = stages.End
    next_stage (stages.No refusal) = stages.No refusal

    -- from this stage on a walk gives these frames, and then this answer
    abbrev pub Gives : Stage → List Seen → Walked → Type 0
    Gives from [] last = answer_at (next_stage from) ≡ last
    Gives from (seen ∷ more) last = (answer_at (next_stage from) ≡ answers.Frame seen) × Gives (next_stage from) more last

-- How many frames a walk can still give, at most: the stack pointer of each but the first lies above that of the one before it
abbrev pub left_above : Option ℕ → ℕ → ℕ
left_above (Some link) sp = 2 ^ 64 + 1
left_above None sp = 2 ^ 64 - sp

abbrev pub frames_left : Stage → ℕ
frames_left (stages.Start pc sp link) = 2 ^ 64 + 2
frames_left (stages.At place) = left_above place.link place.sp
frames_left stages.End = 0
frames_left (stages.No refusal) = 0

-- with each frame they get fewer
abbrev pub FallsAt : Stage → Stage → Walked → Type 0
FallsAt before after (answers.Frame seen) = frames_left after < frames_left before
FallsAt before after answers.End = Unit {0}
FallsAt before after (answers.No refusal) = Unit {0}
