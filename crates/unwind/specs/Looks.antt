-- What a walk looks at in an image, and what it shows of a run's calls.
use Rattle.std.specs.Prelude.{◌≡◌, ℕ, pos, ◌%◌, ◌^◌, ◌==◌, ◌<◌, Bool, true, false, List, [], ◌∷◌, Option, Some, None, IsSome, is_some}
use Rattle.std.specs.Option.{option_and_then}
use Rattle.machine_effect.specs.Memory.{Memory, word_at}
use Rattle.elf_image.specs.Contents.{table_in}
use Rattle.pcvalue.specs.declared.answer.Answer.{Answer}
use Rattle.pcvalue.specs.declared.answer.Answer.TheVariants.{Value}
use Rattle.pclntab.specs.Func.{HasPc, depth_at, file_at, flags_of, func_at, line_at}
use Rattle.flow_rules.specs.Placing.{Surroundings}
use Rattle.image_check.specs.Readers.{instr_among}
use Rattle.image_model.specs.Image.{Image, has_link}
use Rattle.image_model.specs.Joined.{joined}
use Rattle.image_model.specs.Kept.{ChainCall, SlotsStay, chain_of, until}
use Rattle.image_model.specs.Listed.{Listed, text_of}
use Rattle.image_model.specs.Steps.{Moment, link_in, sp_of}
use Rattle.image_rules.specs.Functions.{AreFunctionsOf}
use Rattle.image_rules.specs.Machine.{Machine}
use Rattle.image_rules.specs.Parts.{Surrounds, count_in, entry_in, text_range}
use Rattle.unwind.specs.declared.stage.Place.{Place}
use Rattle.unwind.specs.declared.stage.Stage.{Stage}
use Rattle.unwind.specs.declared.stage.Stage.TheVariants as stages
use Rattle.image_check.specs.declared.seen.Seen.{Seen}
use Rattle.unwind.specs.declared.walked.Walked.{Walked}
use Rattle.unwind.specs.declared.walked.Walked.TheVariants as answers
use Rattle.unwind.specs.Walk.{Gives, Looks}

-- a depth by a table; where it has none, which is nowhere in the code of a sound image, 0
abbrev pub depth_by : Answer → ℕ
depth_by (Value (pos depth)) = depth
depth_by _ = 0

module _ (bytes : List ℕ) where
  -- a stack ends in the function with this number
  abbrev pub is_top : ℕ → Bool
  is_top func = flags_of (table_in bytes) func % 2 == 1

  abbrev pub is_top_of : Option ℕ → Bool
  is_top_of (Some func) = is_top func
  is_top_of None = false

  -- a stack ends in the function that begins there
  abbrev pub is_top_entry : ℕ → Bool
  is_top_entry entry = is_top_of (func_at (table_in bytes) entry)

  -- What is told of a frame: its function's tables have a depth, a line and a file for the place that it's looked up at
  pub record IsTold (seen : Seen) : Type 0 where
    pub inside : seen.func < count_in bytes
    pub has : HasPc (table_in bytes) seen.func seen.look
    pub depth : ℕ
    pub depth_is : depth_at (table_in bytes) seen.func seen.look ≡ Value (pos depth)
    pub line : ℕ
    pub line_is : line_at (table_in bytes) seen.func seen.look ≡ Value (pos line)
    pub file : IsSome (file_at (table_in bytes) seen.func seen.look)

  abbrev pub IsToldBy : Walked → Type 0
  IsToldBy (answers.Frame seen) = IsTold seen
  IsToldBy answers.End = Unit {0}
  IsToldBy (answers.No refusal) = Unit {0}

  -- where a call leaves its return address in a register, each frame but the first has a depth above 0
  pub record IsPlaced (linked : Bool) (place : Place) : Type 0 where
    pub told : IsTold place.seen
    pub low : place.sp < 2 ^ 64
    pub deep : place.link ≡ None → linked ≡ true → 0 < told.depth

  abbrev pub IsReached : Bool → Stage → Type 0
  IsReached linked (stages.At place) = IsPlaced linked place
  IsReached linked (stages.Start pc sp link) = sp < 2 ^ 64
  IsReached linked stages.End = Unit {0}
  IsReached linked (stages.No refusal) = Unit {0}

  -- The frame shows the call: its function, where it goes on, and the depth, line and file of the place that tells its source
  pub record IsCall (seen : Seen) (call : ChainCall) : Type 0 where
    pub inside : seen.func < count_in bytes
    pub func : entry_in bytes seen.func ≡ call.func
    pub pc : seen.pc ≡ call.pc
    pub depth : depth_at (table_in bytes) seen.func seen.look ≡ depth_at (table_in bytes) seen.func call.look
    pub line : line_at (table_in bytes) seen.func seen.look ≡ line_at (table_in bytes) seen.func call.look
    pub file : file_at (table_in bytes) seen.func seen.look ≡ file_at (table_in bytes) seen.func call.look

  -- the frames show the calls, one by one
  abbrev pub AreCalls : List Seen → List ChainCall → Type 0
  AreCalls [] [] = Unit {0}
  AreCalls (seen ∷ more) (call ∷ others) = IsCall seen call × AreCalls more others
  AreCalls [] (call ∷ others) = ⊥
  AreCalls (seen ∷ more) [] = ⊥

module _ {Instr : Type 0} (machine : Machine Instr) (bytes : List ℕ) (around : Surroundings) (functions : ℕ → Listed Instr) where
  -- the image as the machine sees it
  abbrev pub image_of : Image
  image_of = joined (text_of machine.set machine.shape machine.growth machine.begins around (count_in bytes) functions)

  -- the function of the call that ends there
  abbrev pub caller_of : ℕ → Option ℕ
  caller_of past = option_and_then (func_at (table_in bytes)) (image_of.after_call past)

  abbrev pub looks_of : Looks
  looks_of = record {
    text = text_range bytes;
    function_at = func_at (table_in bytes);
    is_start = λ at. is_some (instr_among functions (count_in bytes) at);
    depth_at = λ func at. depth_by (depth_at (table_in bytes) func at);
    is_top = is_top bytes;
    caller_at = caller_of;
    has_link = is_some machine.shape.link;
  }

  -- the walk gives exactly these calls, and then ends
  pub record GivesCalls (peek : ℕ → Option ℕ) (from : Stage) (calls : List ChainCall) : Type 0 where
    pub seen : List Seen
    pub shown : AreCalls bytes seen calls
    pub given : Gives looks_of peek from seen answers.End

  -- From each moment of these, whatever the memory has beside the saved return addresses, the walk gives the calls made and not
  -- yet returned, innermost first, up to the first function in which a stack ends
  abbrev pub WalksToChain : Moment → Type 0
  WalksToChain moment =
      (memory : Memory) (peek : ℕ → Option ℕ) (link : ℕ)
      → SlotsStay moment.state.mem memory moment.calls
      → ((at : ℕ) → at < 2 ^ 64 → peek at ≡ word_at memory at)
      → (has_link image_of ≡ true → link ≡ link_in image_of moment.state)
      → GivesCalls peek (stages.Start moment.state.pc (sp_of image_of moment.state) link)
      (until (is_top_entry bytes) (chain_of moment))

module _ {Instr : Type 0} (machine : Machine Instr) (bytes : List ℕ) where
  -- whichever the image's functions are, and what surrounds them: its bytes settle that
  abbrev pub IsStageBy : (Looks → Stage) → Stage → Type 0
  IsStageBy step stage =
      (around : Surroundings) (functions : ℕ → Listed Instr) → Surrounds bytes around → AreFunctionsOf machine bytes functions (count_in bytes)
      → stage ≡ step (looks_of machine bytes around functions)

  abbrev pub IsCallerBy : ℕ → Option ℕ → Type 0
  IsCallerBy past caller =
      (around : Surroundings) (functions : ℕ → Listed Instr) → Surrounds bytes around → AreFunctionsOf machine bytes functions (count_in bytes)
      → caller ≡ caller_of machine bytes around functions past
