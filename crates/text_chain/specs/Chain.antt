-- The text of a call chain: the frames that a walk gives over the registers and the memory of a dump.
use Rattle.std.specs.Prelude.{◌≡◌, ℕ, List, Option, Some}
use Rattle.flow_rules.specs.Placing.{Surroundings}
use Rattle.image_model.specs.Listed.{Listed}
use Rattle.image_rules.specs.Functions.{AreFunctionsOf}
use Rattle.image_rules.specs.Machine.{Machine}
use Rattle.image_rules.specs.Parts.{Surrounds, count_in}
use Rattle.machine_dump.specs.Contents.{byte_of, word_in}
use Rattle.machine_dump.specs.Faults.{link_in, machine_in, pc_in, sp_in}
use Rattle.text_chain.specs.declared.stack.ChainNo.{ChainNo}
use Rattle.text_chain.specs.declared.stack.ChainNo.TheVariants.{Foreign, Walk, Memory}
use Rattle.text_chain.specs.Lines.{frames_text}
use Rattle.unwind.specs.declared.stage.Stage.TheVariants as stages
use Rattle.image_check.specs.declared.seen.Seen.{Seen}
use Rattle.unwind.specs.declared.walked.Walked.{Walked}
use Rattle.unwind.specs.declared.walked.Walked.TheVariants as answers
use Rattle.unwind.specs.Looks.{looks_of}
use Rattle.unwind.specs.Walk.{Gives}

-- the words of a dump's memory
abbrev pub words_of : List ℕ → ℕ → Option ℕ
words_of dump at = word_in (byte_of dump) at

module _ {Instr : Type 0} (machine : Machine Instr) (image dump : List ℕ) where
  -- The walk from the dump's registers and over its memory gives these frames of the image, and then this answer. The image's bytes
  -- settle what surrounds its functions and what their instructions are
  pub record IsWalk (frames : List Seen) (last : Walked) : Type 0 where
    pub around : Surroundings
    pub functions : ℕ → Listed Instr
    pub surrounds : Surrounds image around
    pub are : AreFunctionsOf machine image functions (count_in image)
    pub pc : ℕ
    pub sp : ℕ
    pub link : ℕ
    pub pc_is : pc_in dump ≡ Some pc
    pub sp_is : sp_in dump ≡ Some sp
    pub link_is : link_in dump ≡ Some link
    pub given : Gives (looks_of machine image around functions) (words_of dump) (stages.Start pc sp link) frames last

  -- the dump is one of the machine
  abbrev pub IsOfMachine : Type 0
  IsOfMachine = machine_in dump ≡ Some machine.number

  -- the image and the dump have this text: the walk ends, and the text has a line for each of its frames
  pub record IsChainText (text : List ℕ) : Type 0 where
    pub own : IsOfMachine
    pub frames : List Seen
    pub walk : IsWalk frames answers.End
    pub says : text ≡ frames_text image frames

  -- why they have none: the dump is one of another machine; else the walk comes to where it can't go on
  abbrev pub IsChainRefused : ChainNo → Type 0
  IsChainRefused Foreign = ¬ IsOfMachine
  IsChainRefused (Walk refusal) = IsOfMachine × (frames : List Seen) × IsWalk frames (answers.No refusal)
  IsChainRefused Memory = ⊥
