-- Dumps of the moments of a run.
use Rattle.std.specs.Prelude.{◌≡◌, ℕ, ◌+◌, ◌<◌, true, List, Some}
use Rattle.image_model.specs.Image.{Image, has_link}
use Rattle.image_model.specs.Kept.{AtSlots, chain_of, until}
use Rattle.image_model.specs.Steps as steps
use Rattle.image_model.specs.Steps.{Moment, sp_of}
use Rattle.image_rules.specs.Machine.{Machine}
use Rattle.machine_dump.specs.Contents.{byte_of}
use Rattle.machine_dump.specs.Faults.{link_in, machine_in, pc_in, sp_in}
use Rattle.machine_effect.specs.Memory.{byte_at}
use Rattle.text_chain.specs.declared.stack.ChainNo.{ChainNo}
use Rattle.text_chain.specs.Chain.{IsChainRefused, IsChainText}
use Rattle.text_chain.specs.Lines.{calls_text}
use Rattle.unwind.specs.Looks.{is_top_entry}

-- The dump has the machine's number, its registers, and the eight bytes of each saved return address. Where there is no link register,
-- its line counts for nothing; and whatever else it has of the memory, or hasn't, is left open
pub record Records (number : ℕ) (img : Image) (moment : Moment) (dump : List ℕ) : Type 0 where
  pub machine : machine_in dump ≡ Some number
  pub pc : pc_in dump ≡ Some moment.state.pc
  pub sp : sp_in dump ≡ Some (sp_of img moment.state)
  pub link : ℕ
  pub link_is : link_in dump ≡ Some link
  pub linked : has_link img ≡ true → link ≡ steps.link_in img moment.state
  pub slots : AtSlots (λ slot. (k : ℕ) → k < 8 → byte_of dump (slot + k) ≡ byte_at moment.state.mem (slot + k)) moment.calls

-- the calls made and not yet returned, innermost first, up to the first function in which a stack ends; a line for each
abbrev pub moment_text : List ℕ → Moment → List ℕ
moment_text bytes moment = calls_text bytes (until (is_top_entry bytes) (chain_of moment))

-- each dump of the moment has exactly this text, and is refused for nothing
pub record IsPrinted {Instr : Type 0} (machine : Machine Instr) (bytes : List ℕ) (img : Image) (moment : Moment) : Type 0 where
  pub text : (dump : List ℕ) → Records machine.number img moment dump → IsChainText machine bytes dump (moment_text bytes moment)
  pub only : (dump text : List ℕ) → Records machine.number img moment dump → IsChainText machine bytes dump text
      → text ≡ moment_text bytes moment
  pub never : (dump : List ℕ) (refusal : ChainNo) → Records machine.number img moment dump → ¬ IsChainRefused machine bytes dump refusal
