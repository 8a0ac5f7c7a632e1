-- Which images are sound.
use Rattle.std.specs.Prelude.{◌≡◌, ℕ, ◌<◌, ◌&&◌, Bool, false, not, List, All, Option}
use Rattle.std.specs.Option.{option_or}
use Rattle.machine_effect.specs.declared.next.Next.{Next}
use Rattle.asm_target.specs.declared.body.Placed.{Placed}
use Rattle.asm_target.specs.FlowFunction.{FlowFunction, call_goal, is_among, is_within, jump_goal}
use Rattle.asm_target.specs.FlowRules.{IsFlowSound}
use Rattle.elf_image.specs.Contents.{table_in}
use Rattle.elf_image.specs.Image.{IsImage}
use Rattle.pclntab.specs.Table.{IsTable}
use Rattle.flow_rules.specs.Placing.{Surroundings, function_of}
use Rattle.image_model.specs.Listed.{Listed}
use Rattle.image_rules.specs.Functions.{IsFunction}
use Rattle.image_rules.specs.Machine.{Machine}
use Rattle.image_rules.specs.Parts.{HasProfile, Surrounds, count_in, is_outside_symbol, text_range}

-- where an instruction jumps or calls directly
abbrev pub direct_goal : Next → Option ℕ
direct_goal next = option_or (jump_goal next) (call_goal next)

module _ {Instr : Type 0} (machine : Machine Instr) (bytes : List ℕ) where
  -- the address lies outside the text, and no symbol outside has it
  abbrev pub is_unknown : ℕ → Bool
  is_unknown address = not (is_within (text_range bytes) address) && not (is_outside_symbol bytes address)

  -- the instruction goes directly to such an address
  abbrev pub is_lost : Placed Instr → Bool
  is_lost one = is_among is_unknown (direct_goal (machine.set.effect one.instr one.at).next)

  module _ (around : Surroundings) where
    -- a function as the flow rules see it
    abbrev pub rules_of : Listed Instr → FlowFunction
    rules_of listed = function_of machine.set machine.shape machine.begins listed.code listed.depths around

    -- a function of an image that breaks no rule
    pub record IsSoundFunction (index : ℕ) (listed : Listed Instr) : Type 0 where
      pub function : IsFunction machine bytes index listed
      pub flow : IsFlowSound (rules_of listed)
      pub goals : All (λ one. is_lost one ≡ false) listed.code

  -- an image and its function table, each in its form, that agree
  pub record IsReadable : Type 0 where
    pub image : IsImage bytes
    pub table : IsTable (table_in bytes)
    pub profile : HasProfile bytes machine

  -- and whose functions break no rule
  pub record IsSoundImage : Type 0 where
    pub readable : IsReadable
    pub around : Surroundings
    pub surrounds : Surrounds bytes around
    pub functions : (index : ℕ) → index < count_in bytes → (listed : Listed Instr) × IsSoundFunction around index listed
