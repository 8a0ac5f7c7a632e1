-- What an image is made of, and when it's made well.
use Rattle.std.specs.Prelude.{◌≡◌, ℕ, ◌-◌, ◌%◌, ◌<◌, ◌≤◌, List, ◌++◌, All, false, length, take, Some, replicate}
use Rattle.std.specs.List.{flat_map, slice_get}
use Rattle.asm_target.specs.FlowRules.{IsFlowSound}
use Rattle.elf_image.specs.Contents.{outside_in, table_in, text_address, text_in}
use Rattle.elf_image.specs.Image.{IsImage}
use Rattle.elf_image.specs.Layout.{machine_in}
use Rattle.flow_rules.specs.Placing.{Surroundings}
use Rattle.image_model.specs.Listed.{Listed}
use Rattle.image_rules.specs.Functions.{HasTables, padding_byte, placed_from}
use Rattle.image_rules.specs.Machine.{Machine}
use Rattle.image_rules.specs.Parts.{Surrounds, alignment, count_in, entry_in, offset_in}
use Rattle.image_rules.specs.Sound.{is_lost, rules_of}
use Rattle.pclntab.specs.Places.{quantum, text_start}
use Rattle.pclntab.specs.Table.{IsTable}

-- a function of the image: its instructions, and their depths
pub record Made (Instr : Type 0) : Type 0 where
  pub code : List Instr
  pub depths : List ℕ

-- how many bytes it takes from a place to the next multiple of 16
abbrev pub padding_behind : ℕ → ℕ
padding_behind at = (alignment - at % alignment) % alignment

module _ {Instr : Type 0} (machine : Machine Instr) where
  -- the bytes of instructions, and padding up to the next multiple of 16
  abbrev pub padded : List Instr → List ℕ
  padded code =
      flat_map machine.set.spelling code
      ++ replicate (padding_behind (length (flat_map machine.set.spelling code))) (padding_byte machine.number)

  -- the bytes of functions, one behind the other
  abbrev pub bytes_of : List (Made Instr) → List ℕ
  bytes_of functions = flat_map (λ made. padded made.code) functions

  -- a function whose first instruction stands at the address
  abbrev pub listed_at : ℕ → Made Instr → Listed Instr
  listed_at entry made = record { code = placed_from machine.set entry made.code; depths = made.depths }

  module _ (bytes : List ℕ) where
    -- The function of this number has an instruction, and each is of the target's list; the tables tell of them; and where the
    -- function stands they keep the flow rules and go to known addresses
    pub record IsWellMade (around : Surroundings) (index : ℕ) (made : Made Instr) : Type 0 where
      pub fit : All machine.fits made.code
      pub some : 0 < length made.code
      pub tables : HasTables machine bytes index made.code made.depths
      pub flow : IsFlowSound (rules_of machine bytes around (listed_at (entry_in bytes index) made))
      pub goals : All (λ one. is_lost machine bytes one ≡ false) (placed_from machine.set (entry_in bytes index) made.code)

    -- The image and its table have their forms, and are of this machine. The text is the functions, of which there is one at least; the
    -- table has their entries, and behind the last one the text's end. What lies outside lies before the text
    pub record IsMadeOf (functions : List (Made Instr)) : Type 0 where
      pub image : IsImage bytes
      pub table : IsTable (table_in bytes)
      pub number : machine_in bytes ≡ machine.number
      pub quanta : quantum (table_in bytes) ≡ machine.quantum
      pub start : text_start (table_in bytes) ≡ text_address
      pub some : 0 < length functions
      pub count : count_in bytes ≡ length functions
      pub text : text_in bytes ≡ bytes_of functions
      pub entries : (index : ℕ) → index ≤ length functions → offset_in bytes index ≡ length (bytes_of (take index functions))
      pub outside : All (λ symbol. symbol.1 < text_address) (outside_in bytes)
      pub around : Surroundings
      pub surrounds : Surrounds bytes around
      pub each : (index : ℕ) (made : Made Instr) → slice_get functions index ≡ Some made → IsWellMade around index made
