-- What is kept of an accepted image beside its bytes: where instructions begin, and where calls end.
use Rattle.std.specs.Prelude.{◌≡◌, ℕ, ◌+◌, ◌<◌, ◌≤◌, ◌==◌, ◌&&◌, Bool, List, All, Option, is_some}
use Rattle.asm_target.specs.declared.body.Placed.{Placed}
use Rattle.asm_target.specs.InstructionSet.{InstructionSet}
use Rattle.elf_image.specs.Contents.{text_address}
use Rattle.flow_rules.specs.Placing.{Surroundings, is_listed}
use Rattle.image_check.specs.Readers.{instr_among}
use Rattle.image_marks.specs.Bits.{has}
use Rattle.image_model.specs.Image.{is_served}
use Rattle.image_model.specs.Joined.{joined}
use Rattle.image_model.specs.Listed.{Listed, text_of}
use Rattle.image_rules.specs.Functions.{AreFunctionsOf, IsFunction}
use Rattle.image_rules.specs.Machine.{Machine}
use Rattle.image_rules.specs.Parts.{count_in}
use Rattle.image_rules.specs.Sound.{IsReadable}

-- the instruction begins at the address
abbrev pub begins_at : {Instr : Type 0} → ℕ → Placed Instr → Bool
begins_at address one = one.at == address

-- it's a call, and no direct one of these routines, and ends at the address
abbrev pub call_ends_at : {Instr : Type 0} → InstructionSet Instr → List ℕ → ℕ → Placed Instr → Bool
call_ends_at set routines address one =
    is_served (is_listed routines) (set.effect one.instr one.at).next && (one.at + one.len == address)

-- the instructions begin and end before so many bytes from the text's first one on
abbrev pub AreInText : {Instr : Type 0} → ℕ → List (Placed Instr) → Type 0
AreInText size code = All (λ one. (text_address ≤ one.at) × (one.at + one.len < text_address + size)) code

-- the instructions are those of a function of an image
pub record IsOfImage {Instr : Type 0} (machine : Machine Instr) (bytes : List ℕ) (listed : Listed Instr) : Type 0 where
  pub readable : IsReadable machine bytes
  pub index : ℕ
  pub inside : index < count_in bytes
  pub function : IsFunction machine bytes index listed

module _ {Instr : Type 0} (machine : Machine Instr) (bytes : List ℕ) (around : Surroundings) where
  -- the place of the call of so many functions that ends at the address and is no call of a routine that grows the stack
  abbrev pub call_among : (ℕ → Listed Instr) → ℕ → ℕ → Option ℕ
  call_among functions count past =
      (joined (text_of machine.set machine.shape machine.growth machine.begins around count functions)).after_call past

  -- The marks of so many functions, in bytes from the text's first one: where their instructions begin, and where these calls end
  pub record MarkAll (functions : ℕ → Listed Instr) (count : ℕ) (starts ends : List ℕ) : Type 0 where
    pub begun : (offset : ℕ) → has starts offset ≡ is_some (instr_among functions count (text_address + offset))
    pub ended : (offset : ℕ) → has ends offset ≡ is_some (call_among functions count (text_address + offset))

  -- the marks of the image's first functions, whichever instructions these are: their bytes settle that
  abbrev pub MarkFirst : ℕ → List ℕ → List ℕ → Type 0
  MarkFirst count starts ends = (functions : ℕ → Listed Instr) → AreFunctionsOf machine bytes functions count → MarkAll functions count starts ends
