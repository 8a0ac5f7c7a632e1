-- The instructions of a function of an image, and what the image's tables tell of them.
use Rattle.std.specs.Prelude.{◌≡◌, ◌<◌, ℕ, ℤ, pos, ◌+◌, ◌%◌, ◌==◌, List, [], ◌∷◌, All, length, map, IsSome, if◌then◌else◌}
use Rattle.std.specs.Prelude.{replicate}
use Rattle.asm_target.specs.declared.body.Placed.{Placed}
use Rattle.asm_target.specs.InstructionSet.{InstructionSet, IsListing}
use Rattle.elf_image.specs.Contents.{table_in}
use Rattle.pclntab.specs.Func.{DepthsOver, FilesOver, LinesOver, numbered_from}
use Rattle.pclntab.specs.Places.{unit_field}
use Rattle.pclntab.specs.Words.{u32_at}
use Rattle.image_model.specs.Listed.{Listed}
use Rattle.image_rules.specs.Machine.{Machine}
use Rattle.image_rules.specs.Parts.{alignment, entry_in, own_bytes}

-- what stands behind a function's instructions: the byte CC of amd64, 0 elsewhere
abbrev pub padding_byte : ℕ → ℕ
padding_byte machine = if machine == 62 then 0xcc else 0

module _ {Instr : Type 0} (set : InstructionSet Instr) where
  -- instructions one behind the other from an address on
  abbrev pub placed_from : ℕ → List Instr → List (Placed Instr)
  placed_from at [] = []
  placed_from at (instr ∷ code) =
      record { at = at; len = length (set.spelling instr); instr = instr } ∷ placed_from (at + length (set.spelling instr)) code

  -- where each of them ends
  abbrev pub ends_from : ℕ → List Instr → List ℕ
  ends_from at [] = []
  ends_from at (instr ∷ code) = (at + length (set.spelling instr)) ∷ ends_from (at + length (set.spelling instr)) code

module _ {Instr : Type 0} (machine : Machine Instr) where
  -- The bytes of a function are these instructions, at least one, and then fewer bytes of padding than the next multiple of 16 takes
  pub record IsCode (own : List ℕ) (code : List Instr) : Type 0 where
    pub rest : List ℕ
    pub listing : IsListing machine.set machine.fits own code rest
    pub some : 0 < length code
    pub padding : rest ≡ replicate (length rest) (padding_byte machine.number)
    pub short : length rest < alignment
    pub whole : length own % alignment ≡ 0

  module _ (bytes : List ℕ) (index : ℕ) where
    -- a number of a file table stands for a file
    abbrev pub NamesFile : ℤ → Type 0
    NamesFile number = IsSome (numbered_from (table_in bytes) (u32_at (table_in bytes) (unit_field (table_in bytes) index)) number)

    -- The function's tables are in their least form, cover its instructions and change between them. Depths and lines aren't negative,
    -- and each file has a name
    pub record HasTables (code : List Instr) (depths : List ℕ) : Type 0 where
      pub depth : DepthsOver (table_in bytes) index (ends_from machine.set 0 code) (map pos depths)
      pub lines : List ℕ
      pub line : LinesOver (table_in bytes) index (ends_from machine.set 0 code) (map pos lines)
      pub files : List ℤ
      pub file : FilesOver (table_in bytes) index (ends_from machine.set 0 code) files
      pub named : All NamesFile files

    -- the function has these instructions at their places, with these depths
    pub record IsFunction (listed : Listed Instr) : Type 0 where
      pub code : List Instr
      pub is_code : IsCode (own_bytes bytes index) code
      pub placed : listed.code ≡ placed_from machine.set (entry_in bytes index) code
      pub tables : HasTables code listed.depths

  -- the functions of an image by number
  abbrev pub AreFunctionsOf : List ℕ → (ℕ → Listed Instr) → ℕ → Type 0
  AreFunctionsOf bytes functions count = (index : ℕ) → index < count → IsFunction bytes index (functions index)
