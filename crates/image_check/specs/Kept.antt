-- What is kept of an accepted image.
use Rattle.std.specs.Prelude.{◌≡◌, ℕ, ◌^◌, ◌<◌, List, length, slice_index}
use Rattle.elf_image.specs.Contents.{table_in}
use Rattle.flow_rules.specs.Placing.{Surroundings}
use Rattle.image_check.specs.Marks.{MarkFirst}
use Rattle.image_marks.specs.Bits.{IsNearest}
use Rattle.image_marks.specs.Buckets.{AreBuckets}
use Rattle.image_model.specs.Joined.{IsText}
use Rattle.image_model.specs.Listed.{AreFunctions, Listed, text_of}
use Rattle.image_rules.specs.Functions.{AreFunctionsOf}
use Rattle.image_rules.specs.Machine.{Machine}
use Rattle.image_rules.specs.Parts.{Surrounds, count_in, offset_in}
use Rattle.image_rules.specs.Sound.{IsReadable, IsSoundImage}

-- where each function begins, in bytes from the text's first one
pub record AreEntries (bytes entries : List ℕ) : Type 0 where
  pub count : length entries ≡ count_in bytes
  pub each : (index : ℕ) → index < count_in bytes → slice_index entries index ≡ offset_in bytes index

module _ {Instr : Type 0} (machine : Machine Instr) (bytes : List ℕ) where
  -- the image is sound, and these are the marks of its functions
  pub record IsMarked (starts ends : List ℕ) : Type 0 where
    pub sound : IsSoundImage machine bytes
    pub short : length bytes < 2 ^ 32
    pub marks : MarkFirst machine bytes sound.around (count_in bytes) starts ends

  -- and with them are its table, its entries, and what finds the function of an offset
  pub record IsKept (table entries starts ends buckets : List ℕ) : Type 0 where
    pub marked : IsMarked starts ends
    pub table_is : table ≡ table_in bytes
    pub entries_are : AreEntries bytes entries
    pub buckets_are : AreBuckets entries buckets

-- the laws that settle what surrounds functions, and by which functions are a text
pub record HasTextLaws {Instr : Type 0} (machine : Machine Instr) : Type 0 where
  pub around : (bytes : List ℕ) (around other : Surroundings) → Surrounds bytes around → Surrounds bytes other → around ≡ other
  pub functions : (bytes : List ℕ) (around : Surroundings) (functions : ℕ → Listed Instr) → length bytes < 2 ^ 63
      → IsReadable machine bytes → Surrounds bytes around → AreFunctionsOf machine bytes functions (count_in bytes)
      → AreFunctions machine.set machine.fits around (count_in bytes) functions
  pub text : (around : Surroundings) (count : ℕ) (functions : ℕ → Listed Instr) → AreFunctions machine.set machine.fits around count functions
      → IsText (text_of machine.set machine.shape machine.growth machine.begins around count functions)
  pub nearest : (words : List ℕ) (before one other : ℕ) → IsNearest words before one → IsNearest words before other → one ≡ other
