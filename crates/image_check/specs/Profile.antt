-- The parts of the agreement of an image with its function table.
use Rattle.std.specs.Prelude.{◌≡◌, ℕ, suc, ◌%◌, ◌<◌, List, length}
use Rattle.elf_image.specs.Contents.{table_in, text_address, text_in}
use Rattle.elf_image.specs.Layout.{machine_in}
use Rattle.pclntab.specs.Places.{quantum, text_start}
use Rattle.image_rules.specs.Parts.{alignment, count_in, offset_in}

-- there is a function, and the table is one of this machine and of this text's address
pub record HasHeader (bytes : List ℕ) (machine unit : ℕ) : Type 0 where
  pub some : 0 < count_in bytes
  pub number : machine_in bytes ≡ machine
  pub quanta : quantum (table_in bytes) ≡ unit
  pub start : text_start (table_in bytes) ≡ text_address

-- a function has bytes in the text, the first at a multiple of 16
pub record HasRange (bytes : List ℕ) (index : ℕ) : Type 0 where
  pub aligned : offset_in bytes index % alignment ≡ 0
  pub inside : offset_in bytes index < length (text_in bytes)
  pub rises : offset_in bytes index < offset_in bytes (suc index)

-- the functions cover the text
pub record HasRanges (bytes : List ℕ) : Type 0 where
  pub first : offset_in bytes 0 ≡ 0
  pub past : offset_in bytes (count_in bytes) ≡ length (text_in bytes)
  pub all : (index : ℕ) → index < count_in bytes → HasRange bytes index
