-- Which instruction a name and operands are: the one that is listed, and whose text they are.
use Rattle.std.specs.Prelude.{◌≡◌, Bool, true, false, Option, IsTrue}
use Rattle.amd64_table.specs.declared.mnemonic.Mnemonic.{Mnemonic}
use Rattle.amd64_table.specs.declared.operand.Operand.{Operand}
use Rattle.amd64_table.specs.declared.instr.Instr.{Instr}
use Rattle.amd64_table.specs.declared.instr.Instr.TheVariants as instr
use Rattle.amd64_table.specs.Fits.{fits}
use Rattle.amd64_table.specs.Mnemonics.{mnemonic_of}
use Rattle.amd64_table.specs.Texts.{is_locked, operands_of}

-- a branch with one byte for its distance
unfoldable pub is_short : Instr → Bool
is_short (instr.Short code distance) = true
is_short _ = false

-- The instruction has this name and these operands. Of a branch it's the long one
pub record Shows (mnemonic : Mnemonic) (operands : Option Operand × Option Operand) (i : Instr) : Type 0 where
  pub named : mnemonic_of i ≡ mnemonic
  pub shown : operands_of i ≡ operands
  pub long : is_short i ≡ false

-- the instruction is listed, and is written with this name, LOCK before it or not, and these operands
pub record Writes (mnemonic : Mnemonic) (lock : Bool) (operands : Option Operand × Option Operand) (i : Instr) : Type 0 where
  pub listed : IsTrue (fits i)
  pub locked : is_locked i ≡ lock
  pub shows : Shows mnemonic operands i
