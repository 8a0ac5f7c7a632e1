-- The bytes of amd64's instructions, as definitions; what is proved of them stands in proofs/.
--
-- Spelling has the bytes of each instruction, and Reading the instruction whose fields bytes have. Both are made of the parts of
-- an instruction's bytes, each written and read in one file: Heads (LOCK, a prefix, REX, the opcode), ModRm (ModRM, SIB and
-- displacement), Constants, Opcodes (opcodes and digits of operations) and Registers (registers and conditions by their bits).
-- First has the listed instruction that bytes begin with, and InstructionSet what a processor says of its instructions.
pub mod Constants
pub mod Registers
pub mod Heads
pub mod ModRm
pub mod Opcodes
pub mod Spelling
pub mod Reading
pub mod InstructionSet
pub mod First
