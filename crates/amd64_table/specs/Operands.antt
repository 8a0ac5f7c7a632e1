-- Operands: widths, places in memory, and what a register or memory operand reads and takes.
use Rattle.std.specs.Prelude.{ℕ, ℤ, pos, Bool, true, false, ◌==◌, List, [], ◌∷◌, Option, Some, None}
use Rattle.machine_effect.specs.declared.effect.Atom.{Atom}
use Rattle.machine_effect.specs.declared.effect.Atom.TheVariants as atom
use Rattle.machine_effect.specs.declared.effect.Access.{Access}
use Rattle.machine_effect.specs.declared.effect.Value.{Value}
use Rattle.machine_effect.specs.Numbers.{moved_by, unsigned}
use Rattle.amd64_table.specs.declared.reg.Reg.{Reg}
use Rattle.amd64_table.specs.declared.width.Width.{Width}
use Rattle.amd64_table.specs.declared.width.Width.TheVariants.{Q, L}
use Rattle.amd64_table.specs.declared.memory.Scale.{Scale}
use Rattle.amd64_table.specs.declared.memory.Scale.TheVariants.{One, Two, Four, Eight}
use Rattle.amd64_table.specs.declared.memory.Mem.{Mem}
use Rattle.amd64_table.specs.declared.memory.Mem.TheVariants as memory
use Rattle.amd64_table.specs.declared.memory.Rm.{Rm}
use Rattle.amd64_table.specs.declared.memory.Rm.TheVariants as operand
use Rattle.amd64_table.specs.Registers.{number_of}

unfoldable pub bits_of : Width → ℕ
bits_of Q = 64
bits_of L = 32

unfoldable pub bytes_of : Width → ℕ
bytes_of Q = 8
bytes_of L = 4

abbrev pub is_quad : Width → Bool
is_quad Q = true
is_quad L = false

unfoldable pub factor_of : Scale → ℕ
factor_of One = 1
factor_of Two = 2
factor_of Four = 4
factor_of Eight = 8

abbrev pub is_memory : Rm → Bool
is_memory (operand.Reg reg) = false
is_memory (operand.Mem place) = true

-- a displacement of 0 is none
abbrev pub is_none : ℤ → Bool
is_none (pos n) = n == 0
is_none _ = false

-- a register as something that is read
abbrev pub reg_atom : Reg → Atom
reg_atom reg = atom.Reg (number_of reg)

-- a signed constant, extended to 64 bits
abbrev pub signed_atom : ℤ → Atom
signed_atom constant = atom.Const (unsigned 64 constant)

abbrev pub nothing : Atom
nothing = atom.Const 0

-- this many bytes at a place in memory, for an instruction that ends at `end`
unfoldable pub access_of : ℕ → ℕ → Mem → Access
access_of bytes end (memory.Base base disp) = record {
  width = bytes;
  base = reg_atom base;
  index = nothing;
  scale = 1;
  disp = disp;
}
access_of bytes end (memory.Indexed base index scale disp) = record {
  width = bytes;
  base = reg_atom base;
  index = reg_atom index;
  scale = factor_of scale;
  disp = disp;
}
access_of bytes end (memory.Symbol distance) = record {
  width = bytes;
  base = atom.Const (moved_by end distance);
  index = nothing;
  scale = 1;
  disp = pos 0;
}

-- what an operand reads: the register, or what is loaded
unfoldable pub rm_atom : Rm → Atom
rm_atom (operand.Reg reg) = reg_atom reg
rm_atom (operand.Mem place) = atom.Loaded

-- what is loaded of an operand: nothing of a register
unfoldable pub load_of : ℕ → ℕ → Rm → Option Access
load_of bytes end (operand.Reg reg) = None
load_of bytes end (operand.Mem place) = Some (access_of bytes end place)

-- a value that goes into an operand is written to the register ..
unfoldable pub writes_of : Rm → Value → List (ℕ × Value)
writes_of (operand.Reg reg) value = (number_of reg, value) ∷ []
writes_of (operand.Mem place) value = []

-- .. or is stored
unfoldable pub store_of : ℕ → ℕ → Rm → Value → Option (Access × Value)
store_of bytes end (operand.Reg reg) value = None
store_of bytes end (operand.Mem place) value = Some (access_of bytes end place, value)
