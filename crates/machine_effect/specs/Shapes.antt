-- The registers of the three architectures that hold the stack pointer and a call's return address, by the numbers that a
-- machine's state gives its registers.
use Rattle.std.specs.Prelude.{ℤ, pos, negsuc, ◌-◌, ◌^◌, ◌≤ℤ◌, Some, None}
use Rattle.machine_effect.specs.declared.flow.Shape.{Shape}

-- a call pushes its return address, so there is no link register
abbrev pub amd64_shape : Shape
amd64_shape = record { sp = 4; link = None }

abbrev pub arm64_shape : Shape
arm64_shape = record { sp = 31; link = Some 30 }

abbrev pub riscv64_shape : Shape
riscv64_shape = record { sp = 2; link = Some 1 }

-- by how much a constant moves a stack pointer
pub record IsStackDistance (k : ℤ) : Type 0 where
  pub least : negsuc (2 ^ 31 - 1) ≤ℤ k
  pub most : k ≤ℤ pos (2 ^ 31)
