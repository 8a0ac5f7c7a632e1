-- Which instructions change the stack pointer, and how.
use Rattle.std.specs.Prelude.{ℕ, ℤ, pos, ◌-ℤ◌, Bool, true, false, Option, Some, None}
use Rattle.machine_effect.specs.declared.flow.Shape.{Shape}
use Rattle.machine_effect.specs.declared.flow.SpMove.{SpMove}
use Rattle.machine_effect.specs.declared.flow.SpMove.TheVariants.{Keep, By, Other}
use Rattle.machine_effect.specs.Flow.{flow_of}
use Rattle.asm_target.specs.InstructionSet.{InstructionSet}

abbrev pub is_move : SpMove → Bool
is_move Keep = false
is_move (By k) = true
is_move Other = true

-- at an address
abbrev pub moves_sp : {Instr : Type 0} → InstructionSet Instr → Shape → ℕ → Instr → Bool
moves_sp set shape pc i = is_move (flow_of (set.effect i pc) shape).sp

-- the depth behind an instruction with this move of the stack pointer
abbrev pub depth_behind : ℕ → SpMove → Option ℤ
depth_behind depth Keep = Some (pos depth)
depth_behind depth (By k) = Some (pos depth -ℤ k)
depth_behind depth Other = None
