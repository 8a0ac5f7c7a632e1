-- The laws of sequences, for amd64, which has none; and how many instructions a check has.
use Rattle.std.specs.Prelude.{◌++◌}
use Rattle.std.proofs.Common.{◌≡◌, ◌+◌, ◌-◌, ◌<◌, ◌≤◌, List, length, None, refl, arith}
use Rattle.machine_effect.specs.Shapes.{amd64_shape}
use Rattle.asm_target.specs.declared.frame.FrameShape.{FrameShape}
use Rattle.asm_target.specs.Frames.{IsFrame}
use Rattle.asm_target.specs.SequenceLaws as laws
use Rattle.amd64_table.specs.declared.instr.Instr.{Instr}
use Rattle.amd64_code.specs.InstructionSet.{amd64, Fits}
use Rattle.amd64_select.specs.Aims.{aiming}
use Rattle.amd64_select.specs.CheckLaws.{few_checked}
use Rattle.amd64_select.specs.FrameLaws.{few_entered, plain}
use Rattle.amd64_select.specs.Frames.{check_of, entry_of}

pub apart : (code : List Instr) → laws.StandsApart plain code
apart code = record {
  some = omega arith;
  short = omega arith;
  there = λ is. absurd (cc);
  apart = λ k more less. refl;
}

pub told : (code : List Instr) → laws.IsTold plain code
told code more is = refl

pub grows_anywhere : laws.GrowsAnywhere aiming plain
grows_anywhere count code others grows same = absurd (cc)

pub acts : laws.DoSequences amd64 amd64_shape Fits plain None
acts code fit = tt

pub few_instructions : (frame : FrameShape) → IsFrame 62 frame
    → length (check_of frame).head + length (check_of frame).block + length (entry_of frame) ≤ 14
few_instructions frame is = omega (arith, few_checked frame.total (frame.total - 128), few_entered frame)
