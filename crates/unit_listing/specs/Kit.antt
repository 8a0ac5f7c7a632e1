-- What the listing of a unit needs of a target.
use Rattle.std.specs.Prelude.{ℕ, List}
use Rattle.goasm_base.specs.declared.statement.Function.{Function}
use Rattle.machine_effect.specs.declared.flow.Shape.{Shape}
use Rattle.asm_target.specs.declared.body.Body.{Body}
use Rattle.asm_target.specs.declared.body.Line.{Line}
use Rattle.asm_target.specs.declared.frame.FrameShape.{FrameShape}
use Rattle.asm_target.specs.declared.frame.Guard.{Guard}
use Rattle.asm_target.specs.declared.sequence.Sequence.{Sequence}
use Rattle.asm_target.specs.Aiming.{Aiming}
use Rattle.asm_target.specs.InstructionSet.{InstructionSet}
use Rattle.asm_target.specs.Selection.{Selection}
use Rattle.least_forms.specs.Problem.{Problem}
use Rattle.branch_size.specs.Sizing.{branches_of}
use Rattle.stack_split.specs.FrameSizes.{frame_for}
use Rattle.obj_rewrite.specs.Rewriting.{Rules, rules_of}
use Rattle.obj_rewrite.specs.Rewritten as rewritten

-- the data of a target, as the traits `Processor` and `Target` have them
pub record Kit (Instr : Type 0) : Type 1 where
  pub set : InstructionSet Instr
  pub fits : Instr → Type 0
  pub machine : ℕ
  pub quantum : ℕ
  pub shape : Shape
  pub selection : Selection Instr
  pub aiming : Aiming Instr
  pub entry : FrameShape → List Instr
  pub check : FrameShape → Guard Instr
  pub begins : List Instr → Sequence

abbrev pub kit_of : {Instr : Type 0} → InstructionSet Instr → (Instr → Type 0) → ℕ → ℕ → Shape → Selection Instr → Aiming Instr
    → (FrameShape → List Instr) → (FrameShape → Guard Instr) → (List Instr → Sequence) → Kit Instr
kit_of set fits machine quantum shape selection aiming entry check begins = record {
  set = set;
  fits = fits;
  machine = machine;
  quantum = quantum;
  shape = shape;
  selection = selection;
  aiming = aiming;
  entry = entry;
  check = check;
  begins = begins;
}

module _ {Instr : Type 0} (kit : Kit Instr) where
  abbrev pub frame_of : Function → FrameShape
  frame_of function = frame_for kit.machine function

  -- the check of a function's stack
  abbrev pub guard_of : Function → Guard Instr
  guard_of function = kit.check (frame_of function)

  abbrev pub rules_for : Function → Rules Instr
  rules_for function = rules_of kit.set kit.shape kit.begins kit.selection (frame_of function)

  -- the function has these instructions
  abbrev pub IsRewritten : Function → Body Instr → Type 0
  IsRewritten function body =
      rewritten.IsRewritten (rules_for function) function (frame_of function) (guard_of function) (kit.entry (frame_of function)) body

  -- its lines as branch relaxation sees them
  abbrev pub branches : Function → List (Line Instr) → Problem
  branches function code = branches_of kit.set kit.fits kit.aiming kit.quantum (guard_of function) code
