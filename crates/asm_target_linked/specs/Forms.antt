-- The forms of the instructions and the addresses that they hold.
use Rattle.std.specs.Prelude.{ℕ, zero, suc, pos, Bool, true, false, not, List, [], ◌∷◌, Option, Some, None}
use Rattle.asm_target.specs.declared.refer.Part.{Part}
use Rattle.asm_target.specs.declared.refer.Part.TheVariants.{Whole, High, Low}
use Rattle.asm_target.specs.Aiming.{Aiming}
use Rattle.asm_target_linked.specs.declared.instr.Instr.{Instr}
use Rattle.asm_target_linked.specs.declared.instr.Instr.TheVariants.{Plain, Frame, Near, Far}
use Rattle.asm_target_linked.specs.Instr.{goal_of}

-- a branch's long form is a jump, and before it a branch of four bytes over its eight where the condition doesn't hold
abbrev pub forms_of : Instr → ℕ → List Instr
forms_of (Near held distance) zero = Near held distance ∷ []
forms_of (Near held distance) (suc form) = Near (not held) (pos 12) ∷ Far false distance ∷ []
forms_of i form = i ∷ []

abbrev pub undirected : Instr → Instr
undirected (Near held distance) = Near held (pos 0)
undirected (Far call distance) = Far call (pos 0)
undirected (Plain op) = Plain op
undirected (Frame op bytes) = Frame op bytes

abbrev pub is_directed : Instr → Bool
is_directed (Near held distance) = true
is_directed (Far call distance) = true
is_directed _ = false

abbrev pub held_whole : Instr → ℕ → Option ℕ
held_whole (Near held distance) place = Some (goal_of place distance)
held_whole (Far call distance) place = Some (goal_of place distance)
held_whole _ place = None

abbrev pub held : Instr → Part → ℕ → Option ℕ
held i Whole place = held_whole i place
held i High place = None
held i Low place = None

abbrev pub aiming : Aiming Instr
aiming = record {
  forms = forms_of;
  undirected = undirected;
  is_directed = is_directed;
  held = held;
  part_of = λ part place goal. goal;
}
