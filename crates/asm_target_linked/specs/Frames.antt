-- The frames, the check and the sequences.
use Rattle.std.specs.Prelude.{ℕ, zero, suc, pos, ◌&&◌, Bool, true, false, List, [], ◌∷◌, nat_le, nat_lt, Some, None, if◌then◌else◌}
use Rattle.asm_target.specs.declared.frame.FrameShape.{FrameShape}
use Rattle.asm_target.specs.declared.frame.Guard.{Guard}
use Rattle.asm_target.specs.declared.refer.Part.TheVariants.{Whole}
use Rattle.asm_target.specs.declared.refer.Picked.{Picked}
use Rattle.asm_target.specs.declared.refer.To.{To}
use Rattle.asm_target.specs.declared.refer.To.TheVariants as to
use Rattle.asm_target.specs.declared.sequence.Sequence.{Sequence}
use Rattle.asm_target.specs.declared.sequence.Sequence.TheVariants as sequence
use Rattle.asm_target.specs.Frames.{greatest_total}
use Rattle.asm_target_linked.specs.declared.instr.FrameOp.TheVariants.{Save, Load, Below, Above}
use Rattle.asm_target_linked.specs.declared.instr.Instr.{Instr}
use Rattle.asm_target_linked.specs.declared.instr.Instr.TheVariants.{Plain, Frame, Near, Far}
use Rattle.asm_target_linked.specs.declared.instr.Op.TheVariants.{SaveAt, SetSp, LoadLink, Limit}

-- a frame of up to 240 bytes is made and left by one instruction
abbrev pub is_short : ℕ → Bool
is_short total = nat_lt 0 total && nat_le total 240

-- a larger one by three
abbrev pub is_long : ℕ → Bool
is_long total = nat_lt 240 total && nat_le total greatest_total

abbrev pub enter_long : ℕ → List Instr
enter_long total = Frame Below total ∷ Plain SaveAt ∷ Plain SetSp ∷ []

abbrev pub leave_long : ℕ → List Instr
leave_long total = Plain LoadLink ∷ Frame Above total ∷ Plain SetSp ∷ []

abbrev pub entering : ℕ → List Instr
entering zero = []
entering (suc n) = if nat_le (suc n) 240 then Frame Save (suc n) ∷ [] else enter_long (suc n)

abbrev pub exiting : ℕ → List Instr
exiting zero = []
exiting (suc n) = if nat_le (suc n) 240 then Frame Load (suc n) ∷ [] else leave_long (suc n)

abbrev pub entry : FrameShape → List Instr
entry frame = entering frame.total

abbrev pub exit : FrameShape → List Instr
exit frame = exiting frame.total

abbrev pub plain : Instr → Picked Instr
plain i = record { instr = i; refer = None }

abbrev pub goes : Instr → To → Picked Instr
goes i to = record { instr = i; refer = Some (record { to = to; part = Whole }) }

-- behind the check stands its block, over which it jumps where the stack has room
abbrev pub check : FrameShape → Guard Instr
check frame = record {
  head = plain (Plain Limit) ∷ goes (Near false (pos 0)) to.Past ∷ [];
  block = goes (Far true (pos 0)) to.Grow ∷ goes (Far false (pos 0)) to.Entry ∷ [];
  in_place = true;
}

abbrev pub saves_next : List Instr → Bool
saves_next (Plain SaveAt ∷ Plain SetSp ∷ code) = true
saves_next _ = false

abbrev pub sets_next : List Instr → Bool
sets_next (Plain SetSp ∷ code) = true
sets_next _ = false

abbrev pub jumps_next : List Instr → Bool
jumps_next (Far false distance ∷ code) = true
jumps_next _ = false

-- behind the load of the link register
abbrev pub restored : List Instr → Sequence
restored (Frame Above total ∷ code) = if is_long total && sets_next code then sequence.Restoring 3 total else sequence.Plain
restored _ = sequence.Plain

abbrev pub begins : List Instr → Sequence
begins (Frame Save total ∷ code) = if is_short total then sequence.Saving 1 total else sequence.Plain
begins (Frame Load total ∷ code) = if is_short total then sequence.Restoring 1 total else sequence.Plain
begins (Frame Below total ∷ code) = if is_long total && saves_next code then sequence.Saving 3 total else sequence.Plain
begins (Plain LoadLink ∷ code) = restored code
begins (Far true distance ∷ code) = if jumps_next code then sequence.Growth 2 else sequence.Plain
begins _ = sequence.Plain
