-- The kinds of sequences.
use Rattle.std.specs.Prelude.{ℕ, ℤ, pos, ◌-ℤ◌, ◌-◌, Bool, true, false}
use Rattle.asm_target.specs.declared.sequence.Sequence.{Sequence}
use Rattle.asm_target.specs.declared.sequence.Sequence.TheVariants.{Plain, Saving, Restoring, Growth}

-- how many instructions it has; a plain one stands alone
abbrev pub count_of : Sequence → ℕ
count_of Plain = 1
count_of (Saving count total) = count
count_of (Restoring count total) = count
count_of (Growth count) = count

-- how many of them are judged by it: the jump that ends a growth sequence is an instruction like any other
abbrev pub span_of : Sequence → ℕ
span_of (Growth count) = count - 1
span_of found = count_of found

-- by how much the depth is greater behind its last instruction
abbrev pub depth_added_by : Sequence → ℤ
depth_added_by (Saving count total) = pos total
depth_added_by (Restoring count total) = pos 0 -ℤ pos total
depth_added_by _ = pos 0

abbrev pub is_plain : Sequence → Bool
is_plain Plain = true
is_plain _ = false

abbrev pub is_saving : Sequence → Bool
is_saving (Saving count total) = true
is_saving _ = false

-- it makes or leaves a frame
abbrev pub is_of_frame : Sequence → Bool
is_of_frame (Saving count total) = true
is_of_frame (Restoring count total) = true
is_of_frame _ = false

abbrev pub is_growth : Sequence → Bool
is_growth (Growth count) = true
is_growth _ = false
