-- The instructions that begin a function.
use Rattle.std.specs.Prelude.{List, [], ◌++◌, map, Bool, None, if◌then◌else◌}
use Rattle.asm_target.specs.declared.frame.Guard.{Guard}
use Rattle.asm_target.specs.declared.refer.Picked.{Picked}

-- an instruction that refers to nothing
abbrev pub plain : {Instr : Type 0} → Instr → Picked Instr
plain i = record { instr = i; refer = None }

-- a check, with its block where that stands directly behind it
abbrev pub check_of : {Instr : Type 0} → Guard Instr → List (Picked Instr)
check_of guard = guard.head ++ (if guard.in_place then guard.block else [])

-- the check where one is due, and then what enters the frame
abbrev pub opening : {Instr : Type 0} → Guard Instr → List Instr → Bool → List (Picked Instr)
opening guard entry check = (if check then check_of guard else []) ++ map plain entry
