-- Which line of a function an instruction refers to, and what holds of the lines of a whole function.
use Rattle.std.specs.Prelude.{◌≡◌, ℕ, ◌+◌, ◌-◌, ◌<◌, List, All, Bool, true, false, nat_le, length, map, position, Option, Some, None, if◌then◌else◌}
use Rattle.asm_target.specs.declared.body.Line.{Line}
use Rattle.asm_target.specs.declared.frame.Guard.{Guard}
use Rattle.asm_target.specs.declared.refer.Part.{Part}
use Rattle.asm_target.specs.declared.refer.Part.TheVariants.{Whole, High, Low}
use Rattle.asm_target.specs.declared.refer.Picked.{Picked}
use Rattle.asm_target.specs.declared.refer.Refer.{Refer}
use Rattle.asm_target.specs.declared.refer.To.{To}
use Rattle.asm_target.specs.declared.refer.To.TheVariants.{Stmt, Symbol, Entry, Grow, Block, Past}
use Rattle.asm_target.specs.Aiming.{Aiming, IsPickable, most_bytes}
use Rattle.asm_target.specs.InstructionSet.{InstructionSet}

-- the line's statement has this number or a greater one
abbrev pub reaches_stmt : ℕ → Option ℕ → Bool
reaches_stmt number None = false
reaches_stmt number (Some stmt) = nat_le number stmt

-- leads out of the function
abbrev pub is_outside : To → Bool
is_outside (Symbol sym off) = true
is_outside Grow = true
is_outside _ = false

-- the parts of an address are held by pairs of instructions, in one form
abbrev pub goal_part : Part → Option ℕ → Option ℕ
goal_part Whole goal = goal
goal_part High goal = None
goal_part Low goal = None

module _ {Instr : Type 0} where
  abbrev pub stands_from : ℕ → Line Instr → Bool
  stands_from number line = reaches_stmt number line.stmt

  -- the first line of the block that has the stack grow: behind the check, or the function's last lines
  abbrev pub block_of : Guard Instr → ℕ → ℕ
  block_of guard count = if guard.in_place then length guard.head else count - length guard.block

  -- the line of this function that a reference leads to
  abbrev pub line_of : Guard Instr → List (Line Instr) → To → Option ℕ
  line_of guard code (Stmt number) = position (stands_from number) code
  line_of guard code Entry = Some 0
  line_of guard code Block = Some (block_of guard (length code))
  line_of guard code Past = Some (block_of guard (length code) + length guard.block)
  line_of guard code (Symbol sym off) = None
  line_of guard code Grow = None

  abbrev pub goal_to : Guard Instr → List (Line Instr) → Option Refer → Option ℕ
  goal_to guard code None = None
  goal_to guard code (Some refer) = goal_part refer.part (line_of guard code refer.to)

  -- the line of this function that a line branches to, or whose address it holds
  abbrev pub goal_of : Guard Instr → List (Line Instr) → Line Instr → Option ℕ
  goal_of guard code line = goal_to guard code line.refer

  abbrev pub picked : Line Instr → Picked Instr
  picked line = record { instr = line.instr; refer = line.refer }

  -- how many bytes the lines have with every branch in its long form
  abbrev pub longest : InstructionSet Instr → Aiming Instr → List (Line Instr) → ℕ
  longest set aiming code = most_bytes set aiming (map picked code)

  -- what a line refers to inside its function is one of the lines
  abbrev pub HasGoal : Guard Instr → List (Line Instr) → Line Instr → Type 0
  HasGoal guard code line = (to : To) → line.refer ≡ Some (record { to = to; part = Whole }) → is_outside to ≡ false
      → (goal : ℕ) × (line_of guard code to ≡ Some goal) × (goal < length code)

  -- The lines are instructions of the target, which can hold what they refer to; and each refers to an instruction of the function,
  -- or out of it
  pub record IsBody (fits : Instr → Type 0) (aiming : Aiming Instr) (guard : Guard Instr) (code : List (Line Instr)) : Type 0 where
    pub pickable : All (λ line. IsPickable fits aiming (picked line)) code
    pub goals : All (HasGoal guard code) code
