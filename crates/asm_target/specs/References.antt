-- What instructions refer to that stand for a statement, or in a check.
use Rattle.std.specs.Prelude.{◌≡◌, ◌⊎◌, ℕ, ◌<◌, List, [], ◌∷◌, All, Bool, true, length, codes, Some}
use Rattle.goasm_base.specs.declared.statement.Operand.{Operand}
use Rattle.goasm_base.specs.declared.statement.Operand.TheVariants.{Sym, Label}
use Rattle.asm_target.specs.declared.frame.Guard.{Guard}
use Rattle.asm_target.specs.declared.refer.Picked.{Picked}
use Rattle.asm_target.specs.declared.refer.Refer.{Refer}
use Rattle.asm_target.specs.declared.refer.To.{To}
use Rattle.asm_target.specs.declared.refer.To.TheVariants as to

-- the operand is what is referred to: a symbol with its offset, or a label
abbrev pub Names : Operand → To → Type 0
Names (Sym sym off address) goal = goal ≡ to.Symbol sym off
Names (Label statement) goal = goal ≡ to.Stmt statement
Names _ goal = ⊥

-- one of the operands is
abbrev pub IsNamed : List Operand → To → Type 0
IsNamed [] goal = ⊥
IsNamed (operand ∷ operands) goal = Names operand goal ⊎ IsNamed operands goal

-- a place of a check's function, or the routine that grows the stack; nothing of the function lies behind a block at its end
abbrev pub IsAround : Bool → To → Type 0
IsAround in_place to.Entry = Unit {0}
IsAround in_place to.Block = Unit {0}
IsAround in_place to.Grow = Unit {0}
IsAround in_place to.Past = in_place ≡ true
IsAround in_place _ = ⊥

-- behind a statement with one of these mnemonics a function doesn't go on
abbrev pub IsEnd : List ℕ → Type 0
IsEnd op = (op ≡ codes "RET") ⊎ ((op ≡ codes "JMP") ⊎ (op ≡ codes "B"))

module _ {Instr : Type 0} where
  -- what the instruction refers to, if anything, is such a goal
  abbrev pub RefersTo : (To → Type 0) → Picked Instr → Type 0
  RefersTo IsGoal pick = (refer : Refer) → pick.refer ≡ Some refer → IsGoal refer.to

  -- a check and its block refer to what lies around them, and the block has an instruction
  pub record StaysAround (guard : Guard Instr) : Type 0 where
    pub head : All (RefersTo (IsAround guard.in_place)) guard.head
    pub block : All (RefersTo (IsAround guard.in_place)) guard.block
    pub some : 0 < length guard.block
