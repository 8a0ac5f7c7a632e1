-- What holds of the rules of every target.
use Rattle.std.specs.Prelude.{◌≡◌, ℕ, List}
use Rattle.goasm_base.specs.declared.statement.Stmt.{Stmt}
use Rattle.asm_target.specs.declared.refer.Picked.{Picked}
use Rattle.asm_target.specs.declared.select_no.SelectNo.{SelectNo}
use Rattle.obj_rewrite.specs.Rewriting.{Rules}

-- a statement becomes one list of instructions, or there is one reason why it becomes none
pub record IsSettled {I : Type 0} (rules : Rules I) : Type 0 where
  pub single : (stmt : Stmt) (depth : ℕ) (picks others : List (Picked I))
      → rules.becomes stmt depth picks → rules.becomes stmt depth others → picks ≡ others
  pub never : (stmt : Stmt) (depth : ℕ) (picks : List (Picked I)) (why : SelectNo)
      → rules.becomes stmt depth picks → ¬ rules.refuses stmt depth why
  pub one_reason : (stmt : Stmt) (depth : ℕ) (why other : SelectNo)
      → rules.refuses stmt depth why → rules.refuses stmt depth other → why ≡ other
