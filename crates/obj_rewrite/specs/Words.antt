-- What the statements of a function say of its course.
use Rattle.std.specs.Prelude.{ℕ, Bool, false, not, ◌-◌, ◌==◌, ◌&&◌, ◌||◌, List, length, bytes_eq, codes, Option, Some, None}
use Rattle.std.specs.List.{list_any, slice_get}
use Rattle.goasm_base.specs.declared.statement.Operand.{Operand}
use Rattle.goasm_base.specs.declared.statement.Operand.TheVariants.{Label}
use Rattle.goasm_base.specs.declared.statement.Stmt.{Stmt}

-- a call returns behind itself, and ADR and ADRP only make an address
abbrev pub goes_to_labels : List ℕ → Bool
goes_to_labels op =
    not (bytes_eq op (codes "CALL") || bytes_eq op (codes "BL") || bytes_eq op (codes "ADR") || bytes_eq op (codes "ADRP"))

abbrev pub is_label : ℕ → Operand → Bool
is_label number (Label statement) = statement == number
is_label number _ = false

-- the statement is a jump to the statement of this number
abbrev pub jumps_to : ℕ → Stmt → Bool
jumps_to number stmt = goes_to_labels stmt.op && list_any (is_label number) stmt.operands

-- one of the statements is a jump to the statement of this number
abbrev pub is_goal : List Stmt → ℕ → Bool
is_goal stmts number = list_any (jumps_to number) stmts

-- the instructions that leave the frame stand before RET, where the frame is still needed behind it
abbrev pub is_return : Stmt → Bool
is_return stmt = bytes_eq stmt.op (codes "RET")

-- behind this statement the function doesn't go on
abbrev pub is_end : Option Stmt → Bool
is_end None = false
is_end (Some stmt) = is_return stmt || bytes_eq stmt.op (codes "JMP") || bytes_eq stmt.op (codes "B")

-- the function could run past its end
abbrev pub runs_on : List Stmt → Bool
runs_on stmts = not (is_end (slice_get stmts (length stmts - 1)))
