-- What holds of the functions of a source, on which every call that takes one relies.
use Rattle.std.specs.Prelude.{◌≡◌, ℕ, ◌^◌, ◌%◌, ◌<◌, ◌≤◌, All, length, IfSome, IsBitSet}
use Rattle.goasm_base.specs.declared.statement.Operand.{Operand}
use Rattle.goasm_base.specs.declared.statement.Operand.TheVariants.{Sym, Label}
use Rattle.goasm_base.specs.declared.statement.Stmt.{Stmt}
use Rattle.goasm_base.specs.declared.statement.Function.{Function}

-- how many statements a function may have
abbrev pub most_statements : ℕ
most_statements = 4_000_000

-- the bit of NOFRAME among the flags of a function
abbrev pub noframe : ℕ
noframe = 9

-- a symbol that an operand names is one of so many, and a label one of so many statements
abbrev pub IsValidOperand : ℕ → ℕ → Operand → Type 0
IsValidOperand symbols statements (Sym sym off address) = sym < symbols
IsValidOperand symbols statements (Label statement) = statement < statements
IsValidOperand symbols statements _ = Unit {0}

abbrev pub IsValidStatement : ℕ → ℕ → Stmt → Type 0
IsValidStatement symbols statements stmt = All (IsValidOperand symbols statements) stmt.operands

-- a function of a unit that has so many symbols
pub record IsValidFunction (symbols : ℕ) (function : Function) : Type 0 where
  pub symbol : function.sym < symbols
  pub statements : All (IsValidStatement symbols (length function.stmts)) function.stmts
  pub count : length function.stmts ≤ most_statements
  pub locals : function.locals % 8 ≡ 0
  pub frameless : IsBitSet function.flags noframe → function.locals ≡ 0
  pub arguments : IfSome function.args (λ size. size < 2 ^ 31)
