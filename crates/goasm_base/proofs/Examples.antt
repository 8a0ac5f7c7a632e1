-- The definitions on small examples, each computed.
use Rattle.std.proofs.Common.{◌≡◌, ℕ, false, [], ◌∷◌, Some, None, refl, arith, lit<, lit≤}
use Rattle.std.specs.Prelude.{codes, pos}
use Rattle.std.proofs.lemmas.List.Elements.{All-from_recursion}
use Rattle.goasm_base.specs.declared.statement.Operand.TheVariants.{Imm, Sym, Label}
use Rattle.goasm_base.specs.declared.statement.Stmt.{Stmt}
use Rattle.goasm_base.specs.declared.statement.Function.{Function}
use Rattle.goasm_base.specs.Statements.{IsValidOperand, IsValidStatement, IsValidFunction}
use Rattle.goasm_base.specs.Refusals.{first_of}

-- the lowest number at the earliest place
first_refusal : first_of (λ (at : ℕ × ℕ). at.0) (λ at. at.1) ((3, 1) ∷ (2, 9) ∷ (2, 4) ∷ (7, 0) ∷ []) ≡ Some (2, 4)
first_refusal = refl

-- a statement with three operands: a constant, the second symbol and a statement
abbrev stmt : ℕ → Stmt
stmt goal = record {
  pos = record { file = 0; line = 2 };
  lock = false;
  op = codes "OP";
  suffix = None;
  operands = Imm 9 ∷ Sym 1 (pos 8) false ∷ Label goal ∷ [];
}

-- a function of this one, with flags and locals
abbrev function : ℕ → ℕ → ℕ → Function
function flags locals goal = record {
  sym = 0;
  flags = flags;
  locals = locals;
  args = Some 24;
  pos = record { file = 0; line = 1 };
  stmts = stmt goal ∷ [];
}

is_valid : IsValidFunction 2 (function 4 16 0)
is_valid = record {
  symbol = lit< tt;
  statements = All-from_recursion (IsValidStatement 2 1) (stmt 0 ∷ [])
      (All-from_recursion (IsValidOperand 2 1) (stmt 0).operands (tt, (lit< tt, (lit< tt, tt))), tt);
  count = lit≤ tt;
  locals = refl;
  frameless = λ set. absurd (set refl);
  arguments = lit< tt;
}

-- with one symbol, a label behind the statements, locals of 12 bytes, or locals without a frame it isn't
symbol_past : IsValidFunction 1 (function 4 16 0) → ⊥
symbol_past valid = omega (arith, valid.statements 0 (stmt 0) (lit< tt) 1 (Imm 0) (lit< tt))

label_past : IsValidFunction 2 (function 4 16 1) → ⊥
label_past valid = omega (arith, valid.statements 0 (stmt 1) (lit< tt) 2 (Imm 0) (lit< tt))

uneven : IsValidFunction 2 (function 4 12 0) → ⊥
uneven valid = (let wrong = valid.locals in cc)

frameless : IsValidFunction 2 (function 512 16 0) → ⊥
frameless valid = (let wrong = valid.frameless (λ none. (let some : 512 ≡ 0 = none in cc)) in cc)
