use Rattle.std.proofs.Common.{sym, subst}
use Rattle.std.specs.Prelude.{All}
use Rattle.asm_parse.specs.Placed.{LineIn}
use Rattle.asm_parse.proofs.resolve.function_of.Goals as goal

pub returns-clause-placed : goal.returns-clause-placed
returns-clause-placed g c = λ count placed. record {
  pos = placed.pos;
  stmts = c.in_ok-stmts.ensures.placed count (subst (All (LineIn count)) (sym c.as_slice.ensures) placed.lines);
}
