use Rattle.std.proofs.Common.{length}
use Rattle.asm_parse.proofs.resolve.operand_of.Goals as goal

pub returns-in-Bare-clause-exact : goal.returns-in-Bare-clause-exact
returns-in-Bare-clause-exact g c = λ word tells. rw c.in-Bare.is (c.bare.ensures.exact word tells)

pub returns-in-Bare-clause-valid : goal.returns-in-Bare-clause-valid
returns-in-Bare-clause-valid g c = c.bare.ensures.valid (length c.args.symbols.now)
