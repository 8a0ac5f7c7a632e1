use Rattle.asm_parse.proofs.NumberingLemmas.{seen_number}
use Rattle.asm_parse.proofs.numbering.Numbering.number.Goals as goal

pub returns-clause-number : goal.returns-clause-number
returns-clause-number c = rw (← c.self.view_is, c.get_index_of.ensures.index) (seen_number c.self.inside.names.keys (c.args.name, c.args.fixed))
