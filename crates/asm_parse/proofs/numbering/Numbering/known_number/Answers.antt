use Rattle.asm_parse.proofs.NumberingLemmas.{has_number}
use Rattle.asm_parse.proofs.numbering.Numbering.known_number.Goals as goal

pub unreachable-requires : goal.unreachable-requires
unreachable-requires c = has_number c.args.self.now (c.args.name.now, c.args.fixed) c.requires c.in-None.ensures.number
