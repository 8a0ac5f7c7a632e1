use Rattle.std.proofs.Common.{not, ap}
use Rattle.asm_parse.proofs.NumberingLemmas.{seen_any, seen_place, seen_with}
use Rattle.asm_parse.proofs.numbering.Numbering.add.Goals as goal

pub returns-clause-names : goal.returns-clause-names
returns-clause-names c = rw (← c.self.view_is, c.in_ok-insert_full.ensures.keys) (seen_with c.self.inside.names.keys (c.args.name, c.args.fixed))

pub returns-clause-number : goal.returns-clause-number
returns-clause-number c = rw (← c.self.view_is, c.in_ok-insert_full.ensures.index) (seen_place c.self.inside.names.keys (c.args.name, c.args.fixed))

pub returns-clause-added : goal.returns-clause-added
returns-clause-added c = rw (← c.self.view_is, c.in_ok-insert_full.ensures.added) (ap not (seen_any c.self.inside.names.keys (c.args.name, c.args.fixed)))
