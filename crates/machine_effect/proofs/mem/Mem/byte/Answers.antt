use Rattle.std.proofs.Common.{sym, ◌∙◌}
use Rattle.machine_effect.proofs.PageLemmas.{in_view}
use Rattle.machine_effect.proofs.mem.Mem.byte.Goals as goal

pub returns : goal.returns
returns c = c.byte.ensures ∙ sym (in_view c.self.inside.pages c.args.self.now c.self.view_is c.args.at)
