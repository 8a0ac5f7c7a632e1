use Rattle.std.proofs.Common.{◌∙◌}
use Rattle.std.proofs.lemmas.Option.{IfSome_then}
use Rattle.machine_effect.proofs.PageLemmas.{in_view, first_in_view}
use Rattle.machine_effect.proofs.mem.Mem.next.Goals as goal

pub returns-clause-some : goal.returns-clause-some
returns-clause-some c =
    IfSome_then c.first_from.result c.first_from.ensures.some (λ at. first_in_view c.self.inside.pages c.args.self.now c.self.view_is c.args.from at)

pub returns-clause-none : goal.returns-clause-none
returns-clause-none c none q low =
    in_view c.self.inside.pages c.args.self.now c.self.view_is q ∙ c.first_from.ensures.none none q low
