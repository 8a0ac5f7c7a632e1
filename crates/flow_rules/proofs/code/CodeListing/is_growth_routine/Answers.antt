use Rattle.std.proofs.Common.{◌∙◌}
use Rattle.flow_rules.proofs.EntryLemmas.{searched_entries}
use Rattle.flow_rules.proofs.code.CodeListing.is_growth_routine.Goals as goal

pub returns : goal.returns
returns g c =
    c.is_ok.ensures.value ∙ searched_entries c.args.self.now.out.now.growth.now c.args.address c.binary_search.result
    c.binary_search.ensures.position c.args.self.now.routines
