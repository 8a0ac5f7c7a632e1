use Rattle.std.proofs.Common.{◌∙◌, ap}
use Rattle.goasm_base.specs.NameSet.{is_among}
use Rattle.goasm_base.proofs.NameSetLemmas.{contains_is_among}
use Rattle.goasm_base.proofs.name_set.NameSet.contains.Goals as goal

pub returns : goal.returns
returns c =
    c.contains.ensures ∙ contains_is_among c.args.name.now c.self.inside.names ∙ ap (is_among c.args.name.now) c.self.view_is
