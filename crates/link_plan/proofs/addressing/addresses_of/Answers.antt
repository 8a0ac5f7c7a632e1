use Rattle.std.proofs.Common.{List, ◌++◌, ℕ, subst}
use Rattle.link_names.specs.declared.definition.Meaning.{Meaning}
use Rattle.link_places.specs.Addresses.{TellsAs}
use Rattle.link_plan.specs.Addresses as spec
use Rattle.link_plan.proofs.TellLemmas.{tells_three}
use Rattle.link_plan.proofs.addressing.addresses_of.Goals as goal

pub returns : goal.returns
returns g c =
    let functions = spec.behind spec.text_address (spec.code_meanings c.args.code.now) c.args.plan.now.functions.at in
    tells_three c.tell_functions.new.addresses c.tell_values.new.addresses c.tell_outside.new.addresses functions
    (spec.behind c.args.values_at (spec.value_meanings c.args.plan.now.kept.items) c.args.plan.now.values.at)
    (spec.outside_addresses c.args.outside.now)
    (subst (λ (none : List (Meaning × ℕ)). TellsAs c.tell_functions.new.addresses (none ++ functions)) c.new-addresses.ensures c.in_ok-tell_functions.ensures)
    c.in_ok-tell_values.ensures c.in_ok-tell_outside.ensures
