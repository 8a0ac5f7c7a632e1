use Rattle.std.proofs.Common.{◌≤◌, ◌^◌, List, ◌++◌, length, ap, sym, subst, ◌∙◌}
use Rattle.std.specs.Prelude.{All}
use Rattle.link_names.specs.declared.definition.Meaning.{Meaning}
use Rattle.link_places.specs.Addresses.{TellsAs}
use Rattle.link_plan.specs.Sizes.{code_sizes}
use Rattle.link_plan.specs.Addresses as spec
use Rattle.link_plan.proofs.SizeLemmas.{functions_as_many}
use Rattle.link_plan.proofs.PlacedLemmas.{all_near, one_each}
use Rattle.link_plan.proofs.addressing.tell_functions.Goals as goal

pub tell-requires-clause-as_many : goal.tell-requires-clause-as_many
tell-requires-clause-as_many g c =
    ap length (c.as_slice-things.ensures.value ∙ c.in_ok-meanings.ensures) ∙ functions_as_many c.args.code.now
    ∙ sym (ap length c.as_slice-at.ensures ∙ one_each (code_sizes c.args.code.now) c.args.plan.now.functions c.requires)

pub tell-requires-clause-near : goal.tell-requires-clause-near
tell-requires-clause-near g c =
    subst (All (λ place. place ≤ 2 ^ 24)) (sym c.as_slice-at.ensures) (all_near (code_sizes c.args.code.now) c.args.plan.now.functions c.requires)

pub returns : goal.returns
returns g c =
    subst (λ at. TellsAs c.tell.new.addresses (c.args.addresses.now ++ spec.behind spec.text_address (spec.code_meanings c.args.code.now) at))
    c.as_slice-at.ensures
    (subst (λ (things : List Meaning). TellsAs c.tell.new.addresses (c.args.addresses.now ++ spec.behind spec.text_address things c.as_slice-at.result.now))
    (c.as_slice-things.ensures.value ∙ c.in_ok-meanings.ensures) c.in_ok-tell.ensures)
