use Rattle.std.proofs.Common.{◌≤◌, ◌^◌, List, ◌++◌, length, ap, sym, subst, ◌∙◌}
use Rattle.std.specs.Prelude.{All}
use Rattle.link_names.specs.declared.definition.Meaning.{Meaning}
use Rattle.link_places.specs.Addresses.{TellsAs}
use Rattle.link_values.specs.Kept.{sizes_of}
use Rattle.link_plan.specs.Addresses as spec
use Rattle.link_plan.proofs.SizeLemmas.{values_as_many}
use Rattle.link_plan.proofs.PlacedLemmas.{all_near, one_each}
use Rattle.link_plan.proofs.addressing.tell_values.Goals as goal

pub tell-requires-clause-as_many : goal.tell-requires-clause-as_many
tell-requires-clause-as_many c =
    ap length (c.as_slice-things.ensures.value ∙ c.in_ok-meanings.ensures ∙ ap spec.value_meanings c.as_slice-kept.ensures.value)
    ∙ values_as_many c.args.plan.now.kept.items
    ∙ sym (ap length c.as_slice-at.ensures ∙ one_each (sizes_of c.args.plan.now.kept.items) c.args.plan.now.values c.requires.placed)

pub tell-requires-clause-near : goal.tell-requires-clause-near
tell-requires-clause-near c =
    subst (All (λ place. place ≤ 2 ^ 24)) (sym c.as_slice-at.ensures)
    (all_near (sizes_of c.args.plan.now.kept.items) c.args.plan.now.values c.requires.placed)

pub returns : goal.returns
returns c =
    let from = c.args.values_at in
    subst (λ at. TellsAs c.tell.new.addresses (c.args.addresses.now ++ spec.behind from (spec.value_meanings c.args.plan.now.kept.items) at))
    c.as_slice-at.ensures
    (subst (λ (things : List Meaning). TellsAs c.tell.new.addresses (c.args.addresses.now ++ spec.behind from things c.as_slice-at.result.now))
    (c.as_slice-things.ensures.value ∙ c.in_ok-meanings.ensures ∙ ap spec.value_meanings c.as_slice-kept.ensures.value) c.in_ok-tell.ensures)
