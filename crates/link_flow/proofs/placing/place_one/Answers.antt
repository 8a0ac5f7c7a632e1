use Rattle.std.proofs.Common.{◌+◌, refl, ◌∙◌}
use Rattle.link_code.specs.declared.site.Site.{Site}
use Rattle.link_plan.specs.Addresses.{text_address}
use Rattle.link_flow.proofs.placing.place_one.Goals as goal

pub returns-clause-far : goal.returns-clause-far
returns-clause-far g c = λ no same real.
    let site : Site = record {
      entry = text_address + c.args.at;
      addresses = c.as_slice.result;
      growth = c.growth_address.result;
    } in (
      site,
      record {
        entry = refl;
        symbols = c.as_slice.ensures.value ∙ c.in_ok-turn_to.ensures.at;
        growth = c.growth_address.ensures;
      },
      c.place_func.ensures.far no same real,
    )
