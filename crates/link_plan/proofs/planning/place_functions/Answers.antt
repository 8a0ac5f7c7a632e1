use Rattle.std.proofs.Common.{◌∙◌, arith}
use Rattle.link_plan.proofs.PlacedLemmas.{few_places, text_too_long}
use Rattle.link_plan.proofs.planning.place_functions.Goals as goal

pub returns-clause-count : goal.returns-clause-count
returns-clause-count g c =
    few_places c.as_slice.result.now c.places_of.result (omega (arith, c.as_slice.ensures.len)) c.places_of.ensures.begin

pub returns-clause-none : goal.returns-clause-none
returns-clause-none g c =
    text_too_long c.args.code.now c.as_slice.result.now c.places_of.result (c.as_slice.ensures.value ∙ c.in_ok-sizes.ensures)
    c.places_of.ensures.none
