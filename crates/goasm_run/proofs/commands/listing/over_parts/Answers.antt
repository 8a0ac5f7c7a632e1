use Rattle.goasm_run.specs.Builds.{build_answer}
use Rattle.goasm_run.specs.Listing.{listing_judge}
use Rattle.goasm_run.proofs.BuildLemmas.{settled_by, stop_settles}
use Rattle.goasm_run.proofs.commands.listing.over_parts.Goals as goal

pub returns-in_err-build : goal.returns-in_err-build
returns-in_err-build c =
    stop_settles (build_answer (listing_judge c.args.architecture) c.args.list.now c.args.parts.now) c.from_residual.result
    c.in_err-build.field-0.0 c.from_residual.ensures.1 (c.in_err-build.ensures.stopped (listing_judge c.args.architecture))

pub returns : goal.returns
returns c =
    let judge = listing_judge c.args.architecture in
    settled_by (build_answer judge c.args.list.now c.args.parts.now)
    (judge c.in_ok-build.build.files.items c.in_ok-build.build.sources.items) c.over_sources.result
    (c.in_ok-build.ensures.made judge) (rw (c.as_slice.ensures.value, c.as_slice-2.ensures.value) at c.over_sources.ensures)
