use Rattle.std.proofs.Common.{length, arith}
use Rattle.goasm_run.proofs.ListingLemmas.{tokens_in, parse_named}
use Rattle.goasm_run.proofs.commands.listing.for_target.Goals as goal

pub of_units-requires-clause-valid : goal.of_units-requires-clause-valid
of_units-requires-clause-valid g c = rw c.as_slice.ensures c.in-Ok.ensures.valid

pub of_units-requires-clause-placed : goal.of_units-requires-clause-placed
of_units-requires-clause-placed g c =
    let count = length c.args.files.now in
    rw c.as_slice.ensures (c.in-Ok.ensures.placed count (tokens_in count c.args.sources.now c.requires.expanded.placed))

pub unparsed-requires : goal.unparsed-requires
unparsed-requires g c =
    let count = length c.args.files.now in
    parse_named c.in-Err.no count c.args.files.now
    (c.in-Err.ensures.placed count (tokens_in count c.args.sources.now c.requires.expanded.placed)) (omega arith)
