use Rattle.goasm_run.specs.declared.architecture.Architecture.TheVariants.{Amd64}
use Rattle.goasm_run.proofs.ListingLemmas.{only_amd64}
use Rattle.goasm_run.proofs.commands.listing.over_sources.Goals as goal

pub returns : goal.returns
returns c =
    rw (only_amd64 c.args.architecture)
    (c.for_target.ensures Amd64 (λ name answer told. told) (λ files units ending is. is))
