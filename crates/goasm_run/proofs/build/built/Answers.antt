use Rattle.std.proofs.Common.{Ok}
use Rattle.goasm_run.specs.Builds.{over_sources, build_answer}
use Rattle.goasm_run.specs.Sources.{seen}
use Rattle.goasm_run.proofs.BuildLemmas.{makes_same, build_is}
use Rattle.goasm_run.proofs.build.built.Goals as goal

pub returns : goal.returns
returns c =
    let names = c.in_ok-names.names.items in
    let found = seen c.in_ok-sources.sources in
    makes_same (λ judge. build_answer judge c.args.list.now c.args.parts.now) (λ judge. over_sources judge names (Ok found))
    c.over_tokens.result
    (build_is c.args.list.now c.args.parts.now names found c.in_ok-names.ensures.names
    (rw c.as_slice.ensures.value at c.in_ok-sources.ensures.tokens))
    c.over_tokens.ensures
