use Rattle.std.proofs.Common.{◌≡◌, ◌++◌, drop}
use Rattle.std.specs.List.{filter_map}
use Rattle.goasm_run.specs.Sources as spec
use Rattle.goasm_run.proofs.sources.file_names.Given as goal

abbrev pub invariant-loop-part : goal.invariant-loop-part
invariant-loop-part l =
    l.names.items ++ filter_map (λ part. spec.file_name part.role part.name) (drop l.part-index l.parts)
    ≡ spec.file_names l.list l.parts
