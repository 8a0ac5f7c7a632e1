use Rattle.std.proofs.Common.{◌∷◌, arith}
use Rattle.unwind.specs.Looks.{image_of}
use Rattle.goasm_run.specs.Targets.{amd64_machine}
use Rattle.goasm_run.proofs.RunLemmas.{all_unwound}
use Rattle.goasm_run.proofs.laws.kept_runs_are_unwound.Goals as goal

pub returns : goal.returns
returns c = λ image around functions first more short sound surrounds are opens runs.
    all_unwound image (image_of amd64_machine image around functions) (first ∷ more) sound
    (c.kept_runs_are_printed.ensures image around functions first more (omega arith) sound surrounds are opens runs)
