use Rattle.image_rules.specs.Machine.{machine_of}
use Rattle.image_rules.proofs.AroundLemmas.{same_around}
use Rattle.image_rules.proofs.FunctionLemmas.{same_function}
use Rattle.image_rules.proofs.laws.one_function.Goals as goal

pub returns-clause-around : goal.returns-clause-around
returns-clause-around g c = same_around

pub returns-clause-function : goal.returns-clause-function
returns-clause-function g c =
    same_function
    (machine_of g.T.Processor.instructions g.T.Processor.fits g.T.Processor.MACHINE g.T.Processor.QUANTUM g.T.Processor.SHAPE
    g.T.Processor.GROWTH g.T.Target.begins)
    g.met.T.Processor.prefix_free g.met.T.Processor.lengths c.values_are_settled.ensures.one
