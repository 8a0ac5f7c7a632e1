use Rattle.image_rules.specs.Machine.{machine_of}
use Rattle.text_chain.proofs.OneLemmas.{no_refusal, one_refusal, one_text}
use Rattle.text_chain.proofs.laws.one_chain.Goals as goal

pub returns-clause-text : goal.returns-clause-text
returns-clause-text g c = λ image dump text other is that.
    let machine = machine_of g.T.Processor.instructions g.T.Processor.fits g.T.Processor.MACHINE g.T.Processor.QUANTUM g.T.Processor.SHAPE
    g.T.Processor.GROWTH g.T.Target.begins in
    one_text machine (record { around = c.one_function.ensures.around; function = c.one_function.ensures.function }) image dump text other is that

pub returns-clause-never : goal.returns-clause-never
returns-clause-never g c = λ image dump text refusal is.
    let machine = machine_of g.T.Processor.instructions g.T.Processor.fits g.T.Processor.MACHINE g.T.Processor.QUANTUM g.T.Processor.SHAPE
    g.T.Processor.GROWTH g.T.Target.begins in
    no_refusal machine (record { around = c.one_function.ensures.around; function = c.one_function.ensures.function }) image dump text refusal is

pub returns-clause-refusal : goal.returns-clause-refusal
returns-clause-refusal g c = λ image dump refusal other is that.
    let machine = machine_of g.T.Processor.instructions g.T.Processor.fits g.T.Processor.MACHINE g.T.Processor.QUANTUM g.T.Processor.SHAPE
    g.T.Processor.GROWTH g.T.Target.begins in
    one_refusal machine (record { around = c.one_function.ensures.around; function = c.one_function.ensures.function }) image dump refusal other is that
