use Rattle.image_rules.specs.Machine.{machine_of}
use Rattle.text_dis.proofs.ListingLemmas.{same_text}
use Rattle.text_dis.proofs.laws.one_text.Goals as goal

pub returns : goal.returns
returns g c = λ bytes text other is that.
    let machine = machine_of g.T.Processor.instructions g.T.Processor.fits g.T.Processor.MACHINE g.T.Processor.QUANTUM g.T.Processor.SHAPE
    g.T.Processor.GROWTH g.T.Target.begins in
    same_text machine bytes c.one_listing.ensures text other is that
