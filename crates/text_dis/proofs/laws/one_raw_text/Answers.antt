use Rattle.text_dis.proofs.RawLemmas.{same_raw}
use Rattle.text_dis.proofs.laws.one_raw_text.Goals as goal

-- by the processor's laws
pub returns : goal.returns
returns g c =
    same_raw g.T.Processor.instructions g.T.Processor.fits g.T.Processor.QUANTUM g.met.T.Processor.lengths g.met.T.Processor.prefix_free
