use Rattle.text_dis.specs.Reading.{raw_text}
use Rattle.text_dis.proofs.RawLemmas.{same_raw}
use Rattle.text_dis.proofs.ReadingLemmas.{some_quantum, is_text}
use Rattle.text_dis.proofs.laws.raw_text_by_reading.Goals as goal

pub returns-clause-some : goal.returns-clause-some
returns-clause-some g c = λ reading bytes is.
    let target = g.T.Processor in
    is_text target.instructions target.fits target.QUANTUM
    (some_quantum _ g.met.T.Processor.architecture)
    g.met.T.Processor.lengths reading is bytes

pub returns-clause-one : goal.returns-clause-one
returns-clause-one g c = λ reading bytes text is raw.
    let target = g.T.Processor in
    same_raw target.instructions target.fits target.QUANTUM g.met.T.Processor.lengths g.met.T.Processor.prefix_free
    0 bytes text (raw_text target.instructions target.QUANTUM reading bytes) raw
    (is_text target.instructions target.fits target.QUANTUM
    (some_quantum _ g.met.T.Processor.architecture)
    g.met.T.Processor.lengths reading is bytes)
