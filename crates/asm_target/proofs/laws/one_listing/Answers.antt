use Rattle.std.proofs.Common.{sym, ◌∙◌}
use Rattle.asm_target.proofs.ListingLemmas.{same_listing}
use Rattle.asm_target.proofs.laws.one_listing.Goals as goal

pub returns : goal.returns
returns g c = λ bytes code others rest more one two.
    same_listing g.T.Processor.instructions g.T.Processor.fits g.met.T.Processor.prefix_free code others rest more one.fit two.fit
    (sym one.whole ∙ two.whole) one.ends two.ends
