use Rattle.image_check.proofs.PaddingLemmas.{padded_filled}
use Rattle.image_check.proofs.padding.is_padded.Goals as goal

pub returns : goal.returns
returns c = padded_filled c.args.byte c.args.size c.args.own.now c.behind-rest.result.now c.is_filled.result c.behind-rest.ensures
    c.if-own-ne0.false c.if-rest-ge-ALIGNMENT.false c.is_filled.ensures
