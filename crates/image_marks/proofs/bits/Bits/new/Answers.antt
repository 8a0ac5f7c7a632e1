use Rattle.std.proofs.Common.{◌+◌, ◌/◌}
use Rattle.image_marks.proofs.BitLemmas.{none_has}
use Rattle.image_marks.proofs.bits.Bits.new.Goals as goal

pub returns-clause-empty : goal.returns-clause-empty
returns-clause-empty c number =
    rw (c.in_ok-vec.ensures.items_if_clones_equal (λ y same. same)) (none_has (c.args.bound / 64 + 1) number)
