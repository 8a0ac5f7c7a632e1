use Rattle.std.proofs.Common.{arith}
use Rattle.link_values.specs.Kept.{placed}
use Rattle.link_values.specs.declared.kept.KeptValue.{KeptValue}
use Rattle.link_values.proofs.PlacedLemmas.{placed_more, placed_all}
use Rattle.link_values.proofs.bytes.places_by_meaning.Goals as goal

-- what is read of no place
nothing : KeptValue
nothing = record { unit = 0; number = 0; size = 0 }

pub loop-number-preserved : goal.loop-number-preserved
unfolding nothing
loop-number-preserved c =
    placed_more c.args.kept.now c.args.at.now c.loop-number.number nothing c.loop-number.places c.insert.new.self (placed c.args.kept.now c.args.at.now)
    (omega arith) (omega arith) c.loop-number.invariant c.in_ok-insert.ensures.adds

pub returns : goal.returns
returns c =
    placed_all c.args.kept.now c.args.at.now c.loop-number.number c.loop-number.places (placed c.args.kept.now c.args.at.now)
    (omega arith) c.loop-number.invariant
