use Rattle.std.proofs.Common.{◌++◌, arith}
use Rattle.link_plan.specs.Addresses.{outside_addresses}
use Rattle.link_plan.proofs.TellLemmas.{outside_more, outside_all}
use Rattle.link_plan.proofs.addressing.tell_outside.Goals as goal

pub loop-number-preserved : goal.loop-number-preserved
loop-number-preserved c =
    outside_more c.args.outside.now c.loop-number.number c.index-outside-number.result c.loop-number.addresses c.insert.new.self
    (c.args.addresses.now ++ outside_addresses c.args.outside.now) (omega arith) c.index-outside-number.is c.loop-number.invariant
    c.in_ok-insert.ensures.adds

pub returns : goal.returns
returns c =
    outside_all c.args.outside.now c.loop-number.number c.loop-number.addresses
    (c.args.addresses.now ++ outside_addresses c.args.outside.now) (omega arith) c.loop-number.invariant
