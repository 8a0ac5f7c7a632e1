use Rattle.std.proofs.Common.{◌≡◌, ◌<◌, length, arith}
use Rattle.std.proofs.lemmas.Bool.{leb-false}
use Rattle.std.proofs.lemmas.Bool.Decides.{nat_tests}
use Rattle.machine_dump.proofs.WordLemmas.{none_empty, none_low, roomy_first}
use Rattle.machine_dump.proofs.search.begins_low.Goals as goal

pub returns-then-is_empty-clause-high : goal.returns-then-is_empty-clause-high
returns-then-is_empty-clause-high c is =
    let empty : length c.args.body.now ≡ 0 = grind (arith, nat_tests) in
    none_empty c.args.body.now c.args.at empty

pub address-requires : goal.address-requires
address-requires c =
    let some : 0 < length c.args.body.now = grind (arith, nat_tests) in
    roomy_first c.args.body.now c.requires some

pub returns-clause-high : goal.returns-clause-high
returns-clause-high c is =
    let some : 0 < length c.args.body.now = grind (arith, nat_tests) in
    none_low c.args.body.now c.args.at c.requires some
    (omega (arith, leb-false c.address.result c.args.at is, c.address.ensures))
