use Rattle.std.proofs.Common.{arith}
use Rattle.machine_dump.proofs.SearchLemmas.{roomy}
use Rattle.machine_dump.proofs.WindowLemmas.{starts_behind}
use Rattle.machine_dump.proofs.search.beside.Goals as goal

pub address-requires : goal.address-requires
address-requires c =
    rw c.behind.ensures
    (roomy c.args.body.now c.args.start c.requires.body (omega (arith, c.requires.order, c.requires.high, c.requires.window.most))
    (starts_behind c.args.body.now c.args.start c.requires.newline))
