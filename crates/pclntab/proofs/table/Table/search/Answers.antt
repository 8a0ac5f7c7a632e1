use Rattle.std.proofs.Common.{◌-◌, IsTrue, false, arith, refl}
use Rattle.pclntab.specs.Func.{HasPc}
use Rattle.pclntab.specs.Ready.{IsBegun}
use Rattle.pclntab.proofs.SearchLemmas.{none_begun, none_at_last}
use Rattle.pclntab.proofs.table.Table.search.Goals as goal

pub returns-then-begun-eq0-clause-exact : goal.returns-then-begun-eq0-clause-exact
returns-then-begun-eq0-clause-exact c =
    let begun : IsBegun c.args.self.now c.args.pc 0 = rw c.if-begun-eq0.true at c.begun_by-begun.ensures in
    rw (none_begun c.args.self.now c.args.pc begun) refl

pub returns-else-has-clause-exact : goal.returns-else-has-clause-exact
returns-else-has-clause-exact c =
    let count = c.begun_by-begun.result in
    let lacks : HasPc c.args.self.now (count - 1) c.args.pc → ⊥ = λ has.
    let here : HasPc c.at-last.result.bytes c.at-last.result.index c.args.pc = rw c.at-last.ensures has in
    let wrong : IsTrue false = c.if-has.ensures.1 here in
    cc
    in
    rw (none_at_last c.args.self.now c.args.pc count (omega arith) c.begun_by-begun.ensures lacks) refl
