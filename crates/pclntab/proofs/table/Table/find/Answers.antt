use Rattle.pclntab.specs.Ready.{IsRead}
use Rattle.pclntab.proofs.RangeLemmas.{one_found, none_found}
use Rattle.pclntab.proofs.table.Table.find.Goals as goal

pub returns-clause-one : goal.returns-clause-one
returns-clause-one c =
    let read : IsRead c.args.self.now = rw c.self.view_is at c.self.invariant.read in
    one_found c.args.self.now c.args.pc c.search.result read c.search.ensures.some

pub returns-clause-covered : goal.returns-clause-covered
returns-clause-covered c = none_found c.args.self.now c.args.pc c.search.result c.search.ensures.none
