use Rattle.std.proofs.Common.{refl}
use Rattle.pclntab.specs.Written.{stored}
use Rattle.pclntab.specs.Stock.{offsets_from}
use Rattle.pclntab.proofs.stock.empty_stock.Goals as goal

pub returns-clause-stock : goal.returns-clause-stock
unfolding stored offsets_from
returns-clause-stock c = rw c.new.ensures.empty (record { bytes = c.in_ok-from_slice.ensures.items; offsets = refl })
