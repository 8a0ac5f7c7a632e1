use Rattle.std.proofs.Common.{length, sym, arith}
use Rattle.std.proofs.lemmas.Bool.{le-ltb}
use Rattle.pcvalue.specs.Steps.{point_of}
use Rattle.pcvalue.proofs.TableLemmas.{goes_on}
use Rattle.pcvalue.proofs.lookup.value_from.Goals as goal

pub runs-preserved : goal.runs-preserved
runs-preserved c =
    goes_on (length c.args.bytes.now) c.runs.counter c.args.quantum c.args.place c.runs.first
    (point_of c.runs.cursor) (point_of c.in-Another.next) _
    (omega arith) (sym c.in-Another.ensures) (le-ltb _ _ c.if-place-next.false) c.runs.invariant
