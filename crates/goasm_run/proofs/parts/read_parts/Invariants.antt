use Rattle.std.specs.Vec.Iter.{into_iter_items}
use Rattle.goasm_run.proofs.PartLemmas.{ReadUpTo}
use Rattle.goasm_run.specs.Changes.{shelf_change}
use Rattle.goasm_run.proofs.parts.read_parts.Given as goal

abbrev pub invariant-loop-line : goal.invariant-loop-line
invariant-loop-line g l =
    ReadUpTo (shelf_change g.F.Shelf.holds g.F.Shelf.faults g.F.Shelf.reads l.fn.shelf l.shelf) (g.F.Shelf.holds l.shelf)
    l.fn.lines.items (into_iter_items l.line-iterator) l.number l.parts.items
