use Rattle.asm_directive.proofs.LineNameLemmas.{keeps_more}
use Rattle.asm_directive.proofs.marks.Collector.with.Goals as goal

pub invariant_of-result : goal.invariant_of-result
invariant_of-result c =
    rw (c.in_ok-push.ensures.items, c.in_ok-from_slice.ensures)
    (keeps_more c.self.inside.names.items c.args.name.now c.self.inside.seen c.insert.new.self c.in_ok-insert.ensures.adds c.self.invariant)
