use Rattle.std.proofs.Common.{◌<◌, ◌≤◌, ◌+◌, ◌-◌, ◌/◌, arith, rules}
use Rattle.pclntab.specs.Func.{entry_of}
use Rattle.pclntab.specs.Ready.{IsRead}
use Rattle.pclntab.proofs.SearchLemmas.{begun_to, later_from}
use Rattle.pclntab.proofs.table.Table.begun_by.Goals as goal

pub loop-low-preserved-then-entry-pc : goal.loop-low-preserved-then-entry-pc
loop-low-preserved-then-entry-pc c =
    let read : IsRead c.args.self.now = rw c.self.view_is at c.self.invariant.read in
    let here : entry_of c.args.self.now (c.loop-low.low + (c.loop-low.high - c.loop-low.low) / 2) ≤ c.args.pc = search rules in
    record {
      ordered = omega arith;
      within = c.loop-low.invariant.within;
      begun = λ index inside. begun_to c.args.self.now c.args.pc (c.loop-low.low + (c.loop-low.high - c.loop-low.low) / 2) index read (omega arith) here inside;
      later = c.loop-low.invariant.later;
    }

pub loop-low-preserved : goal.loop-low-preserved
loop-low-preserved c =
    let read : IsRead c.args.self.now = rw c.self.view_is at c.self.invariant.read in
    let here : c.args.pc < entry_of c.args.self.now (c.loop-low.low + (c.loop-low.high - c.loop-low.low) / 2) = search rules in
    record {
      ordered = omega arith;
      within = omega arith;
      begun = c.loop-low.invariant.begun;
      later = λ index behind within. later_from c.args.self.now c.args.pc (c.loop-low.low + (c.loop-low.high - c.loop-low.low) / 2) index read here behind within;
    }
