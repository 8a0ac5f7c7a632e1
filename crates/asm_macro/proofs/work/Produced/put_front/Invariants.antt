use Rattle.std.proofs.Common.{◌≡◌, length}
use Rattle.asm_macro.specs.Uses.{front}
use Rattle.asm_macro.specs.Views.{definitions_of, work_of}
use Rattle.asm_macro.proofs.work.Produced.put_front.Given as goal

abbrev pub invariant-loop-placed : goal.invariant-loop-placed
invariant-loop-placed l = record {
  uses : l.self.uses ≡ l.initial.self.uses;
  front : front (definitions_of l.macros) l.pending (work_of l.self) ≡ front (definitions_of l.macros) l.initial.pending (work_of l.initial.self);
}

abbrev pub decreases-loop-placed : goal.decreases-loop-placed
decreases-loop-placed l = length l.pending
