use Rattle.std.proofs.Common.{List, ℕ, subst, sym}
use Rattle.std.specs.List.Sorted.{IsNonDecreasing}
use Rattle.image_rules.specs.Machine.{Machine, machine_of}
use Rattle.image_check.proofs.OwnerLemmas.{offsets_fit, ordered}
use Rattle.image_check.proofs.accepted.Accepted.new.Given
use Rattle.image_check.proofs.accepted.Accepted.new.Goals as goal

abbrev machine_in : (g : Given.Over) → Machine g.row.T-Instr.Denot
machine_in g =
    machine_of g.T.Processor.instructions g.T.Processor.fits g.T.Processor.MACHINE g.T.Processor.QUANTUM g.T.Processor.SHAPE
    g.T.Processor.GROWTH g.T.Target.begins

pub entries_of-requires-clause-inside : goal.entries_of-requires-clause-inside
entries_of-requires-clause-inside g c = offsets_fit (machine_in g) c.args.image c.requires.marked.sound.readable.profile c.requires.marked.short

pub new-requires-clause-ordered : goal.new-requires-clause-ordered
new-requires-clause-ordered g c =
    subst (λ (entries : List ℕ). IsNonDecreasing entries) (sym c.deref.ensures.value)
    (ordered (machine_in g) c.args.image c.requires.marked.sound.readable.profile c.in_ok-entries.entries.items c.in_ok-entries.ensures)
