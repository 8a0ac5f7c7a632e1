use Rattle.unit_listing.specs.Kit.{kit_of}
use Rattle.build_answer.proofs.CauseLemmas.{code_is, not_unresolved, one_cause, same_names}
use Rattle.build_answer.proofs.CodeLemmas.{LaidLaws}
use Rattle.build_answer.proofs.laws.one_build.Goals as goal

pub returns-clause-names : goal.returns-clause-names
returns-clause-names g c = λ build names others code again one two.
    let kit = kit_of g.T.Processor.instructions g.T.Processor.fits g.T.Processor.MACHINE g.T.Processor.QUANTUM g.T.Processor.SHAPE g.T.Target.selection
    g.T.Target.aiming g.T.Target.entry g.T.Target.check g.T.Target.begins in
    same_names kit build names others one.laid.room.named two.laid.room.named

pub returns-clause-code : goal.returns-clause-code
returns-clause-code g c = λ build names others code again valid one two.
    let kit = kit_of g.T.Processor.instructions g.T.Processor.fits g.T.Processor.MACHINE g.T.Processor.QUANTUM g.T.Processor.SHAPE g.T.Target.selection
    g.T.Target.aiming g.T.Target.entry g.T.Target.check g.T.Target.begins in
    let laws : LaidLaws kit =
    record { one = c.one_listing.ensures.one_laid; never = c.one_listing.ensures.never_laid; first = c.one_listing.ensures.first_laid } in
    code_is kit build laws names others code again one.laid two.laid

pub returns-clause-never : goal.returns-clause-never
returns-clause-never g c = λ build names code told valid resolved.
    let kit = kit_of g.T.Processor.instructions g.T.Processor.fits g.T.Processor.MACHINE g.T.Processor.QUANTUM g.T.Processor.SHAPE g.T.Target.selection
    g.T.Target.aiming g.T.Target.entry g.T.Target.check g.T.Target.begins in
    let laws : LaidLaws kit =
    record { one = c.one_listing.ensures.one_laid; never = c.one_listing.ensures.never_laid; first = c.one_listing.ensures.first_laid } in
    not_unresolved kit build laws valid names code told resolved

pub returns-clause-first : goal.returns-clause-first
returns-clause-first g c = λ build told other valid one two.
    let kit = kit_of g.T.Processor.instructions g.T.Processor.fits g.T.Processor.MACHINE g.T.Processor.QUANTUM g.T.Processor.SHAPE g.T.Target.selection
    g.T.Target.aiming g.T.Target.entry g.T.Target.check g.T.Target.begins in
    let laws : LaidLaws kit =
    record { one = c.one_listing.ensures.one_laid; never = c.one_listing.ensures.never_laid; first = c.one_listing.ensures.first_laid } in
    one_cause kit build laws valid told other one two
