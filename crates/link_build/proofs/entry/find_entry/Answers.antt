use Rattle.std.proofs.Common.{refl, sym, ◌∙◌, arith}
use Rattle.std.proofs.lemmas.List.{length-map}
use Rattle.std.proofs.lemmas.Option.{slice_get_read}
use Rattle.link_build.specs.Functions.{seen}
use Rattle.unit_listing.specs.Kit.{kit_of}
use Rattle.link_build.proofs.EntryLemmas.{entry_here, meant_by, none_more, none_wrong}
use Rattle.link_build.proofs.entry.find_entry.Goals as goal

pub returns-then-is_func-clause-entry : goal.returns-then-is_func-clause-entry
returns-then-is_func-clause-entry g c =
    let names = c.args.names.now in
    let funcs = c.args.funcs.now in
    let number = c.loop-number.number in
    let func = c.index-funcs-number.result in
    let here = slice_get_read funcs _ number func refl (omega arith) c.index-funcs-number.is in
    let meant = meant_by names c.global-meaning.result c.as_slice.result.now c.args.entry.now c.global-meaning.ensures c.as_slice.ensures in
    entry_here c.global-meaning.result funcs names c.args.entry.now number func here meant c.if-is_func.ensures

pub loop-number-preserved : goal.loop-number-preserved
loop-number-preserved g c =
    let funcs = c.args.funcs.now in
    let number = c.loop-number.number in
    let func = c.index-funcs-number.result in
    let here = slice_get_read funcs _ number func refl (omega arith) c.index-funcs-number.is in
    none_more c.global-meaning.result funcs number func here c.if-is_func.ensures c.loop-number.invariant

pub returns-clause-within : goal.returns-clause-within
returns-clause-within g c =
    let kit = kit_of g.T.Processor.instructions g.T.Processor.fits g.T.Processor.MACHINE g.T.Processor.QUANTUM g.T.Processor.SHAPE g.T.Target.selection
    g.T.Target.aiming g.T.Target.entry g.T.Target.check g.T.Target.begins in
    let names = c.args.names.now in
    let funcs = c.args.funcs.now in
    let given = c.requires.resolved in
    let meant = meant_by names c.global-meaning.result c.as_slice.result.now given.0.entry c.global-meaning.ensures (c.as_slice.ensures ∙ sym given.4) in
    absurd (none_wrong c.global-meaning.result funcs kit given.0 names given.1 c.loop-number.number given.3 given.5 meant
    (omega (arith, length-map funcs seen, c.loop-number-test.false)) c.loop-number.invariant)

pub returns-clause-entry : goal.returns-clause-entry
returns-clause-entry g c =
    let kit = kit_of g.T.Processor.instructions g.T.Processor.fits g.T.Processor.MACHINE g.T.Processor.QUANTUM g.T.Processor.SHAPE g.T.Target.selection
    g.T.Target.aiming g.T.Target.entry g.T.Target.check g.T.Target.begins in
    let names = c.args.names.now in
    let funcs = c.args.funcs.now in
    let given = c.requires.resolved in
    let meant = meant_by names c.global-meaning.result c.as_slice.result.now given.0.entry c.global-meaning.ensures (c.as_slice.ensures ∙ sym given.4) in
    absurd (none_wrong c.global-meaning.result funcs kit given.0 names given.1 c.loop-number.number given.3 given.5 meant
    (omega (arith, length-map funcs seen, c.loop-number-test.false)) c.loop-number.invariant)
