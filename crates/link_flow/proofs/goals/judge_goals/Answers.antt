use Rattle.std.proofs.Common.{◌≡◌, Err, refl, arith, rules}
use Rattle.std.proofs.lemmas.Option.{slice_get_read}
use Rattle.link_build.specs.Functions.{seen}
use Rattle.unit_listing.specs.Kit.{kit_of}
use Rattle.link_flow.specs.Refusals.{KeepsGoals}
use Rattle.link_flow.proofs.ListLemmas.{mapped_at, of_all, one_more}
use Rattle.link_flow.proofs.PlaceLemmas.{code_somewhere, within_funcs}
use Rattle.link_flow.proofs.goals.judge_goals.Goals as goal

pub judge_func-requires-clause-placed : goal.judge_func-requires-clause-placed
judge_func-requires-clause-placed g c =
    let kit = kit_of g.T.Processor.instructions g.T.Processor.fits g.T.Processor.MACHINE g.T.Processor.QUANTUM g.T.Processor.SHAPE g.T.Target.selection
    g.T.Target.aiming g.T.Target.entry g.T.Target.check g.T.Target.begins in
    let number = c.loop-number.number in
    let func = c.index-funcs-number.result in
    let code = c.index-codes-number.result in
    let within = within_funcs kit c.args.funcs.now c.args.codes.now number c.requires.placed (omega arith) in
    let here = slice_get_read c.args.funcs.now _ number func refl within c.index-funcs-number.is in
    let there = slice_get_read c.args.codes.now _ number code refl (omega arith) c.index-codes-number.is in
    code_somewhere kit _ c.args.codes.now number (seen func) code (mapped_at seen c.args.funcs.now number func here) there c.requires.placed

pub loop-number-preserved : goal.loop-number-preserved
loop-number-preserved g c =
    let kit = kit_of g.T.Processor.instructions g.T.Processor.fits g.T.Processor.MACHINE g.T.Processor.QUANTUM g.T.Processor.SHAPE g.T.Target.selection
    g.T.Target.aiming g.T.Target.entry g.T.Target.check g.T.Target.begins in
    let codes = c.args.codes.now in
    let number = c.loop-number.number in
    let code = c.index-codes-number.result in
    let there = slice_get_read codes _ number code refl (omega arith) c.index-codes-number.is in
    one_more (KeepsGoals kit c.args.around.now) codes number code there c.in_ok-judge_func.ensures.kept c.loop-number.invariant

pub returns-clause-kept : goal.returns-clause-kept
returns-clause-kept g c =
    let kit = kit_of g.T.Processor.instructions g.T.Processor.fits g.T.Processor.MACHINE g.T.Processor.QUANTUM g.T.Processor.SHAPE g.T.Target.selection
    g.T.Target.aiming g.T.Target.entry g.T.Target.check g.T.Target.begins in
    of_all (KeepsGoals kit c.args.around.now) c.args.codes.now c.loop-number.number (omega arith) c.loop-number.invariant

pub returns-in_err-judge_func-clause-astray : goal.returns-in_err-judge_func-clause-astray
returns-in_err-judge_func-clause-astray g c = λ no same real.
    let kit = kit_of g.T.Processor.instructions g.T.Processor.fits g.T.Processor.MACHINE g.T.Processor.QUANTUM g.T.Processor.SHAPE g.T.Target.selection
    g.T.Target.aiming g.T.Target.entry g.T.Target.check g.T.Target.begins in
    let funcs = c.args.funcs.now in
    let codes = c.args.codes.now in
    let number = c.loop-number.number in
    let func = c.index-funcs-number.result in
    let code = c.index-codes-number.result in
    let within = within_funcs kit funcs codes number c.requires.placed (omega arith) in
    let here = slice_get_read funcs _ number func refl within c.index-funcs-number.is in
    let there = slice_get_read codes _ number code refl (omega arith) c.index-codes-number.is in
    let told = rw same at c.from_residual.ensures.1 in
    let err : Err c.in_err-judge_func.field-0.0 ≡ Err no = search rules in
    record {
      number = number;
      func = seen func;
      here = mapped_at seen funcs number func here;
      code = code;
      there = there;
      broken = c.in_err-judge_func.ensures.astray no err real;
      before = c.loop-number.invariant;
    }
