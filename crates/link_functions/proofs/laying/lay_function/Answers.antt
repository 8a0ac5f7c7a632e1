use Rattle.std.proofs.Common.{length}
use Rattle.std.proofs.lemmas.Result.{IfOk-weaker}
use Rattle.obj_rewrite.specs.Rewriting.{site_of}
use Rattle.unit_listing.specs.Kit.{frame_of, guard_of, kit_of, rules_for}
use Rattle.unit_listing.specs.Laid.{IsLaid}
use Rattle.unit_listing.proofs.FrameLemmas.{frame_fits}
use Rattle.link_functions.specs.Code.{IsSoundLaid}
use Rattle.link_functions.proofs.SymbolLemmas.{lines_within}
use Rattle.link_functions.proofs.laying.lay_function.Goals as goal

pub returns-clause-laid : goal.returns-clause-laid
returns-clause-laid g c =
    let kit = kit_of g.T.Processor.instructions g.T.Processor.fits g.T.Processor.MACHINE g.T.Processor.QUANTUM g.T.Processor.SHAPE g.T.Target.selection
    g.T.Target.aiming g.T.Target.entry g.T.Target.check g.T.Target.begins in
    let symbols = length c.args.symbols.now in
    let function = c.args.function.now in
    let frame = frame_of kit function in
    IfOk-weaker c.lay.result (IsLaid kit function) (IsSoundLaid kit symbols function)
    (λ laid is. record {
      laid_is = is;
      within = lines_within symbols (rules_for kit function) function frame (guard_of kit function) (kit.entry frame) c.requires
          (g.met.T.Target.stays_around frame (frame_fits kit.machine symbols function c.requires is.rewritten.most))
          (λ stmt depth picks becomes. g.met.T.Target.refers stmt (site_of depth frame) picks becomes) laid.body.code is.rewritten.lines;
    })
    c.lay.ensures.laid
