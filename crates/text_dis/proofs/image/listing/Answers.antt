use Rattle.std.proofs.Common.{◌≡◌, ◌++◌, ◌<◌, ap, sym, add-one, ◌∙◌, arith}
use Rattle.image_rules.specs.Machine.{machine_of}
use Rattle.image_rules.specs.Parts.{count_in}
use Rattle.text_dis.specs.Listing.{function_name, function_text, functions_text}
use Rattle.text_dis.proofs.ListingLemmas.{has_text}
use Rattle.text_dis.proofs.image.listing.Goals as goal

pub loop-index-preserved : goal.loop-index-preserved
loop-index-preserved g c = λ functions are.
    let set = g.T.Processor.instructions in
    let index = c.loop-index.index in
    let below : index < count_in c.args.image.now = omega (arith, c.loop-index-test.true, c.count-index-end.ensures) in
    c.in_ok-push_function.ensures (functions index) (are index below)
    ∙ ap (λ text. text ++ function_text set (function_name c.args.image.now index) (functions index).code) (c.loop-index.invariant functions are)
    ∙ ap (functions_text set c.args.image.now functions) (sym (add-one index))

pub returns-clause-some : goal.returns-clause-some
returns-clause-some g c =
    let machine = machine_of g.T.Processor.instructions g.T.Processor.fits g.T.Processor.MACHINE g.T.Processor.QUANTUM g.T.Processor.SHAPE
    g.T.Processor.GROWTH g.T.Target.begins in
    let all : c.loop-index.index ≡ count_in c.args.image.now =
    omega (arith, c.loop-index-test.false, c.loop-index.auto.index-end, c.count-index-end.ensures) in
    has_text machine c.args.image.now c.sound.ensures c.finish.result
    (λ functions are. c.finish.ensures ∙ c.loop-index.invariant functions are ∙ ap (functions_text machine.set c.args.image.now functions) all)
