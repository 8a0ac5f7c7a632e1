use Rattle.std.proofs.Common.{ap, sym, ◌∙◌}
use Rattle.std.proofs.lemmas.Result.{on_ok_weaker}
use Rattle.image_rules.specs.Machine.{machine_of}
use Rattle.pclntab.specs.Func.{name_of}
use Rattle.text_dis.proofs.ListingLemmas.{function_told, own_listing}
use Rattle.text_dis.proofs.image.push_function.Goals as goal

pub returns : goal.returns
returns g c = λ listed is.
    let machine = machine_of g.T.Processor.instructions g.T.Processor.fits g.T.Processor.MACHINE g.T.Processor.QUANTUM g.T.Processor.SHAPE
    g.T.Processor.GROWTH g.T.Target.begins in
    let bytes = c.args.image.now in
    on_ok_weaker c.push_code.result
    (function_told machine bytes c.args.index c.own_bytes-at.result.0 listed c.name.result.now c.args.text.now c.push_title.new.text
    c.push_code.new.text is c.own_bytes-at.ensures.entry
    (ap (λ f. name_of f.bytes f.index) (sym c.function.ensures) ∙ c.name.ensures) c.in_ok-push_title.ensures)
    (c.push_code.ensures is.code is.is_code.rest
    (own_listing machine bytes c.args.index listed c.own_bytes-at.result.1.now is c.own_bytes-at.ensures.bytes))
