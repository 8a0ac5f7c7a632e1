use Rattle.std.proofs.Common.{◌≡◌, length, arith, ◌∙◌, ap}
use Rattle.branch_size.proofs.FormLemmas.{bytes_at}
use Rattle.branch_size.proofs.forms.form_len.Goals as goal

pub overflow_add-len : goal.overflow_add-len
overflow_add-len g c =
    let len : c.len.result ≡ length (g.T.Processor.instructions.spelling c.get.result)
    = c.len.ensures.value ∙ ap length c.spell.ensures.spelling in
    let most = (g.met.T.Processor.lengths c.get.result c.spell.ensures.fits).most in
    omega arith

pub loop-index-preserved : goal.loop-index-preserved
loop-index-preserved g c =
    let len : c.len.result ≡ length (g.T.Processor.instructions.spelling c.get.result)
    = c.len.ensures.value ∙ ap length c.spell.ensures.spelling in
    let most = (g.met.T.Processor.lengths c.get.result c.spell.ensures.fits).most in
    let next = bytes_at g.T.Processor.instructions c.args.form.now c.loop-index.index c.get.result c.get.ensures in
    record { small = omega arith; whole = omega arith }
