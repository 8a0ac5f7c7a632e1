use Rattle.std.proofs.Common.{◌++◌, map, refl, sym, ap, ◌∙◌, arith}
use Rattle.std.proofs.lemmas.Option.{slice_get_read}
use Rattle.link_functions.proofs.EachLemmas.{each_more, each_none}
use Rattle.link_build.specs.Functions as spec
use Rattle.link_build.proofs.func.functions_of.Goals as goal

pub loop-number-init : goal.loop-number-init
loop-number-init g c = ap (map spec.seen) c.new-funcs.ensures.items ∙ sym (each_none spec.functions_of)

pub loop-number-preserved : goal.loop-number-preserved
loop-number-preserved g c =
    let code = c.args.code.now in
    let number = c.loop-number.number in
    let unit = c.index-code-number.result in
    let here = slice_get_read code _ number unit refl (omega arith) c.index-code-number.is in
    c.in_ok-push_functions.ensures
    ∙ ap (λ front. front ++ spec.functions_of number unit) c.loop-number.invariant
    ∙ sym (each_more spec.functions_of code number unit here)
