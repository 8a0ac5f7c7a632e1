use Rattle.std.proofs.Common.{◌++◌, ap, ◌∙◌, arith}
use Rattle.link_values.proofs.EachLemmas.{pushed_more, pushed_all}
use Rattle.link_plan.specs.Addresses as spec
use Rattle.link_plan.proofs.meanings.code_meanings.Goals as goal

pub loop-number-preserved : goal.loop-number-preserved
loop-number-preserved g c =
    pushed_more spec.unit_meanings c.args.code.now c.loop-number.number c.index-code-number.result c.loop-number.meanings.items
    c.push_meanings.new.meanings.items (spec.code_meanings c.args.code.now) (omega arith) c.index-code-number.is c.loop-number.invariant
    (c.in_ok-push_meanings.ensures
    ∙ ap (λ parts. c.loop-number.meanings.items ++ spec.part_meanings c.loop-number.number parts) c.as_slice.ensures.value)

pub returns : goal.returns
returns g c =
    pushed_all spec.unit_meanings c.args.code.now c.loop-number.number c.loop-number.meanings.items (spec.code_meanings c.args.code.now)
    (omega arith) c.loop-number.invariant
