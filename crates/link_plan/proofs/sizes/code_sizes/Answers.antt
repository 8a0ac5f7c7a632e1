use Rattle.std.proofs.Common.{◌++◌, ap, ◌∙◌, arith}
use Rattle.link_values.proofs.EachLemmas.{pushed_more, pushed_all}
use Rattle.link_plan.specs.Sizes as spec
use Rattle.link_plan.proofs.sizes.code_sizes.Goals as goal

pub loop-unit-preserved : goal.loop-unit-preserved
loop-unit-preserved g c =
    pushed_more spec.unit_sizes c.args.code.now c.loop-unit.unit-index c.unit-item.result c.loop-unit.sizes.items c.push_sizes.new.sizes.items
    (spec.code_sizes c.args.code.now) (omega arith) c.unit-item.is c.loop-unit.invariant
    (c.in_ok-push_sizes.ensures ∙ ap (λ parts. c.loop-unit.sizes.items ++ spec.part_sizes parts) c.as_slice.ensures.value)

pub returns : goal.returns
returns g c =
    pushed_all spec.unit_sizes c.args.code.now c.loop-unit.unit-index c.loop-unit.sizes.items (spec.code_sizes c.args.code.now)
    (omega arith) c.loop-unit.invariant
