use Rattle.std.proofs.Common.{◌≡◌, ◌+◌, [], List, ℕ, min, map, drop, ap, subst, ◌∙◌, arith}
use Rattle.std.proofs.lemmas.List.{drop_all}
use Rattle.std.specs.Int.{next_multiple_of}
use Rattle.std.specs.List.{AllByRecursion}
use Rattle.go_types.specs.Sizes.{size_of, align_of, components_in, most_size}
use Rattle.go_types.specs.Signatures.{Parameter, parameter_of, IsSoundParameter}
use Rattle.go_types.specs.declared.declarations.Param.{Param}
use Rattle.go_types.proofs.SizeLemmas.{step_told}
use Rattle.abi0_layout.specs.Layouts.{as_fields, end_of_list, components_in_list, is_blank}
use Rattle.abi0_layout.proofs.ListLemmas.{parameters_at, count_told}
use Rattle.abi0_layout.proofs.room.room_of.Goals as goal

pub measure_of-inner-requires : goal.measure_of-inner-requires
measure_of-inner-requires c =
    let l = c.loop-param in
    let is = parameters_at c.args.list.now l.param-index c.param-item.result (omega arith) c.param-item.is in
    (subst (AllByRecursion IsSoundParameter) is l.invariant.sound).0.aligned

pub loop-param-preserved : goal.loop-param-preserved
loop-param-preserved c =
    let l = c.loop-param in
    let xs = c.args.list.now in
    let x = parameter_of c.param-item.result in
    let is = parameters_at xs l.param-index c.param-item.result (omega arith) c.param-item.is in
    let others = map parameter_of (drop (l.param-index + 1) xs) in
    let all = map parameter_of xs in
    let sound = subst (AllByRecursion IsSoundParameter) is l.invariant.sound in
    let end = subst (λ (rest : List Parameter). min (end_of_list l.end rest) most_size ≡ min (end_of_list c.args.start all) most_size) is l.invariant.end in
    let more = subst (λ (rest : List Parameter). min (l.components + components_in_list rest) most_size ≡ min (components_in_list all) most_size) is l.invariant.components in
    record {
      end = step_told most_size (next_multiple_of l.end (align_of x.kind)) (size_of x.kind) c.end_behind-end.result (as_fields others)
          (c.end_behind-end.ensures ∙ ap (λ (a : ℕ). min (next_multiple_of l.end a + c.measure_of-inner.result.size) most_size) c.measure_of-inner.ensures.align
          ∙ ap (λ (s : ℕ). min (next_multiple_of l.end (align_of x.kind) + s) most_size) c.measure_of-inner.ensures.size) ∙ end;
      within = omega (arith, c.end_behind-end.ensures);
      components = count_told most_size l.components c.with_listed-components.result c.measure_of-inner.result.components (components_in x.kind) (components_in_list others) (is_blank x.name)
          c.with_listed-components.ensures c.measure_of-inner.ensures.components ∙ more;
      told = omega (arith, c.with_listed-components.ensures);
      sound = sound.1;
    }

pub returns-clause-end : goal.returns-clause-end
returns-clause-end c =
    let l = c.loop-param in
    let xs = c.args.list.now in
    let none : drop l.param-index xs ≡ [] = drop_all l.param-index xs (omega arith) in
    let ended = subst (λ (rest : List Param). min (end_of_list l.end (map parameter_of rest)) most_size ≡ min (end_of_list c.args.start (map parameter_of xs)) most_size) none l.invariant.end in
    omega (arith, ended, l.invariant.within)

pub returns-clause-components : goal.returns-clause-components
returns-clause-components c =
    let l = c.loop-param in
    let xs = c.args.list.now in
    let none : drop l.param-index xs ≡ [] = drop_all l.param-index xs (omega arith) in
    let ended = subst (λ (rest : List Param). min (l.components + components_in_list (map parameter_of rest)) most_size ≡ min (components_in_list (map parameter_of xs)) most_size) none l.invariant.components in
    omega (arith, ended, l.invariant.told)
