use Rattle.std.proofs.Common.{◌≡◌, ◌≤◌, ◌+◌, ◌*◌, min, max, ℕ, List, drop, [], ap, sym, subst, ◌∙◌, arith, refl}
use Rattle.std.proofs.lemmas.List.{drop_all}
use Rattle.std.specs.Int.{next_multiple_of}
use Rattle.go_types.specs.Kinds.{Kind, kind_of, kinds_of, Fields, AreAligned, types_in_fields}
use Rattle.go_types.specs.declared.go_type.GoType.{GoType}
use Rattle.go_types.specs.Sizes.{size_of, align_of, end_of, widest, components_in, components_in_fields, most_size}
use Rattle.go_types.proofs.KindLemmas.{fields_at, kind_of_array}
use Rattle.go_types.proofs.SizeLemmas.{step_told, rounded_told, times_told, some_wide}
use Rattle.go_types.proofs.measure.+measuring.Goals as goal

pub measure_fields-loop-field-init : goal.measure_fields-loop-field-init
measure_fields-loop-field-init t c = record {
  size = refl;
  widest = let some = some_wide (kinds_of c.deref-field-items.result.now) in omega (arith, some);
  aligned = subst (λ xs. AreAligned (kinds_of xs)) (sym c.deref-field-items.ensures.value) c.requires;
  counted = omega arith;
  components = omega arith;
  told = omega arith;
  end = omega arith;
  some = omega arith;
  few = omega arith;
}

pub measure_fields-loop-field-preserved : goal.measure_fields-loop-field-preserved
measure_fields-loop-field-preserved t c =
    let l = c.loop-field in
    let xs = c.deref-field-items.result.now in
    let x = c.field-item.result in
    let kind = kind_of x.1 in
    let others = kinds_of (drop (l.field-index + 1) xs) in
    let is = fields_at xs l.field-index x (omega arith) c.field-item.is in
    let inv = subst (λ (rest : Fields). min (end_of l.end rest) most_size ≡ min (end_of 0 (kinds_of xs)) most_size) is l.invariant.size in
    let wide = subst (λ (rest : Fields). max l.align (widest rest) ≡ widest (kinds_of xs)) is l.invariant.widest in
    let aligned = subst AreAligned is l.invariant.aligned in
    let counted = subst (λ (rest : Fields). types_in_fields rest ≤ types_in_fields (kinds_of xs)) is l.invariant.counted in
    let more = subst (λ (rest : Fields). min (l.components + components_in_fields rest) most_size ≡ min (components_in_fields (kinds_of xs)) most_size) is l.invariant.components in
    record {
      size = step_told most_size (next_multiple_of l.end (align_of kind)) (size_of kind) c.end_behind-end.result others
          (c.end_behind-end.ensures ∙ ap (λ (a : ℕ). min (next_multiple_of l.end a + c.measure_of-inner.result.size) most_size) c.measure_of-inner.ensures.align
          ∙ ap (λ (s : ℕ). min (next_multiple_of l.end (align_of kind) + s) most_size) c.measure_of-inner.ensures.size) ∙ inv;
      widest = omega (arith, wide, c.max-align.ensures, c.measure_of-inner.ensures.align);
      aligned = aligned.1;
      counted = omega (arith, counted);
      components = omega (arith, more, c.sum-components.ensures, c.measure_of-inner.ensures.components);
      told = omega (arith, c.sum-components.ensures);
      end = omega arith;
      some = omega arith;
      few = omega arith;
    }

pub measure_fields-returns-clause-size : goal.measure_fields-returns-clause-size
measure_fields-returns-clause-size t c =
    let l = c.loop-field in
    let xs = c.deref-field-items.result.now in
    let none : drop l.field-index xs ≡ [] = drop_all l.field-index xs (omega arith) in
    let all = kinds_of xs in
    let ended : min l.end most_size ≡ min (end_of 0 all) most_size =
    subst (λ (rest : List (List ℕ × GoType)). min (end_of l.end (kinds_of rest)) most_size ≡ min (end_of 0 all) most_size) none l.invariant.size in
    let wide = subst (λ (rest : List (List ℕ × GoType)). max l.align (widest (kinds_of rest)) ≡ widest all) none l.invariant.widest in
    let align : l.align ≡ widest all = omega (arith, wide) in
    subst (λ (ys : List (List ℕ × GoType)). c.rounded.result ≡ min (next_multiple_of (end_of 0 (kinds_of ys)) (widest (kinds_of ys))) most_size) c.deref-field-items.ensures.value
    (c.rounded.ensures ∙ rounded_told most_size l.end l.align (end_of 0 all) ended (omega arith) ∙ ap (λ (x : ℕ). min (next_multiple_of (end_of 0 all) x) most_size) align)

pub measure_of-returns-in-Array-clause-size : goal.measure_of-returns-in-Array-clause-size
measure_of-returns-in-Array-clause-size t c =
    let kind = kind_of c.in-Array.of.value in
    let inner : c.measure_of.result.size ≡ min (size_of kind) most_size = c.measure_of.ensures.size ∙ ap (λ (k : GoType). min (size_of (kind_of k)) most_size) c.deref.ensures in
    c.times.ensures.size ∙ ap (λ (x : ℕ). min (c.in-Array.count * x) most_size) inner
    ∙ times_told most_size c.in-Array.count (size_of kind) ∙ sym (ap (λ (whole : Kind). min (size_of whole) most_size) (ap kind_of c.in-Array.is ∙ kind_of_array c.in-Array.count c.in-Array.of))

pub measure_of-returns-in-Array-clause-components : goal.measure_of-returns-in-Array-clause-components
measure_of-returns-in-Array-clause-components t c =
    let kind = kind_of c.in-Array.of.value in
    let inner : c.measure_of.result.components ≡ min (components_in kind) most_size = c.measure_of.ensures.components ∙ ap (λ (k : GoType). min (components_in (kind_of k)) most_size) c.deref.ensures in
    c.times.ensures.components ∙ ap (λ (x : ℕ). min (c.in-Array.count * x) most_size) inner
    ∙ times_told most_size c.in-Array.count (components_in kind) ∙ sym (ap (λ (whole : Kind). min (components_in whole) most_size) (ap kind_of c.in-Array.is ∙ kind_of_array c.in-Array.count c.in-Array.of))
