use Rattle.std.proofs.Common.{rules, ◌≡◌, ◌≤◌, ◌<◌, ◌+◌, ◌*◌, ◌++◌, map, ℕ, drop, ap, subst, ◌∙◌, arith}
use Rattle.std.specs.Int.{next_multiple_of}
use Rattle.go_types.specs.Kinds.{Fields, kind_of, kinds_of, AreAligned, types_in, types_in_fields}
use Rattle.go_types.specs.Sizes.{size_of, place_of, end_of}
use Rattle.go_types.proofs.KindLemmas.{fields_at}
use Rattle.abi0_layout.specs.Parts.{within, parts_of_fields}
use Rattle.abi0_layout.specs.Layouts.{most_bytes}
use Rattle.abi0_layout.proofs.PartLemmas.{field_within, field_pushed}
use Rattle.abi0_layout.proofs.parts.+parts.Goals as goal

pub push_fields-measure_within-inner-requires : goal.push_fields-measure_within-inner-requires
push_fields-measure_within-inner-requires t c =
    let l = c.loop-field in
    let xs = c.deref-field-items.result.now in
    let x = c.field-item.result in
    let others = kinds_of (drop (l.field-index + 1) xs) in
    let is = fields_at xs l.field-index x (omega arith) c.field-item.is in
    let end = subst (λ (rest : Fields). end_of l.end rest ≡ end_of 0 (kinds_of xs)) is l.invariant.end in
    let aligned = subst AreAligned is l.invariant.aligned in
    let room = field_within c.args.place.now.off l.end most_bytes (end_of 0 (kinds_of xs)) x.0 (kind_of x.1) others end l.invariant.room in
    record { aligned = aligned.0; room = omega (arith, room) }

pub push_fields-push_field-requires : goal.push_fields-push_field-requires
push_fields-push_field-requires t c =
    let l = c.loop-field in
    let xs = c.deref-field-items.result.now in
    let x = c.field-item.result in
    let others = kinds_of (drop (l.field-index + 1) xs) in
    let is = fields_at xs l.field-index x (omega arith) c.field-item.is in
    let end = subst (λ (rest : Fields). end_of l.end rest ≡ end_of 0 (kinds_of xs)) is l.invariant.end in
    let aligned = subst AreAligned is l.invariant.aligned in
    let counted = subst (λ (rest : Fields). types_in_fields rest ≤ types_in_fields (kinds_of xs)) is l.invariant.counted in
    let room = field_within c.args.place.now.off l.end most_bytes (end_of 0 (kinds_of xs)) x.0 (kind_of x.1) others end l.invariant.room in
    let placed : c.next_multiple_of-off.result ≡ place_of l.end (kind_of x.1) =
    c.next_multiple_of-off.ensures.value ∙ ap (λ (a : ℕ). next_multiple_of l.end a) c.measure_within-inner.ensures.align in
    let all : types_in_fields (kinds_of c.deref-field-items.result.now) ≡ types_in_fields (kinds_of c.args.fields.now.items) =
    ap (λ ys. types_in_fields (kinds_of ys)) c.deref-field-items.ensures.value in (
      (let falls : 3 * types_in (kind_of x.1) + 1 < 3 * types_in_fields (kinds_of c.args.fields.now.items) + 2 = omega (arith, counted, all) in search rules),
      (aligned.0, omega (arith, room, placed)),
    )

pub push_fields-loop-field-preserved : goal.push_fields-loop-field-preserved
push_fields-loop-field-preserved t c =
    let l = c.loop-field in
    let xs = c.deref-field-items.result.now in
    let x = c.field-item.result in
    let others = kinds_of (drop (l.field-index + 1) xs) in
    let is = fields_at xs l.field-index x (omega arith) c.field-item.is in
    let place = c.args.place.now in
    let f = within place.name.now place.off in
    let whole = c.args.to.now.items ++ map f (parts_of_fields place.result 0 (kinds_of xs)) in
    let so_far = subst (λ (rest : Fields). l.to.items ++ map f (parts_of_fields place.result l.end rest) ≡ whole) is l.invariant.so_far in
    let end = subst (λ (rest : Fields). end_of l.end rest ≡ end_of 0 (kinds_of xs)) is l.invariant.end in
    let aligned = subst AreAligned is l.invariant.aligned in
    let counted = subst (λ (rest : Fields). types_in_fields rest ≤ types_in_fields (kinds_of xs)) is l.invariant.counted in
    let room = field_within place.off l.end most_bytes (end_of 0 (kinds_of xs)) x.0 (kind_of x.1) others end l.invariant.room in
    let placed : c.next_multiple_of-off.result ≡ place_of l.end (kind_of x.1) =
    c.next_multiple_of-off.ensures.value ∙ ap (λ (a : ℕ). next_multiple_of l.end a) c.measure_within-inner.ensures.align in
    let sized : c.measure_within-inner.result.size ≡ size_of (kind_of x.1) = c.measure_within-inner.ensures.size in
    record {
      so_far = field_pushed f place.result l.to.items c.push_field.new.to.items whole l.end c.next_multiple_of-off.result c.measure_within-inner.result.size x.0 (kind_of x.1) others
          placed sized c.in_ok-push_field.ensures so_far;
      end = ap (λ (next : ℕ). end_of next others) (let next : c.next_multiple_of-off.result + c.measure_within-inner.result.size ≡ place_of l.end (kind_of x.1) + size_of (kind_of x.1) = omega (arith, placed, sized) in next) ∙ end;
      room = l.invariant.room;
      start = omega (arith, room, placed, sized);
      aligned = aligned.1;
      counted = omega (arith, counted);
    }
