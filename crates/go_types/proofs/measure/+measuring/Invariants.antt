use Rattle.std.proofs.Common.{◌≡◌, ◌<◌, ◌≤◌, ◌+◌, ◌*◌, min, max, drop}
use Rattle.go_types.specs.Kinds.{kind_of, kinds_of, AreAligned, types_in, types_in_fields}
use Rattle.go_types.specs.Sizes.{end_of, widest, components_in_fields, most_size}
use Rattle.go_types.proofs.measure.+measuring.Given as goal

abbrev pub decreases-measure_of : goal.decreases-measure_of
decreases-measure_of l = 2 * types_in (kind_of l.kind.now)

abbrev pub decreases-measure_fields : goal.decreases-measure_fields
decreases-measure_fields l = 2 * types_in_fields (kinds_of l.fields.now.items) + 1

abbrev pub invariant-measure_fields-loop-field : goal.invariant-measure_fields-loop-field
invariant-measure_fields-loop-field l =
    let rest = kinds_of (drop l.field-index l.field-items) in
    let all = kinds_of l.field-items in record {
      size : min (end_of l.end rest) most_size ≡ min (end_of 0 all) most_size;
      widest : max l.align (widest rest) ≡ widest all;
      aligned : AreAligned rest;
      counted : types_in_fields rest ≤ types_in_fields all;
      components : min (l.components + components_in_fields rest) most_size ≡ min (components_in_fields all) most_size;
      told : l.components ≤ most_size;
      end : l.end ≤ most_size;
      some : 0 < l.align;
      few : l.align ≤ 8;
    }
