use Rattle.std.proofs.Common.{◌≡◌, ◌≤◌, ◌+◌, ◌*◌, ◌^◌, ◌++◌, map, drop}
use Rattle.go_types.specs.Kinds.{kind_of, kinds_of, AreAligned, types_in, types_in_fields}
use Rattle.go_types.specs.Sizes.{end_of}
use Rattle.abi0_layout.specs.Parts.{within, parts_of_fields}
use Rattle.abi0_layout.proofs.parts.+parts.Given as goal

abbrev pub decreases-push_parts : goal.decreases-push_parts
decreases-push_parts l = 3 * types_in (kind_of l.kind.now)

abbrev pub decreases-push_array : goal.decreases-push_array
decreases-push_array l = 3 * types_in (kind_of l.of.now) + 2

abbrev pub decreases-element_parts : goal.decreases-element_parts
decreases-element_parts l = 3 * types_in (kind_of l.of.now) + 1

abbrev pub decreases-push_fields : goal.decreases-push_fields
decreases-push_fields l = 3 * types_in_fields (kinds_of l.fields.now.items) + 2

abbrev pub decreases-push_field : goal.decreases-push_field
decreases-push_field l = 3 * types_in (kind_of l.kind.now) + 1

abbrev pub invariant-push_fields-loop-field : goal.invariant-push_fields-loop-field
invariant-push_fields-loop-field l =
    let rest = kinds_of (drop l.field-index l.field-items) in
    let all = kinds_of l.field-items in record {
      so_far : l.to.items ++ map (within l.place.name.now l.place.off) (parts_of_fields l.place.result l.end rest)
          ≡ l.fn.to.items ++ map (within l.place.name.now l.place.off) (parts_of_fields l.place.result 0 all);
      end : end_of l.end rest ≡ end_of 0 all;
      room : l.place.off + end_of 0 all ≤ 2 ^ 30;
      start : l.end ≤ 2 ^ 30;
      aligned : AreAligned rest;
      counted : types_in_fields rest ≤ types_in_fields all;
    }
