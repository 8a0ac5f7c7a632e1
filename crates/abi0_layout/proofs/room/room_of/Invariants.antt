use Rattle.std.proofs.Common.{◌≡◌, ◌≤◌, ◌+◌, min, map, drop}
use Rattle.std.specs.List.{AllByRecursion}
use Rattle.go_types.specs.Sizes.{most_size}
use Rattle.go_types.specs.Signatures.{parameter_of, IsSoundParameter}
use Rattle.abi0_layout.specs.Layouts.{end_of_list, components_in_list}
use Rattle.abi0_layout.proofs.room.room_of.Given as goal

abbrev pub invariant-loop-param : goal.invariant-loop-param
invariant-loop-param l =
    let rest = map parameter_of (drop l.param-index l.list) in
    let all = map parameter_of l.list in record {
      end : min (end_of_list l.end rest) most_size ≡ min (end_of_list l.start all) most_size;
      within : l.end ≤ most_size;
      components : min (l.components + components_in_list rest) most_size ≡ min (components_in_list all) most_size;
      told : l.components ≤ most_size;
      sound : AllByRecursion IsSoundParameter rest;
    }
