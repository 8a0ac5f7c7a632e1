use Rattle.std.proofs.Common.{◌≡◌, ◌≤◌, ◌++◌, map, drop}
use Rattle.std.specs.List.{AllByRecursion}
use Rattle.go_types.specs.Signatures.{parameter_of, IsSoundParameter}
use Rattle.abi0_layout.specs.Layouts.{end_of_list, parts_of_list, most_bytes}
use Rattle.abi0_layout.proofs.layout.push_list.Given as goal

abbrev pub invariant-loop-index : goal.invariant-loop-index
invariant-loop-index l =
    let rest = map parameter_of (drop l.index l.list) in
    let all = map parameter_of l.list in record {
      so_far : l.to.items ++ parts_of_list l.are_results l.index l.end rest ≡ l.fn.to.items ++ parts_of_list l.are_results 0 l.start all;
      end : end_of_list l.end rest ≡ end_of_list l.start all;
      within : l.end ≤ most_bytes;
      sound : AllByRecursion IsSoundParameter rest;
    }
