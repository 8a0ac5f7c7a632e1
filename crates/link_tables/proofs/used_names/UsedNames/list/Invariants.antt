use Rattle.std.proofs.Common.{◌≡◌, ◌-◌, ◌≤◌, map, take, length, vec_len}
use Rattle.link_tables.proofs.NameLemmas.{seen}
use Rattle.link_tables.proofs.used_names.UsedNames.list.Given as goal

abbrev pub invariant-loop-name : goal.invariant-loop-name
invariant-loop-name l = record {
  within : vec_len l.list ≤ length l.self-inside.names.keys;
  items : l.list.items ≡ take (vec_len l.list) (map seen l.self-inside.names.keys);
}

abbrev pub decreases-loop-name : goal.decreases-loop-name
decreases-loop-name l = length l.self-inside.names.keys - vec_len l.list
