use Rattle.std.proofs.Common.{rules}
use Rattle.link_tables.proofs.PlaceLemmas.{none_known}
use Rattle.link_tables.proofs.files.Files.new.Goals as goal

pub invariant_of-result : goal.invariant_of-result
invariant_of-result c =
    none_known c.args.build.now c.new.result c.in_ok-vec.field-0.items c.requires c.new.ensures
    (c.in_ok-vec.ensures.items_if_clones_equal (λ y is. search rules))
