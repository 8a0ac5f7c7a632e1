use Rattle.std.proofs.Common.{◌≡◌, filter, map, take}
use Rattle.elf_image.specs.Contents.{outside_in}
use Rattle.image_rules.specs.Parts.{is_growth_name}
use Rattle.image_check.proofs.surroundings.growth_routines.Given as goal

abbrev pub invariant-loop-index : goal.invariant-loop-index
invariant-loop-index l =
    l.found.items ≡ map (λ symbol. symbol.1) (filter (λ symbol. is_growth_name symbol.0) (take l.index (outside_in l.image)))
