use Rattle.std.proofs.Common.{◌≡◌, map, take}
use Rattle.elf_image.specs.Contents.{outside_in}
use Rattle.image_check.proofs.surroundings.addresses.Given as goal

abbrev pub invariant-loop-index : goal.invariant-loop-index
invariant-loop-index l = l.found.items ≡ map (λ symbol. symbol.1) (take l.index (outside_in l.image))
