-- What is written of a group tells it.
use Rattle.std.proofs.Common.{◌≡◌, ◌<◌, ◌≤◌, true, Some, refl, arith}
use Rattle.std.proofs.lemmas.Bool.{le-leb}
use Rattle.elf_image.specs.declared.group.Group.{Group}
use Rattle.elf_image.specs.declared.group.Group.TheVariants.{LocalFunctions, LocalValues, GlobalFunctions, GlobalValues, Outside}
use Rattle.elf_image.specs.Groups.{rank, info_of, group_of, section_of}
use Rattle.elf_image.specs.Rows.{reaches}

pub group_back : (group : Group) → group_of (info_of group) ≡ Some group
group_back LocalFunctions = refl
group_back LocalValues = refl
group_back GlobalFunctions = refl
group_back GlobalValues = refl
group_back Outside = refl

pub info_fits : (group : Group) → info_of group < 256
info_fits LocalFunctions = omega arith
info_fits LocalValues = omega arith
info_fits GlobalFunctions = omega arith
info_fits GlobalValues = omega arith
info_fits Outside = omega arith

pub section_fits : (group : Group) → section_of group < 65536
section_fits LocalFunctions = omega arith
section_fits LocalValues = omega arith
section_fits GlobalFunctions = omega arith
section_fits GlobalValues = omega arith
section_fits Outside = omega arith

pub reached : (before group : Group) → rank before ≤ rank group → reaches before (group_of (info_of group)) ≡ true
reached before group above = rw (group_back group) (le-leb (rank before) (rank group) above)
