use Rattle.std.proofs.Common.{◌≡◌, ℕ, ◌<◌, List, Some, false}
use Rattle.std.specs.List.{slice_get}
use Rattle.asm_target.specs.FlowFunction.{is_within}
use Rattle.elf_image.specs.Contents.{outside_in}
use Rattle.image_rules.specs.Parts.{image_range}
use Rattle.image_check.proofs.profile.is_apart.Given as goal

abbrev pub invariant-loop-index : goal.invariant-loop-index
invariant-loop-index l =
    (k : ℕ) (symbol : List ℕ × ℕ) → k < l.index → slice_get (outside_in l.image) k ≡ Some symbol
    → is_within (image_range l.image) symbol.1 ≡ false
