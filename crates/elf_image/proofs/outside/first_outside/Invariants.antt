use Rattle.std.proofs.Common.{◌≡◌, ◌+◌, ◌-◌, ◌*◌, filter}
use Rattle.elf_image.specs.Image.{count_in, symbols_start}
use Rattle.elf_image.specs.Contents.{symbol_places, lies_outside}
use Rattle.elf_image.proofs.outside.first_outside.Given as goal

abbrev pub invariant-loop-index : goal.invariant-loop-index
invariant-loop-index l =
    filter (lies_outside l.bytes) (symbol_places (count_in l.bytes - l.index) (symbols_start l.bytes + 24 * l.index))
    ≡ filter (lies_outside l.bytes) (symbol_places (count_in l.bytes) (symbols_start l.bytes))
