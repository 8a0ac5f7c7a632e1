-- What surrounds the functions of an image, as vectors that can be searched.
use Rattle.std.specs.Prelude.{ℕ, List, map}
use Rattle.std.specs.List.Sorted.{IsNonDecreasing, IsPermutation}
use Rattle.asm_target.specs.FlowFunction.{Range}
use Rattle.elf_image.specs.Contents.{outside_in}
use Rattle.flow_rules.specs.Placing as flow
use Rattle.image_check.specs.declared.surroundings.Surroundings.{Surroundings}
use Rattle.image_rules.specs.Parts.{Surrounds}

-- a first address and the one behind the last
abbrev pub range_of : ℕ × ℕ → Range
range_of pair = record { first = pair.0; past = pair.1 }

-- the part of it that the flow rules see
abbrev pub around_of : Surroundings → flow.Surroundings
around_of all = record {
  text = range_of all.text;
  entries = all.entries.items;
  growth = all.growth.items;
}

-- the addresses of the symbols outside
abbrev pub addresses_in : List ℕ → List ℕ
addresses_in bytes = map (λ symbol. symbol.1) (outside_in bytes)

-- they are those of this image, and all in order
pub record AreSurroundings (bytes : List ℕ) (all : Surroundings) : Type 0 where
  pub surrounds : Surrounds bytes (around_of all)
  pub entries : IsNonDecreasing all.entries.items
  pub symbols : IsPermutation (addresses_in bytes) all.symbols.items
  pub ordered : IsNonDecreasing all.symbols.items
