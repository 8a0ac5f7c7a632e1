-- What surrounds the functions of an image, by where they stand and by the names outside.
use Rattle.std.specs.Prelude.{◌≡◌, ℕ, ◌+◌, List, filter, map}
use Rattle.std.specs.List.Sorted.{IsNonDecreasing, IsPermutation}
use Rattle.flow_rules.specs.Placing.{Surroundings}
use Rattle.image_rules.specs.Parts.{is_growth_name}
use Rattle.link_code.specs.Astray.{range_of}
use Rattle.link_plan.specs.Addresses.{text_address}
use Rattle.link_flow.specs.declared.around.Around.{Around}

-- the part of it that the flow rules see
abbrev pub surroundings : Around → Surroundings
surroundings all = record { text = range_of all.text; entries = all.entries.items; growth = all.growth.items }

-- the addresses of names outside, and those of the routines among them that have the stack grow
abbrev pub addresses_of : List (List ℕ × ℕ) → List ℕ
addresses_of outside = map (λ name. name.1) outside

abbrev pub growth_of : List (List ℕ × ℕ) → List ℕ
growth_of outside = addresses_of (filter (λ name. is_growth_name name.0) outside)

-- its addresses are in order
pub record IsOrdered (all : Around) : Type 0 where
  pub entries : IsNonDecreasing all.entries.items
  pub growth : IsNonDecreasing all.growth.items
  pub symbols : IsNonDecreasing all.symbols.items

-- it surrounds functions that stand at these places of a text of this length, where these names lie outside
pub record IsAround (at : List ℕ) (text_len : ℕ) (outside : List (List ℕ × ℕ)) (all : Around) : Type 0 where
  pub text : all.text ≡ (text_address, text_address + text_len)
  pub entries : all.entries.items ≡ map (λ place. text_address + place) at
  pub growth : IsPermutation (growth_of outside) all.growth.items
  pub symbols : IsPermutation (addresses_of outside) all.symbols.items
  pub ordered : IsOrdered all
