-- Where things stand, one behind the other, each at the next multiple of 16.
use Rattle.std.specs.Prelude.{ℕ, ◌+◌, List, [], ◌∷◌}
use Rattle.byte_layout.specs.Joined.{aligned}

-- where things of these sizes begin, behind what ends at a place
unfoldable pub places_from : ℕ → List ℕ → List ℕ
places_from end [] = []
places_from end (size ∷ sizes) = aligned 16 end ∷ places_from (aligned 16 end + size) sizes

-- where the last of them ends
unfoldable pub end_from : ℕ → List ℕ → ℕ
end_from end [] = end
end_from end (size ∷ sizes) = end_from (aligned 16 end + size) sizes
