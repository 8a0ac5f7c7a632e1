-- The definitions, computed on small lists.
use Rattle.std.proofs.Common.{◌≡◌, [], ◌∷◌, Some, None, refl}
use Rattle.byte_layout.specs.Joined.{aligned}
use Rattle.link_names.specs.declared.definition.Meaning.TheVariants.{Function, Value, Outside}
use Rattle.link_places.specs.Places.{places_from, end_from}
use Rattle.link_places.specs.Addresses.{address_in}

-- things of one byte, of 16, of 17, and of none behind one another
places_of_four : places_from 0 (1 ∷ 16 ∷ 17 ∷ 0 ∷ []) ≡ 0 ∷ 16 ∷ 32 ∷ 64 ∷ []
unfolding places_from aligned
places_of_four = refl

end_of_three : end_from 0 (1 ∷ 16 ∷ 17 ∷ []) ≡ 49
unfolding end_from aligned
end_of_three = refl

end_of_none : end_from 0 [] ≡ 0
unfolding end_from
end_of_none = refl

-- the first address counts, and a value is no function
first_address : address_in ((Function 0 1, 32) ∷ (Value 0 1, 64) ∷ (Value 0 1, 80) ∷ []) (Some (Value 0 1)) ≡ Some 64
first_address = refl

no_address : address_in ((Function 0 1, 32) ∷ (Outside 1, 64) ∷ []) (Some (Outside 0)) ≡ None
no_address = refl
