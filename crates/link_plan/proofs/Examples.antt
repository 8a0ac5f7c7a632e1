-- The definitions, computed on small lists.
use Rattle.std.proofs.Common.{◌≡◌, [], ◌∷◌, refl}
use Rattle.link_names.specs.declared.definition.Meaning.TheVariants.{Function, Value, Outside}
use Rattle.link_names.specs.Definitions.{each_from}
use Rattle.link_plan.specs.Addresses.{behind, outside_addresses, text_address}

-- two functions, the second one behind 16 bytes
two_functions : behind text_address (Function 0 0 ∷ Function 1 2 ∷ []) (0 ∷ 16 ∷ []) ≡ (Function 0 0, 0x400000) ∷ (Function 1 2, 0x400010) ∷ []
unfolding behind
two_functions = refl

one_value : behind 0x401000 (Value 0 1 ∷ []) (32 ∷ []) ≡ (Value 0 1, 0x401020) ∷ []
unfolding behind
one_value = refl

two_outside : outside_addresses ((97 ∷ [], 0x1000) ∷ (98 ∷ [], 0x2000) ∷ []) ≡ (Outside 0, 0x1000) ∷ (Outside 1, 0x2000) ∷ []
unfolding each_from
two_outside = refl
