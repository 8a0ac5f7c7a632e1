-- The addresses of what symbols stand for: the first one that is told of each counts.
use Rattle.std.specs.Prelude.{◌≡◌, ℕ, Bool, false, ◌&&◌, nat_eq, List, Option, Some, None}
use Rattle.std.specs.Map.{lookup}
use Rattle.link_names.specs.declared.definition.Meaning.{Meaning}
use Rattle.link_names.specs.declared.definition.Meaning.TheVariants.{Function, Value, Outside}

abbrev pub is_same : Meaning → Meaning → Bool
is_same (Function unit number) (Function other its) = nat_eq unit other && nat_eq number its
is_same (Value unit number) (Value other its) = nat_eq unit other && nat_eq number its
is_same (Outside number) (Outside its) = nat_eq number its
is_same _ _ = false

-- the address of what a symbol stands for, where it stands for something that has one
abbrev pub address_in : List (Meaning × ℕ) → Option Meaning → Option ℕ
address_in addresses None = None
address_in addresses (Some meaning) = lookup (is_same meaning) addresses

-- each meaning has the same address by both
abbrev pub TellsAs : List (Meaning × ℕ) → List (Meaning × ℕ) → Type 0
TellsAs addresses others = (meaning : Option Meaning) → address_in addresses meaning ≡ address_in others meaning
