-- What a collector of names keeps beside the names, so that no name is held against all earlier ones.
use Rattle.std.specs.Prelude.{◌≡◌, ℕ, List}
use Rattle.goasm_base.specs.NameSet as sets
use Rattle.asm_directive.specs.LineNames.{is_among}

abbrev pub Keeps : List (List ℕ) → List (List ℕ) → Type 0
Keeps names seen = (name : List ℕ) → sets.is_among name seen ≡ is_among name names
