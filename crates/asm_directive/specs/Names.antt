-- What names stand for.
use Rattle.std.specs.Prelude.{ℕ, List, Option, None, bytes_eq, if◌then◌else◌}

abbrev pub Names : Type 0 → Type 0
Names T = List ℕ → Option T

abbrev pub nothing : {T : Type 0} → Names T
nothing name = None

-- this name stands for the value, or for nothing where there is none, and each other name for what it did
unfoldable pub with_name : {T : Type 0} → Names T → List ℕ → Option T → Names T
with_name names name value other = if bytes_eq name other then value else names other
