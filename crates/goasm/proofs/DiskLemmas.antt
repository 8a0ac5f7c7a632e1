use Rattle.std.proofs.Common.{◌≡◌, ℕ, List, ◌++◌, Option, subst, sym}
use Rattle.std.specs.Io.KnownBytes.{Consumes}
use Rattle.std.proofs.KnownBytes.{Consumes-trans}

-- what was read so far, and a piece behind it
pub read_on : (old mid new : Option (List ℕ)) (front piece whole : List ℕ)
    → Consumes old mid front → Consumes mid new piece → whole ≡ front ++ piece → Consumes old new whole
read_on old mid new front piece whole first second is =
    subst (Consumes old new) (sym is) (Consumes-trans old mid new front piece first second)
