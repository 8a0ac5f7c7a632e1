-- Marks on statements.
use Rattle.std.proofs.Common.{◌≡◌, Bool, true, false, ◌||◌, refl}

-- a test more
pub or_next : (old one rest new all : Bool) → new ≡ (old || one) → (old || (one || rest)) ≡ all → (new || rest) ≡ all
or_next true one rest new all e h = rw e h
or_next false true rest new all e h = rw e h
or_next false false rest new all e h = rw e h

pub or_none : (b : Bool) → (b || false) ≡ b
or_none true = refl
or_none false = refl
