-- Fronts of what is appended.
use Rattle.std.proofs.Common.{◌≡◌, ℕ, List, ◌++◌, length, Result, Ok, Err, OnErr, refl}
use Rattle.std.proofs.Math.Seq.{take-append_seam}
use Rattle.goasm_text.specs.Lines.{AppendsFront}

-- the first part of what was to come
pub front_of : (old new bytes one rest : List ℕ) → bytes ≡ one ++ rest → new ≡ old ++ one → AppendsFront old new bytes
front_of old new bytes one rest parts adds = (length one, rw (adds, parts, take-append_seam) refl)

pub on_err : {T E P : Type 0} (answer : Result T E) → P → OnErr answer P
on_err (Ok value) holds = tt
on_err (Err fault) holds = holds
