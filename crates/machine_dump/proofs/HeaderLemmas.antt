-- A line that is missing has no form.
use Rattle.std.proofs.Common.{◌≡◌, ℕ, List, [], ◌∷◌, Some, None, refl}
use Rattle.machine_dump.specs.declared.fault.DumpNo.TheVariants.{DU1}
use Rattle.machine_dump.specs.Lines.{line_at}
use Rattle.machine_dump.specs.Digits.{word_of}
use Rattle.machine_dump.specs.Form.{machine_of, field_of, link_of}
use Rattle.machine_dump.specs.Faults.{unless}

no_machine : machine_of [] ≡ None
unfolding machine_of
no_machine = refl

no_field : (name : List ℕ) → field_of name [] ≡ None
unfolding field_of word_of
no_field [] = refl
no_field (byte ∷ bytes) = refl

no_link : (machine : ℕ) → link_of machine [] ≡ None
unfolding link_of
no_link machine = rw (no_field _) refl

pub machine_missing : (lines : List (List ℕ)) → lines ≡ [] → unless 1 (machine_of (line_at lines 0)) ≡ Some (DU1 1)
machine_missing lines none = rw (none, no_machine) refl

pub field_missing : (name : List ℕ) (lines : List (List ℕ)) (number : ℕ) → lines ≡ []
    → unless number (field_of name (line_at lines 0)) ≡ Some (DU1 number)
field_missing name lines number none = rw (none, no_field name) refl

pub link_missing : (machine : ℕ) (lines : List (List ℕ)) → lines ≡ [] → unless 4 (link_of machine (line_at lines 0)) ≡ Some (DU1 4)
link_missing machine lines none = rw (none, no_link machine) refl
