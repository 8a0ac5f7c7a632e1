-- What is told as the first instruction of bytes is the one that they begin with, and it is told of all that begin with one.
use Rattle.std.specs.Prelude.{◌==◌, ◌&&◌, drop, Some, None, IfSome, if◌then◌else◌}
use Rattle.std.proofs.Common.{◌≡◌, ℕ, Bool, true, false, List, [], ◌∷◌, ◌++◌, length, refl, sym, ap, ◌∙◌, subst}
use Rattle.std.proofs.lemmas.Bool.{eqb-true, eq-eqb, and_parts, and_from}
use Rattle.asm_target.specs.InstructionSet.{Begins, IsFirst}
use Rattle.amd64_table.specs.declared.instr.Instr.{Instr}
use Rattle.amd64_table.specs.Fits.{fits}
use Rattle.amd64_code.specs.Spelling.{spelling_of}
use Rattle.amd64_code.specs.Reading.{reading}
use Rattle.amd64_code.specs.InstructionSet.{amd64, Fits}
use Rattle.amd64_code.specs.First.{starts_with, if_spelled, first_in}
use Rattle.amd64_code.proofs.Laws.{begins_read}

starts_true : (front bytes : List ℕ) → starts_with front bytes ≡ true → bytes ≡ front ++ drop (length front) bytes
starts_true [] bytes is = refl
starts_true (byte ∷ front) [] is = cc is
starts_true (byte ∷ front) (other ∷ bytes) is =
    let parts = and_parts (byte == other) (starts_with front bytes) is in
    ap (λ head. head ∷ bytes) (sym (eqb-true byte other parts.0)) ∙ ap (λ rest. byte ∷ rest) (starts_true front bytes parts.1)

same_byte : (n : ℕ) → (n == n) ≡ true
same_byte n = eq-eqb n n refl

starts_append : (front rest : List ℕ) → starts_with front (front ++ rest) ≡ true
starts_append [] rest = refl
starts_append (byte ∷ front) rest = and_from (byte == byte) (starts_with front (front ++ rest)) (same_byte byte) (starts_append front rest)

spelled_first : (test : Bool) (i : Instr) (bytes : List ℕ) → (fits i && starts_with (spelling_of i) bytes) ≡ test
    → IfSome {T = Instr × ℕ} (if test then Some (i, length (spelling_of i)) else None) (λ found. IsFirst amd64 Fits bytes found.0 found.1)
spelled_first true i bytes is =
    let parts = and_parts (fits i) (starts_with (spelling_of i) bytes) is in
    record { fit = parts.0; begins = starts_true (spelling_of i) bytes parts.1; len = refl }
spelled_first false i bytes is = tt

pub first_found : (bytes : List ℕ) → IfSome (first_in bytes) (λ found. IsFirst amd64 Fits bytes found.0 found.1)
unfolding first_in
first_found bytes = spelled_first _ (reading bytes) bytes refl

pub first_none : (bytes : List ℕ) → first_in bytes ≡ None → (i : Instr) → Fits i → ¬ Begins amd64 bytes i
unfolding first_in
first_none bytes none i fit begins =
    let is : reading bytes ≡ i = begins_read i bytes fit begins in
    let starts : starts_with (spelling_of i) bytes ≡ true =
    subst (λ all. starts_with (spelling_of i) all ≡ true) (sym begins) (starts_append (spelling_of i) (drop (length (spelling_of i)) bytes)) in
    let some : if_spelled i bytes ≡ Some (i, length (spelling_of i)) = rw (and_from (fits i) (starts_with (spelling_of i) bytes) fit starts) refl in
    let told : if_spelled i bytes ≡ None = ap (λ j. if_spelled j bytes) (sym is) ∙ none in
    cc (sym told ∙ some)
