-- Where a function tells which instruction bytes begin with, its text is the text of the bytes.
use Rattle.std.proofs.Common.{◌≡◌, ℕ, zero, suc, List, [], ◌∷◌, ◌+◌, ◌<◌, ◌≤◌, length, take, drop, Option, Some, None, refl, ap, subst, arith, inl, inr, length-drop}
use Rattle.std.proofs.Math.Nat.{le-min}
use Rattle.std.specs.Prelude.{IfSome}
use Rattle.asm_target.specs.InstructionSet.{InstructionSet, IsFirst}
use Rattle.asm_target.specs.Laws.{HasLengths}
use Rattle.asm_target.specs.Architecture.{IsArchitecture, Architecture}
use Rattle.text_dis.specs.Raw.{IsLine, IsRaw, line_text}
use Rattle.text_dis.specs.Reading.{IsReading, first_len, first_said, first_line, text_within, raw_text}
use Rattle.text_dis.proofs.RawLemmas.{in_front}

-- a quantum has a byte
pub some_quantum : (known : Architecture) → IsArchitecture known → 0 < known.quantum
some_quantum known (inl is) = let same = ap (λ arch. arch.quantum) is in omega (arith, same)
some_quantum known (inr (inl is)) = let same = ap (λ arch. arch.quantum) is in omega (arith, same)
some_quantum known (inr (inr is)) = let same = ap (λ arch. arch.quantum) is in omega (arith, same)

module _ {Instr : Type 0} (set : InstructionSet Instr) (fits : Instr → Type 0) (quantum : ℕ) (some : 0 < quantum)
    (lengths : HasLengths set fits quantum) (reading : List ℕ → Option (Instr × ℕ)) (is : IsReading set fits reading) where
  line_is : (offset : ℕ) (bytes : List ℕ) → 0 < length bytes → (read : Option (Instr × ℕ)) → reading bytes ≡ read
      → IsLine set fits quantum offset bytes
      (line_text offset (take (first_len set quantum bytes read) bytes) (first_said set offset read))
      (first_len set quantum bytes read)
  line_is offset bytes more (Some found) e =
      inl (found.0, subst (λ read. IfSome read (λ found. IsFirst set fits bytes found.0 found.1)) e (is.found bytes), refl)
  line_is offset bytes more None e = inr (record { some = more; none = is.none bytes e; len = refl; says = refl })

  line_takes : (bytes : List ℕ) → 0 < length bytes → (read : Option (Instr × ℕ)) → reading bytes ≡ read
      → 0 < first_len set quantum bytes read
  line_takes bytes more (Some found) e =
      let first : IsFirst set fits bytes found.0 found.1 =
      subst (λ read. IfSome read (λ found. IsFirst set fits bytes found.0 found.1)) e (is.found bytes) in
      omega (arith, first.len, (lengths found.0 first.fit).least)
  line_takes bytes more None e = le-min some more

  within : (count offset : ℕ) (bytes : List ℕ) → length bytes ≤ count
      → IsRaw set fits quantum offset bytes (text_within set quantum reading count offset bytes)
  within zero offset [] few = ([], refl, refl)
  within zero offset (byte ∷ bytes) few = absurd (omega arith)
  within (suc count) offset [] few = ([], refl, refl)
  within (suc count) offset (byte ∷ bytes) few =
      let n = first_len set quantum (byte ∷ bytes) (reading (byte ∷ bytes)) in
      let more : 0 < length (byte ∷ bytes) = omega arith in
      let takes : 0 < n = line_takes (byte ∷ bytes) more (reading (byte ∷ bytes)) refl in
      let left = length-drop n (byte ∷ bytes) in
      in_front set fits quantum offset (byte ∷ bytes) (first_line set quantum reading offset (byte ∷ bytes)) _ n
      (line_is offset (byte ∷ bytes) more (reading (byte ∷ bytes)) refl)
      (within count (offset + n) (drop n (byte ∷ bytes)) (omega (arith, takes, left)))

  pub is_text : (bytes : List ℕ) → IsRaw set fits quantum 0 bytes (raw_text set quantum reading bytes)
  unfolding raw_text
  is_text bytes = within (length bytes) 0 bytes (omega arith)
