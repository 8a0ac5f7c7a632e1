-- A text is a text by itself, without what stands behind it.
use Rattle.std.proofs.Common.{◌≡◌, ℕ, zero, suc, ◌+◌, ◌<◌, ◌≤◌, ◌==◌, Bool, true, false, List, [], ◌∷◌, length, take, Option, Some, None, arith, if◌then◌else◌}
use Rattle.asm_lex.specs.Characters.{newline, quote, backslash}
use Rattle.asm_lex.specs.Texts.{text_end}

-- what a byte of a text leads to
abbrev step : Bool → Bool → Bool → ℕ → Option ℕ → Option ℕ → Option ℕ
step ends escaped closes behind next other =
    if ends then None else (if escaped then next else (if closes then Some behind else other))

step_cases : (X : Type 0) (ends escaped closes : Bool) (behind end : ℕ) (next other : Option ℕ)
    → step ends escaped closes behind next other ≡ Some end
    → (next ≡ Some end → X) → (behind ≡ end → X) → (other ≡ Some end → X) → X
step_cases X true escaped closes behind end next other is one two three = cc
step_cases X false true closes behind end next other is one two three = one is
step_cases X false false true behind end next other is one two three = two cc
step_cases X false false false behind end next other is one two three = three is

step_kept : (ends escaped closes : Bool) (behind end : ℕ) (next other next' other' : Option ℕ)
    → (next ≡ Some end → next' ≡ Some end) → (other ≡ Some end → other' ≡ Some end)
    → step ends escaped closes behind next other ≡ Some end → step ends escaped closes behind next' other' ≡ Some end
step_kept true escaped closes behind end next other next' other' one two is = cc
step_kept false true closes behind end next other next' other' one two is = one is
step_kept false false true behind end next other next' other' one two is = is
step_kept false false false behind end next other next' other' one two is = two is

-- a text ends behind its place, and not past the bytes
pub end_bounds : (at : ℕ) (escaped : Bool) (bytes : List ℕ) (end : ℕ)
    → text_end at escaped bytes ≡ Some end → (at < end) × (end ≤ at + length bytes)
unfolding text_end
end_bounds at escaped [] end is = cc
end_bounds at escaped (byte ∷ bytes) end is =
    let later : (next : Bool) → text_end (at + 1) next bytes ≡ Some end → (at < end) × (end ≤ at + suc (length bytes))
    = λ next more. (let bounds : (at + 1 < end) × (end ≤ at + 1 + length bytes) = end_bounds (at + 1) next bytes end more in (omega arith, omega arith)) in
    step_cases ((at < end) × (end ≤ at + suc (length bytes))) (byte == newline) escaped (byte == quote) (at + 1) end
    (text_end (at + 1) false bytes) (text_end (at + 1) (byte == backslash) bytes) is
    (later false) (λ here. (omega arith, omega arith)) (later (byte == backslash))

-- the same end without what stands behind it
pub text_taken : (at : ℕ) (escaped : Bool) (bytes : List ℕ) (len end : ℕ)
    → end ≡ at + len → text_end at escaped bytes ≡ Some end → text_end at escaped (take len bytes) ≡ Some end
unfolding text_end
text_taken at escaped [] len end sum is = cc
text_taken at escaped (byte ∷ bytes) zero end sum is =
    let bounds = end_bounds at escaped (byte ∷ bytes) end is in
    absurd (omega (arith, bounds.0))
text_taken at escaped (byte ∷ bytes) (suc len) end sum is =
    let later : (next : Bool) → text_end (at + 1) next bytes ≡ Some end → text_end (at + 1) next (take len bytes) ≡ Some end
    = λ next more. text_taken (at + 1) next bytes len end (omega arith) more in
    step_kept (byte == newline) escaped (byte == quote) (at + 1) end
    (text_end (at + 1) false bytes) (text_end (at + 1) (byte == backslash) bytes)
    (text_end (at + 1) false (take len bytes)) (text_end (at + 1) (byte == backslash) (take len bytes))
    (later false) (later (byte == backslash)) is
