-- What a text stands for, byte by byte.
use Rattle.std.proofs.Common.{◌≡◌, ℕ, zero, suc, ◌-◌, ◌<◌, List, [], ◌∷◌, ◌++◌, length, drop, refl, sym, ap, ◌∙◌, append_assoc, arith}
use Rattle.std.proofs.lemmas.List.{append-nil}
use Rattle.asm_grammar.specs.Texts.{unescaped, first_byte, first_len}

skipped : (skip : ℕ) (bytes : List ℕ) → unescaped skip bytes ≡ unescaped zero (drop skip bytes)
unfolding unescaped
skipped zero bytes = refl
skipped (suc skip) [] = refl
skipped (suc skip) (byte ∷ bytes) = skipped skip bytes

next_of : (bytes : List ℕ) (len : ℕ) → 0 < length bytes → first_len bytes ≡ len → 0 < len
    → unescaped zero bytes ≡ first_byte bytes ∷ unescaped zero (drop len bytes)
unfolding unescaped
next_of [] len some is positive = absurd (omega arith)
next_of (byte ∷ bytes) zero some is positive = absurd (omega arith)
next_of (byte ∷ bytes) (suc len) some is positive =
    let less : first_len (byte ∷ bytes) - 1 ≡ len = omega arith in
    ap (λ (others : List ℕ). first_byte (byte ∷ bytes) ∷ others) (ap (λ (skip : ℕ). unescaped skip bytes) less ∙ skipped len bytes)

pub goes_on : (before after bytes then : List ℕ) (byte len : ℕ) (whole : List ℕ) → before ++ unescaped zero bytes ≡ whole
    → 0 < length bytes → len ≡ first_len bytes → 0 < len → byte ≡ first_byte bytes → then ≡ drop len bytes → after ≡ before ++ byte ∷ []
    → after ++ unescaped zero then ≡ whole
goes_on before after bytes then byte len whole so_far some is positive byte-is then-is after-is =
    let turn = next_of bytes len some (sym is) positive in
    rw (after-is, byte-is, then-is, append_assoc) (ap (λ (others : List ℕ). before ++ others) (sym turn) ∙ so_far)

pub is_done : (before bytes whole : List ℕ) → before ++ unescaped zero bytes ≡ whole → length bytes ≡ 0 → before ≡ whole
unfolding unescaped
is_done before [] whole so_far none = sym (append-nil before) ∙ so_far
is_done before (byte ∷ bytes) whole so_far none = absurd (omega arith)
