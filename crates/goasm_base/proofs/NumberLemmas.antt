use Rattle.std.proofs.Common.{◌≡◌, ℕ, suc, ◌+◌, ◌*◌, ◌^◌, ◌<◌, ◌≤◌, List, [], ◌∷◌, length, drop, get_or, drop-cons, arith}
use Rattle.std.specs.Char.{digit_value}
use Rattle.goasm_base.specs.Numbers.{value_after}

grows : (base before digit : ℕ) → 1 ≤ base → before ≤ base * before + digit
grows base before digit positive = grind arith

-- digits behind a number make no smaller one
pub value_after_grows : (base before : ℕ) (glyphs : List ℕ) → 1 ≤ base → before ≤ value_after base before glyphs
value_after_grows base before [] positive = omega arith
value_after_grows base before (glyph ∷ glyphs) positive =
    let one : before ≤ base * before + digit_value glyph = grows base before (digit_value glyph) positive in
    let more : base * before + digit_value glyph ≤ value_after base (base * before + digit_value glyph) glyphs
    = value_after_grows base (base * before + digit_value glyph) glyphs positive in
    omega arith

-- where a digit passes 64 bits, all of them do
pub overflows : (base before i whole : ℕ) (glyphs : List ℕ) → 1 ≤ base → i < length glyphs
    → value_after base before (drop i glyphs) ≡ whole
    → ¬ (base * before + digit_value (get_or glyphs i 0) < 2 ^ 64)
    → 2 ^ 64 ≤ whole
overflows base before i whole glyphs positive inside is large =
    let more : base * before + digit_value (get_or glyphs i 0)
    ≤ value_after base (base * before + digit_value (get_or glyphs i 0)) (drop (suc i) glyphs)
    = value_after_grows base (base * before + digit_value (get_or glyphs i 0)) (drop (suc i) glyphs) positive in
    let split = rw (drop-cons glyphs i 0 inside) at is in
    omega (arith, split)
