-- What a text stands for, byte by byte.
use Rattle.std.proofs.Common.{◌≡◌, ℕ, ◌+◌, ◌-◌, ◌<◌, ◌≤◌, true, false, nat_eq, nat_lt, List, [], ◌∷◌, ◌++◌, length, drop, get_or, sym, ap, ◌∙◌, add-one, drop-cons, append_assoc, arith}
use Rattle.std.proofs.lemmas.Bool.Decides.{nat_tests}
use Rattle.asm_directive.specs.Texts.{escape_value, escape_len, values_from}

left_bytes : (bytes : List ℕ) (at : ℕ) → at < length bytes → drop at bytes ≡ get_or bytes at 0 ∷ drop (at + 1) bytes
left_bytes bytes at inside = drop-cons bytes at 0 inside ∙ ap (λ next. get_or bytes at 0 ∷ drop next bytes) (sym (add-one at))

passes : (skip : ℕ) → 0 < skip → nat_lt 0 skip ≡ true
passes skip some = grind (arith, nat_tests)

stops : (skip : ℕ) → skip ≤ 0 → nat_lt 0 skip ≡ false
stops skip none = grind (arith, nat_tests)

differs : (one other : ℕ) → (one ≡ other → ⊥) → nat_eq one other ≡ false
differs one other apart = grind (arith, nat_tests)

pub skipped : (bytes : List ℕ) (at skip : ℕ) (before whole : List ℕ) → at < length bytes → 0 < skip
    → before ++ values_from skip (drop at bytes) ≡ whole → before ++ values_from (skip - 1) (drop (at + 1) bytes) ≡ whole
unfolding values_from
skipped bytes at skip before whole inside some known =
    let step : before ++ values_from skip (get_or bytes at 0 ∷ drop (at + 1) bytes) ≡ whole = rw (left_bytes bytes at inside) at known in
    rw (passes skip some) at step

pub escaped : (bytes : List ℕ) (at skip : ℕ) (before after whole : List ℕ) → at < length bytes → skip ≤ 0 → get_or bytes at 0 ≡ 92
    → after ≡ before ++ escape_value (drop (at + 1) bytes) ∷ []
    → before ++ values_from skip (drop at bytes) ≡ whole → after ++ values_from (escape_len (drop (at + 1) bytes)) (drop (at + 1) bytes) ≡ whole
unfolding values_from
escaped bytes at skip before after whole inside none is adds known =
    let step : before ++ values_from skip (get_or bytes at 0 ∷ drop (at + 1) bytes) ≡ whole = rw (left_bytes bytes at inside) at known in
    let goes : before ++ (escape_value (drop (at + 1) bytes) ∷ values_from (escape_len (drop (at + 1) bytes)) (drop (at + 1) bytes)) ≡ whole = rw (stops skip none, is) at step in
    rw (adds, append_assoc) goes

pub plain : (bytes : List ℕ) (at skip : ℕ) (before after whole : List ℕ) → at < length bytes → skip ≤ 0 → (get_or bytes at 0 ≡ 92 → ⊥)
    → after ≡ before ++ get_or bytes at 0 ∷ []
    → before ++ values_from skip (drop at bytes) ≡ whole → after ++ values_from skip (drop (at + 1) bytes) ≡ whole
unfolding values_from
plain bytes at skip before after whole inside none apart adds known =
    let step : before ++ values_from skip (get_or bytes at 0 ∷ drop (at + 1) bytes) ≡ whole = rw (left_bytes bytes at inside) at known in
    let goes : before ++ (get_or bytes at 0 ∷ values_from 0 (drop (at + 1) bytes)) ≡ whole = rw (stops skip none, differs (get_or bytes at 0) 92 apart) at step in
    let zero : skip ≡ 0 = omega arith in
    rw (adds, zero, append_assoc) goes
