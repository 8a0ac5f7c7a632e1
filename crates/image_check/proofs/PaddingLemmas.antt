-- Bytes that are all the same.
use Rattle.std.proofs.Common.{◌≡◌, ◌↔◌, IsTrue, ℕ, ◌%◌, ◌<◌, true, Bool, nat_eq, List, [], ◌∷◌, length, drop, refl, sym, ap, ◌∙◌, subst, arith}
use Rattle.std.specs.Prelude.{replicate}
use Rattle.std.specs.List.{list_all}
use Rattle.std.proofs.lemmas.Bool.{and_parts, and_from}
use Rattle.image_check.specs.Code.{IsPadded}

same_byte : (one other : ℕ) → nat_eq one other ≡ true → one ≡ other
same_byte one other is = grind arith

byte_same : (one other : ℕ) → one ≡ other → nat_eq one other ≡ true
byte_same one other is = grind arith

filled_same : (byte : ℕ) (bytes : List ℕ) → list_all (λ held. nat_eq held byte) bytes ≡ true → bytes ≡ replicate (length bytes) byte
filled_same byte [] all = refl
filled_same byte (held ∷ bytes) all =
    let parts = and_parts (nat_eq held byte) (list_all (λ other. nat_eq other byte) bytes) all in
    let first = same_byte held byte parts.0 in
    let more = filled_same byte bytes parts.1 in
    ap (λ one. one ∷ bytes) first ∙ ap (λ list. byte ∷ list) more

same_filled : (byte : ℕ) (bytes : List ℕ) → bytes ≡ replicate (length bytes) byte → list_all (λ held. nat_eq held byte) bytes ≡ true
same_filled byte [] all = refl
same_filled byte (held ∷ bytes) all = grind (arith, same_filled byte bytes, byte_same held byte, and_from)

pub padded_filled : (byte size : ℕ) (own rest : List ℕ) (filled : Bool) → rest ≡ drop size own → length own % 16 ≡ 0
    → length rest < 16 → filled ≡ list_all (λ held. nat_eq held byte) rest → IsTrue filled ↔ IsPadded byte own (drop size own)
padded_filled byte size own rest filled is whole short fills =
    subst (λ list. IsTrue filled ↔ IsPadded byte own list) is (
      (λ all. record { same = filled_same byte rest (sym fills ∙ all); short = short; whole = whole }),
      (λ padded. fills ∙ same_filled byte rest padded.same),
    )
