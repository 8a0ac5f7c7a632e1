-- A sign is a sign by itself, without what stands behind it.
use Rattle.std.proofs.Common.{◌≡◌, ℕ, true, false, nat_lt, List, [], ◌∷◌, take, IsTrue, inl, inr, refl}
use Rattle.std.proofs.Math.Bool.{and-false}
use Rattle.std.proofs.lemmas.Bool.{cases_Bool}
use Rattle.asm_lex.specs.Signs.{is_long_sign, is_short_sign, sign_len, is_sign}

-- one byte is no long sign
short : (byte : ℕ) → is_long_sign (byte ∷ []) ≡ false
unfolding is_long_sign
short byte = simp and-false

alone : (byte : ℕ) → is_short_sign byte ≡ true → IsTrue (is_sign (byte ∷ []))
unfolding sign_len
alone byte is = rw (short byte, is) refl

both : (one two : ℕ) (bytes : List ℕ) → is_long_sign (one ∷ two ∷ bytes) ≡ true → IsTrue (is_sign (one ∷ two ∷ []))
unfolding sign_len is_long_sign
both one two bytes is = rw is refl

nothing : sign_len [] ≡ 0
unfolding sign_len is_long_sign is_short_sign
nothing = refl

pub sign_taken : (bytes : List ℕ) → nat_lt 0 (sign_len bytes) ≡ true → IsTrue (is_sign (take (sign_len bytes) bytes))
unfolding sign_len
sign_taken [] some = let none : false ≡ true = rw nothing at some in cc
sign_taken (byte ∷ []) some =
    elim (cases_Bool (is_short_sign byte)) [
      | inl is ↦ rw (short byte, is) (alone byte is)
      | inr isnt ↦ let none : false ≡ true = rw (short byte, isnt) at some in cc
    ]
sign_taken (one ∷ two ∷ bytes) some =
    elim (cases_Bool (is_long_sign (one ∷ two ∷ bytes))) [
      | inl long ↦ rw long (both one two bytes long)
      | inr other ↦ elim (cases_Bool (is_short_sign one)) [
        | inl is ↦ rw (other, is) (alone one is)
        | inr isnt ↦ let none : false ≡ true = rw (other, isnt) at some in cc
      ]
    ]
