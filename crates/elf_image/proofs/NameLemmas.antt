-- Names that end at their first zero byte.
use Rattle.std.proofs.Common.{◌≡◌, ℕ, ◌+◌, true, not, nat_lt, List, [], ◌∷◌, ◌++◌, length, drop, Some, refl, ◌∙◌, ap, arith, append_assoc, length-append}
use Rattle.std.specs.List.{list_all, position, prefix_len}
use Rattle.std.proofs.lemmas.Bool.{lt-ltb, and_parts}
use Rattle.std.proofs.lemmas.List.{take_at}
use Rattle.byte_layout.specs.Stands.{Stands}
use Rattle.elf_image.specs.Symbols.{is_zero, name_end}
use Rattle.elf_image.specs.Contents.{name_in, text_before}

no_zero_before : (name rest : List ℕ) → list_all (λ byte. not (is_zero byte)) name ≡ true
    → prefix_len (λ byte. not (is_zero byte)) (name ++ 0 ∷ rest) ≡ length name
no_zero_before [] rest none = refl
no_zero_before (byte ∷ name) rest none =
    let parts = and_parts (not (is_zero byte)) (list_all (λ b. not (is_zero b)) name) none in
    rw (parts.0, no_zero_before name rest parts.1) (omega arith)

zero_found : (name rest : List ℕ) → list_all (λ byte. not (is_zero byte)) name ≡ true
    → position is_zero (name ++ 0 ∷ rest) ≡ Some (length name)
zero_found name rest none =
    let before = no_zero_before name rest none in
    let within : nat_lt (length name) (length (name ++ 0 ∷ rest)) ≡ true
    = lt-ltb _ _ (omega (arith, length-append name (0 ∷ rest))) in
    rw (before, within) refl

-- what stands from the name on
from_name : (names : List ℕ) (place : ℕ) (name : List ℕ) (stands : Stands names place (name ++ 0 ∷ []))
    → drop place names ≡ name ++ 0 ∷ stands.behind
from_name names place name stands = stands.is ∙ append_assoc name (0 ∷ []) stands.behind

pub name_ends : (names : List ℕ) (place : ℕ) (name : List ℕ) → list_all (λ byte. not (is_zero byte)) name ≡ true
    → Stands names place (name ++ 0 ∷ []) → name_end names place ≡ Some (place + length name + 1)
unfolding name_end
name_ends names place name none stands =
    rw (from_name names place name stands, zero_found name stands.behind none) refl

pub name_told : (names : List ℕ) (place : ℕ) (name : List ℕ) → list_all (λ byte. not (is_zero byte)) name ≡ true
    → Stands names place (name ++ 0 ∷ []) → name_in names place ≡ name
name_told names place name none stands =
    ap (λ rest. text_before rest (position is_zero rest)) (from_name names place name stands)
    ∙ ap (text_before (name ++ 0 ∷ stands.behind)) (zero_found name stands.behind none)
    ∙ take_at name (0 ∷ stands.behind) (length name) refl
