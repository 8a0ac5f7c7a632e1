-- Numbers, bytes and texts that are read where they stand.
use Rattle.std.proofs.Common.{◌≡◌, ℕ, ◌+◌, ◌*◌, ◌^◌, ◌<◌, ◌≤◌, true, cond, not, nat_lt, List, [], ◌∷◌, ◌++◌, length, take, drop, get_or, Some, refl, ◌∙◌, ap, arith, append_assoc, length-append}
use Rattle.std.specs.List.{flat_map, prefix_len}
use Rattle.std.proofs.lemmas.Bool.{lt-ltb}
use Rattle.std.proofs.lemmas.List.{get_or-drop, length-take, take-append-le}
use Rattle.std.proofs.lemmas.List.Sums.{prefix_len-le-length}
use Rattle.byteorder.specs.Endian.{little_bytes, little_number}
use Rattle.byte_layout.specs.Stands.{Stands}
use Rattle.byte_layout.proofs.StandsLemmas.{stands_each, stands_moved, stands_number}
use Rattle.pclntab.specs.Words.{u32_at, u64_at}
use Rattle.pclntab.specs.Texts.{is_zero, text_in, text_at}
use Rattle.pclntab.specs.Written.{text_bytes, words, longs}
use Rattle.pclntab.specs.Parts.{to_zero}
use Rattle.pclntab.proofs.LengthLemmas.{length-words, length-longs}

moved : (bytes : List ℕ) (at i place : ℕ) → at + i ≡ place → get_or (drop at bytes) i 0 ≡ get_or bytes place 0
moved bytes at i place same = get_or-drop at bytes i 0 ∙ ap (λ n. get_or bytes n 0) same

u32_number : (bytes : List ℕ) (at : ℕ) → u32_at bytes at ≡ little_number 4 (drop at bytes)
unfolding u32_at
u32_number bytes at =
    omega (arith, moved bytes at 0 at (omega arith), moved bytes at 1 (at + 1) refl, moved bytes at 2 (at + 2) refl, moved bytes at 3 (at + 3) refl)

u64_number : (bytes : List ℕ) (at : ℕ) → u64_at bytes at ≡ little_number 8 (drop at bytes)
unfolding u64_at u32_at
u64_number bytes at =
    omega (
      arith,
      moved bytes at 0 at (omega arith),
      moved bytes at 1 (at + 1) refl,
      moved bytes at 2 (at + 2) refl,
      moved bytes at 3 (at + 3) refl,
      moved bytes at 4 (at + 4) refl,
      moved bytes at 5 (at + 4 + 1) (omega arith),
      moved bytes at 6 (at + 4 + 2) (omega arith),
      moved bytes at 7 (at + 4 + 3) (omega arith),
    )

pub u32_read : (bytes : List ℕ) (at number : ℕ) → Stands bytes at (little_bytes 4 number) → number < 2 ^ 32 → u32_at bytes at ≡ number
u32_read bytes at number stands fits = u32_number bytes at ∙ stands_number bytes at 4 number stands fits

u64_read : (bytes : List ℕ) (at number : ℕ) → Stands bytes at (little_bytes 8 number) → number < 2 ^ 64 → u64_at bytes at ≡ number
u64_read bytes at number stands fits = u64_number bytes at ∙ stands_number bytes at 8 number stands fits

-- one of several numbers
pub word_read : (bytes : List ℕ) (at : ℕ) (numbers : List ℕ) (index place number : ℕ)
    → Stands bytes at (words numbers) → index < length numbers → get_or numbers index 0 ≡ number → number < 2 ^ 32
    → at + 4 * index ≡ place → u32_at bytes place ≡ number
unfolding words
word_read bytes at numbers index place number stands inside is fits same =
    let one : Stands bytes (at + length (flat_map (little_bytes 4) (take index numbers))) (little_bytes 4 (get_or numbers index 0))
    = stands_each (little_bytes 4) bytes at numbers index 0 stands inside in
    let long : length (flat_map (little_bytes 4) (take index numbers)) ≡ 4 * length (take index numbers) = length-words (take index numbers) in
    u32_read bytes place number
    (stands_moved bytes (at + length (flat_map (little_bytes 4) (take index numbers))) place (little_bytes 4 number)
    (omega (arith, length-take index numbers)) (rw is at one)) fits

pub long_read : (bytes : List ℕ) (at : ℕ) (numbers : List ℕ) (index place number : ℕ)
    → Stands bytes at (longs numbers) → index < length numbers → get_or numbers index 0 ≡ number → number < 2 ^ 64
    → at + 8 * index ≡ place → u64_at bytes place ≡ number
unfolding longs
long_read bytes at numbers index place number stands inside is fits same =
    let one : Stands bytes (at + length (flat_map (little_bytes 8) (take index numbers))) (little_bytes 8 (get_or numbers index 0))
    = stands_each (little_bytes 8) bytes at numbers index 0 stands inside in
    let long : length (flat_map (little_bytes 8) (take index numbers)) ≡ 8 * length (take index numbers) = length-longs (take index numbers) in
    u64_read bytes place number
    (stands_moved bytes (at + length (flat_map (little_bytes 8) (take index numbers))) place (little_bytes 8 number)
    (omega (arith, length-take index numbers)) (rw is at one)) fits

-- a text ends at its first zero byte, or at the one behind it
prefix_ends : (text more : List ℕ)
    → prefix_len (λ byte. not (is_zero byte)) (text ++ 0 ∷ more) ≡ prefix_len (λ byte. not (is_zero byte)) text
prefix_ends [] more = refl
prefix_ends (byte ∷ text) more =
    ap (λ n. cond (not (is_zero byte)) (1 + n) 0) (prefix_ends text more)

pub text_ends : (text more : List ℕ) → text_in (text ++ 0 ∷ more) ≡ Some (to_zero text)
unfolding text_in
text_ends text more =
    let ends : prefix_len (λ byte. not (is_zero byte)) (text ++ 0 ∷ more) ≡ prefix_len (λ byte. not (is_zero byte)) text = prefix_ends text more in
    let within : prefix_len (λ byte. not (is_zero byte)) text ≤ length text = prefix_len-le-length (λ byte. not (is_zero byte)) text in
    let there : nat_lt (prefix_len (λ byte. not (is_zero byte)) text) (length (text ++ 0 ∷ more)) ≡ true
    = lt-ltb _ _ (omega (arith, length-append text (0 ∷ more))) in
    rw ends (rw there (ap Some (take-append-le (prefix_len (λ byte. not (is_zero byte)) text) text (0 ∷ more) within)))

pub text_read : (bytes : List ℕ) (at : ℕ) (text : List ℕ) → Stands bytes at (text_bytes text) → text_at bytes at ≡ Some (to_zero text)
unfolding text_bytes
text_read bytes at text stands =
    ap text_in (stands.is ∙ append_assoc text (0 ∷ []) stands.behind) ∙ text_ends text stands.behind
