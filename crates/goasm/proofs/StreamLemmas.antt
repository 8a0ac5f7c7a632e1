use Rattle.std.proofs.Common.{◌≡◌, ℕ, ◌+◌, ◌-◌, ◌≤◌, List, ◌++◌, length, take, drop, Option, sym, ap, ◌∙◌, arith, length-drop}
use Rattle.std.proofs.lemmas.List.{drop-drop}
use Rattle.std.proofs.Math.Seq.{take-add}
use Rattle.std.specs.Io.KnownBytes.{Appends}
use Rattle.std.proofs.KnownBytes.{Appends-trans}

seam : (bytes rest : List ℕ) (count : ℕ) → length rest ≤ length bytes → count ≤ length rest
    → length bytes - length (drop count rest) ≡ (length bytes - length rest) + count
seam bytes rest count short piece = omega (arith, length-drop count rest)

-- what is left of bytes behind a piece of what was left of them
pub rest_behind : (bytes rest : List ℕ) (count : ℕ)
    → length rest ≤ length bytes → rest ≡ drop (length bytes - length rest) bytes → count ≤ length rest
    → drop count rest ≡ drop (length bytes - length (drop count rest)) bytes
rest_behind bytes rest count short is piece =
    let at : length bytes - length (drop count rest) ≡ (length bytes - length rest) + count = seam bytes rest count short piece in
    let whole : drop count rest ≡ drop count (drop (length bytes - length rest) bytes) = ap (drop count) is in
    whole ∙ drop-drop count (length bytes - length rest) bytes ∙ sym (ap (λ n. drop n bytes) at)

pub wrote_behind : (old mid new : Option (List ℕ)) (bytes rest : List ℕ) (count : ℕ)
    → length rest ≤ length bytes → rest ≡ drop (length bytes - length rest) bytes → count ≤ length rest
    → Appends old mid (take (length bytes - length rest) bytes) → Appends mid new (take count rest)
    → Appends old new (take (length bytes - length (drop count rest)) bytes)
wrote_behind old mid new bytes rest count short is piece one two =
    let at : length bytes - length (drop count rest) ≡ (length bytes - length rest) + count = seam bytes rest count short piece in
    let taken : take (length bytes - length (drop count rest)) bytes
    ≡ take (length bytes - length rest) bytes ++ take count rest
    = ap (λ n. take n bytes) at ∙ take-add (length bytes - length rest) count bytes
    ∙ ap (λ r. take (length bytes - length rest) bytes ++ take count r) (sym is) in
    rw taken (Appends-trans old mid new (take (length bytes - length rest) bytes) (take count rest) one two)
