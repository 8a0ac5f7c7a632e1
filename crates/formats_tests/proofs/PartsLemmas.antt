-- One function is enough for an image.
use Rattle.std.proofs.Common.{◌≡◌, ℕ, ◌<◌, ◌^◌, false, List, [], ◌∷◌, length, None, IsTrue, refl, sym, ◌∙◌, ap, subst, arith}
use Rattle.std.specs.Prelude.{All}
use Rattle.std.specs.List.{flat_map, list_any}
use Rattle.std.proofs.lemmas.List.Elements.{All-cons, All-nil}
use Rattle.elf_image.specs.declared.parts.SymbolPart.{SymbolPart}
use Rattle.elf_image.specs.declared.parts.ImageParts.{ImageParts}
use Rattle.elf_image.specs.Parts.{IsPart, AreOrdered, is_entry}
use Rattle.elf_image.specs.Written.{name_bytes, AreParts}
use Rattle.elf_image.proofs.ShortLemmas.{short_parts}

abbrev main_p : List ℕ
main_p = 109 ∷ 97 ∷ 105 ∷ 110 ∷ 46 ∷ 112 ∷ []

abbrev function : List ℕ → SymbolPart
function name = record { name = name; at = 0x400000; size = 24; kind = 0; local = false }

is_part : IsPart (function main_p)
is_part = record {
  kind = omega arith;
  outside = λ two. cc;
  name = refl;
  address = omega arith;
  size = omega arith;
}

pub one_part : (parts : ImageParts) (name : List ℕ)
    → name ≡ main_p → parts.symbols ≡ function name ∷ [] → parts.machine ≡ 62 → parts.entry ≡ 0x400000
    → length parts.text < 2 ^ 16 → length parts.table < 2 ^ 16 → parts.values ≡ [] → AreParts parts
one_part parts name named is machine entry text table values =
    let same : parts.symbols ≡ function main_p ∷ [] = is ∙ ap (λ n. function n ∷ []) named in
    let A : List SymbolPart → Type 0 = λ symbols. All IsPart symbols in
    let O : List SymbolPart → Type 0 = λ symbols. AreOrdered None symbols in
    let E : List SymbolPart → Type 0 = λ symbols. IsTrue (list_any (is_entry parts.entry) symbols) in
    let F : ℕ → Type 0 = λ e. IsTrue (list_any (is_entry e) (function main_p ∷ [])) in
    let names : length (flat_map name_bytes parts.symbols) ≡ 7 = ap (λ symbols. length (flat_map name_bytes symbols)) same in
    let count : length parts.symbols ≡ 1 = ap (λ symbols. length symbols) same in
    let none : length parts.values ≡ 0 = ap (λ xs. length xs) values in
    record {
      machine = rw machine refl;
      symbols = subst A (sym same) (All-cons IsPart (function main_p) [] is_part (All-nil IsPart));
      order = subst O (sym same) (tt, tt);
      entry = subst E (sym same) (subst F (sym entry) refl);
      short = short_parts parts (omega arith);
    }
