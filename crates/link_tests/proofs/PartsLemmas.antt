-- Functions at rising addresses, and parts of which an image can be written.
use Rattle.std.proofs.Common.{◌≡◌, ℕ, zero, suc, ◌+◌, ◌<◌, ◌^◌, List, [], ◌∷◌, length, None, IsTrue, refl, ◌∙◌, subst, arith}
use Rattle.std.specs.Prelude.{All, slice_index}
use Rattle.std.specs.List.{list_any}
use Rattle.std.specs.List.Sorted.{IsStrictlyIncreasing}
use Rattle.elf_image.specs.declared.layout.Sizes.{Sizes}
use Rattle.elf_image.specs.declared.parts.ImageParts.{ImageParts}
use Rattle.elf_image.specs.Layout.{image_length}
use Rattle.elf_image.specs.Parts.{IsPart, AreOrdered, is_entry}
use Rattle.elf_image.specs.Written.{sizes_of, image_bytes, AreParts}

pub rising_one : (only : ℕ) → IsStrictlyIncreasing (only ∷ [])
rising_one only k within = absurd (omega arith)

pub rising_more : (first second : ℕ) (others : List ℕ) → first < second → IsStrictlyIncreasing (second ∷ others)
    → IsStrictlyIncreasing (first ∷ second ∷ others)
rising_more first second others less rest zero within = less
rising_more first second others less rest (suc k) within =
    let same : suc (k + 1) ≡ suc k + 1 = omega arith in
    subst (λ n. slice_index (second ∷ others) k < slice_index (first ∷ second ∷ others) n) same (rest k (omega arith))

pub made_parts : (parts : ImageParts) (sizes : Sizes) → parts.machine ≡ 62 → All IsPart parts.symbols → AreOrdered None parts.symbols
    → IsTrue (list_any (is_entry parts.entry) parts.symbols) → length (image_bytes parts) ≡ image_length (sizes_of parts)
    → sizes_of parts ≡ sizes → image_length sizes < 2 ^ 32 → AreParts parts
made_parts parts sizes machine symbols order entry long same short =
    record {
      machine = rw machine refl;
      symbols = symbols;
      order = order;
      entry = entry;
      short = let P : Sizes → Type 0 = λ all. length (image_bytes parts) ≡ image_length all in
          let is = subst P same long in
          omega (arith, is, short);
    }
