-- How long an image is.
use Rattle.std.proofs.Common.{◌≡◌, inl, inr, Bool, true, false, ℕ, ◌+◌, ◌*◌, ◌≤◌, ◌<◌, ◌^◌, List, [], ◌∷◌, length, min, ◌∙◌, ap, arith}
use lib.Dec.{leb}
use Rattle.std.specs.Prelude.{IsTrue, sum_by}
use Rattle.std.proofs.lemmas.Bool.{cases_lt, le-leb, leb-true}
use Rattle.std.proofs.lemmas.List.Sums.{sum_by-cons}
use Rattle.byte_layout.proofs.JoinedLemmas.{aligned-le}
use Rattle.elf_image.specs.declared.layout.Sizes.{Sizes}
use Rattle.elf_image.specs.Layout.{image_length, labels_end, strings_end, symbols_end, table_end, text_end, values_end}
use Rattle.link_symbols.specs.declared.defined.Defined.{Defined}
use Rattle.link_symbols.specs.Table.{names_length, symbols_of}
use Rattle.link_symbols.proofs.TableLemmas.{strings_length, table_length}
use Rattle.link_parts.specs.Image.{sizes_with}

-- things of which each counts by at least one
count-le-sum : {X : Type 0} (size : X → ℕ) (items : List X) → length items ≤ sum_by (λ item. size item + 1) items
count-le-sum size [] = omega arith
count-le-sum size (item ∷ items) =
    omega (arith, count-le-sum size items, sum_by-cons (λ one. size one + 1) item items)

-- what is judged not to be short is long
pub over : (short : Bool) (size most : ℕ) → short ≡ false → (size ≤ most → IsTrue short) → most < size
over short size most is judged =
    elim (cases_lt most size) [
      | inl long ↦ long
      | inr within ↦
          let yes : short ≡ true = judged within in
          absurd cc
    ]

module _ (functions values : List Defined) (outside : List (List ℕ × ℕ)) where
  -- there are no more symbols than bytes of their names
  pub few_symbols : length functions + length values + length outside ≤ names_length functions values outside
  few_symbols =
      omega (
        arith,
        count-le-sum (λ (function : Defined). length function.name.now) functions,
        count-le-sum (λ (value : Defined). length value.name.now) values,
        count-le-sum (λ (name : List ℕ × ℕ). length name.0) outside,
      )

-- no part is longer than the image
module _ (sizes : Sizes) where
  behind_strings : sizes.strings ≤ image_length sizes
  behind_strings =
      omega (arith, aligned-le 8 (symbols_end sizes), aligned-le 8 (strings_end sizes), aligned-le 8 (labels_end sizes))

  pub table_within : sizes.table ≤ image_length sizes
  table_within =
      omega (
        arith,
        aligned-le 4096 (text_end sizes),
        aligned-le 4096 (table_end sizes),
        aligned-le 8 (values_end sizes),
        aligned-le 8 (symbols_end sizes),
        aligned-le 8 (strings_end sizes),
        aligned-le 8 (labels_end sizes),
      )

module _ (text table data_size : ℕ) (functions values : List Defined) (outside : List (List ℕ × ℕ)) where
  -- the sizes by counts
  abbrev pub counted : ℕ → ℕ → Sizes
  counted count strings = record { text = text; table = table; values = data_size; symbols = 24 * count; strings = strings }

  abbrev pub told_sizes : Sizes
  told_sizes = sizes_with text table data_size (symbols_of functions values outside)

  pub counted_is : (count strings : ℕ) → count ≡ 1 + length functions + length values + length outside
      → strings ≡ min (1 + names_length functions values outside) (2 ^ 32) → strings ≤ 2 ^ 26
      → image_length (counted count strings) ≡ image_length told_sizes
  counted_is count strings count_is strings_are short =
      let symbols : 24 * count ≡ told_sizes.symbols
      = omega (arith, table_length functions values outside) in
      let names : strings ≡ told_sizes.strings
      = omega (arith, strings_length functions values outside) in
      ap (λ n. image_length (record { text = text; table = table; values = data_size; symbols = n; strings = strings })) symbols
      ∙ ap (λ n. image_length (record { text = text; table = table; values = data_size; symbols = told_sizes.symbols; strings = n })) names

  -- with names that are too long alone
  long_names : (strings : ℕ) → strings ≡ min (1 + names_length functions values outside) (2 ^ 32) → 2 ^ 26 < strings
      → 2 ^ 26 < image_length told_sizes
  long_names strings strings_are long =
      omega (arith, strings_are, long, strings_length functions values outside, behind_strings told_sizes)

  pub judged_long : (strings : ℕ) → strings ≡ min (1 + names_length functions values outside) (2 ^ 32) → 2 ^ 26 < strings
      → (IsTrue false → image_length told_sizes ≤ 2 ^ 26) × (image_length told_sizes ≤ 2 ^ 26 → IsTrue false)
  judged_long strings strings_are long =
      let over : 2 ^ 26 < image_length told_sizes = long_names strings strings_are long in
      (λ wrong. absurd cc, λ short. absurd (omega (arith, over, short)))

  pub judged : (size : ℕ) → size ≡ image_length told_sizes
      → (IsTrue (leb size (2 ^ 26)) → image_length told_sizes ≤ 2 ^ 26) × (image_length told_sizes ≤ 2 ^ 26 → IsTrue (leb size (2 ^ 26)))
  judged size is = (
    λ within. (let small : size ≤ 2 ^ 26 = leb-true size (2 ^ 26) within in omega (arith, small, is)),
    λ short. le-leb size (2 ^ 26) (omega (arith, short, is)),
  )
