-- Rows that were written are read back.
use Rattle.std.proofs.Common.{◌≡◌, ℕ, ◌+◌, ◌<◌, ◌^◌, Bool, true, List, [], ◌∷◌, ◌++◌, length, length-append, drop, slice_index, IsTrue, refl, sym, ◌∙◌, ap, subst, arith}
use Rattle.std.specs.List.{flat_map}
use Rattle.std.proofs.lemmas.Bool.{eq-eqb}
use Rattle.std.proofs.lemmas.Grind.{flat_map-append}
use Rattle.byteorder.specs.Numbers.{length-bytes_low_first}
use Rattle.byte_layout.specs.Stands.{Stands}
use Rattle.byte_layout.proofs.StandsLemmas.{stands_front, stands_back, stands_moved, stands_same, stands_number}
use Rattle.elf_image.specs.declared.rows.Width.{Width}
use Rattle.elf_image.specs.declared.rows.Width.TheVariants.{Char}
use Rattle.elf_image.specs.declared.rows.Row.{Row}
use Rattle.elf_image.specs.Rows.{size_of, number_at, meets, HasRows, rows_size, value_of, row_bytes, rows_bytes, byte_rows}

-- rows that were written meet what is wanted of them
abbrev pub Allow : List Row → List Row → Type 0
Allow [] [] = Unit {0}
Allow [] (row ∷ rows) = ⊥
Allow (wanted ∷ rest) [] = ⊥
Allow (wanted ∷ rest) (row ∷ rows) =
    (wanted.width ≡ row.width) × ((value_of row.wanted < 256 ^ size_of row.width)
    × (IsTrue (meets wanted.wanted (value_of row.wanted)) × Allow rest rows))

pub length_row : (row : Row) → length (row_bytes row) ≡ size_of row.width
length_row row = length-bytes_low_first 0 (size_of row.width) (value_of row.wanted)

pub length_rows : (rows : List Row) → length (rows_bytes rows) ≡ rows_size rows
unfolding rows_bytes
length_rows [] = refl
length_rows (row ∷ rows) =
    length-append (row_bytes row) (flat_map row_bytes rows)
    ∙ ap (λ n. n + length (flat_map row_bytes rows)) (length_row row)
    ∙ ap (λ n. size_of row.width + n) (length_rows rows)

rows_next : (bytes : List ℕ) (at : ℕ) (row : Row) (rows : List Row)
    → Stands bytes at (rows_bytes (row ∷ rows)) → Stands bytes (at + size_of row.width) (rows_bytes rows)
unfolding rows_bytes
rows_next bytes at row rows stands =
    stands_moved bytes (at + length (row_bytes row)) (at + size_of row.width) (flat_map row_bytes rows)
    (ap (λ n. at + n) (length_row row)) (stands_back bytes at (row_bytes row) (flat_map row_bytes rows) stands)

row_read : (bytes : List ℕ) (at : ℕ) (row : Row) (rows : List Row) → value_of row.wanted < 256 ^ size_of row.width
    → Stands bytes at (rows_bytes (row ∷ rows)) → number_at bytes at row.width ≡ value_of row.wanted
unfolding rows_bytes number_at
row_read bytes at row rows fits stands =
    stands_number bytes at (size_of row.width) (value_of row.wanted)
    (stands_front bytes at (row_bytes row) (flat_map row_bytes rows) stands) fits

wanted_here : (bytes : List ℕ) (at : ℕ) (width other : Width) (number : ℕ) (test : ℕ → Bool)
    → width ≡ other → number_at bytes at other ≡ number → test number ≡ true → test (number_at bytes at width) ≡ true
wanted_here bytes at width other number test same read is =
    ap (λ w. test (number_at bytes at w)) same ∙ ap test read ∙ is

pub written_rows : (bytes : List ℕ) (at : ℕ) (wanted rows : List Row) → Allow wanted rows
    → Stands bytes at (rows_bytes rows) → HasRows bytes at wanted
written_rows bytes at [] [] allow stands = tt
written_rows bytes at [] (row ∷ rows) allow stands = absurd allow
written_rows bytes at (wanted ∷ rest) [] allow stands = absurd allow
written_rows bytes at (wanted ∷ rest) (row ∷ rows) allow stands =
    let here = wanted_here bytes at wanted.width row.width (value_of row.wanted) (meets wanted.wanted) allow.0
    (row_read bytes at row rows allow.1.0 stands) allow.1.1.0 in
    let P : Width → Type 0 = λ w. HasRows bytes (at + size_of w) rest in (
      here,
      subst P (sym allow.0)
          (written_rows bytes (at + size_of row.width) rest rows allow.1.1.1 (rows_next bytes at row rows stands)),
    )

pub length_joined_rows : (first rest : List Row) → rows_bytes (first ++ rest) ≡ rows_bytes first ++ rows_bytes rest
unfolding rows_bytes
length_joined_rows first rest = flat_map-append row_bytes first rest

-- rows behind rows
pub first_rows : (bytes : List ℕ) (at : ℕ) (first rest : List Row)
    → Stands bytes at (rows_bytes (first ++ rest)) → Stands bytes at (rows_bytes first)
first_rows bytes at first rest stands =
    stands_front bytes at (rows_bytes first) (rows_bytes rest)
    (stands_same bytes at (rows_bytes (first ++ rest)) (rows_bytes first ++ rows_bytes rest) (length_joined_rows first rest) stands)

pub rest_rows : (bytes : List ℕ) (at : ℕ) (first rest : List Row)
    → Stands bytes at (rows_bytes (first ++ rest)) → Stands bytes (at + rows_size first) (rows_bytes rest)
rest_rows bytes at first rest stands =
    stands_moved bytes (at + length (rows_bytes first)) (at + rows_size first) (rows_bytes rest)
    (ap (λ n. at + n) (length_rows first))
    (stands_back bytes at (rows_bytes first) (rows_bytes rest)
    (stands_same bytes at (rows_bytes (first ++ rest)) (rows_bytes first ++ rows_bytes rest) (length_joined_rows first rest) stands))

byte_here : (bytes : List ℕ) (at byte : ℕ) (rest : List ℕ) → Stands bytes at (byte ∷ rest) → number_at bytes at Char ≡ byte
unfolding number_at
byte_here bytes at byte rest stands =
    let front : slice_index (drop at bytes) 0 ≡ byte = ap (λ xs. slice_index xs 0) stands.is in
    omega arith

-- given bytes that stand there
pub bytes_stand : (bytes : List ℕ) (at : ℕ) (part : List ℕ) → Stands bytes at part → HasRows bytes at (byte_rows part)
unfolding byte_rows
bytes_stand bytes at [] stands = tt
bytes_stand bytes at (byte ∷ rest) stands = (
  eq-eqb (number_at bytes at Char) byte (byte_here bytes at byte rest stands),
  bytes_stand bytes (at + 1) rest (stands_back bytes at (byte ∷ []) rest stands),
)
