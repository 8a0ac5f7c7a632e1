-- What the writer knows of the bytes so far.
use Rattle.std.proofs.Common.{◌≡◌, ℕ, ◌+◌, ◌<◌, ◌≤◌, ◌^◌, List, [], ◌∷◌, ◌++◌, length, drop, get_or, refl, sym, ◌∙◌, ap, arith, append_assoc, append-nil, length-append}
use Rattle.std.specs.List.{flat_map}
use Rattle.std.proofs.lemmas.List.{drop_more, drop_all}
use Rattle.byte_layout.specs.Joined.{padded, joined}
use Rattle.elf_image.specs.Layout.{labels}
use Rattle.elf_image.specs.declared.rows.Row.{Row}
use Rattle.elf_image.specs.declared.parts.SymbolPart.{SymbolPart}
use Rattle.elf_image.specs.declared.parts.ImageParts.{ImageParts}
use Rattle.elf_image.specs.Rows.{rows_bytes}
use Rattle.elf_image.specs.Symbols.{null_symbol}
use Rattle.elf_image.specs.Written.{part_rows, parts_bytes, name_bytes, string_bytes, image_bytes, AreParts}
use Rattle.elf_image.proofs.WrittenRowLemmas.{length_joined_rows}
use Rattle.elf_image.proofs.LaidLemmas.{laid}
use Rattle.elf_image.proofs.FoundLemmas.{AreNear, near}

-- the bytes so far and the symbols from an index on are the symbol table; so it is with the places of the names
pub record HasSymbolsTo (symbols : List SymbolPart) (bytes : List ℕ) (place index : ℕ) : Type 0 where
  pub told : bytes ++ parts_bytes place (drop index symbols) ≡ rows_bytes null_symbol ++ parts_bytes 1 symbols
  pub names : place + length (flat_map name_bytes (drop index symbols)) ≡ 1 + length (flat_map name_bytes symbols)

module _ (symbols : List SymbolPart) where
  pub symbols_none : (bytes : List ℕ) → bytes ≡ rows_bytes null_symbol → HasSymbolsTo symbols bytes 1 0
  symbols_none bytes is = record { told = ap (λ front. front ++ parts_bytes 1 symbols) is; names = refl }

  length_next : (part : SymbolPart) (parts : List SymbolPart)
      → length (flat_map name_bytes (part ∷ parts)) ≡ length part.name + 1 + length (flat_map name_bytes parts)
  length_next part parts =
      length-append (name_bytes part) (flat_map name_bytes parts) ∙ ap (λ n. n + length (flat_map name_bytes parts)) (length-append part.name (0 ∷ []))

  pub symbols_next : (bytes next : List ℕ) (place index : ℕ) (part : SymbolPart) → index < length symbols → HasSymbolsTo symbols bytes place index
      → part ≡ get_or symbols index part
      → next ≡ bytes ++ rows_bytes (part_rows place part)
      → HasSymbolsTo symbols next (place + (length part.name + 1)) (index + 1)
  symbols_next bytes next place index part inside has item is =
      let rest : drop index symbols ≡ part ∷ drop (index + 1) symbols
      = drop_more symbols index part inside ∙ ap (λ p. p ∷ drop (index + 1) symbols) (sym item) in
      let moved : place + (length part.name + 1) ≡ place + length part.name + 1 = omega arith in
      let longer = length_next part (drop (index + 1) symbols) in
      let names : place + length (flat_map name_bytes (part ∷ drop (index + 1) symbols)) ≡ 1 + length (flat_map name_bytes symbols)
      = ap (λ r. place + length (flat_map name_bytes r)) (sym rest) ∙ has.names in
      record {
        told = ap (λ front. front ++ parts_bytes (place + (length part.name + 1)) (drop (index + 1) symbols)) is
            ∙ append_assoc bytes (rows_bytes (part_rows place part)) (parts_bytes (place + (length part.name + 1)) (drop (index + 1) symbols))
            ∙ ap (λ n. bytes ++ (rows_bytes (part_rows place part) ++ parts_bytes n (drop (index + 1) symbols))) moved
            ∙ ap (λ r. bytes ++ parts_bytes place r) (sym rest)
            ∙ has.told;
        names = omega arith;
      }

  pub place_fits : (bytes : List ℕ) (place index : ℕ) (part : SymbolPart) (name : List ℕ) → index < length symbols
      → HasSymbolsTo symbols bytes place index → part ≡ get_or symbols index part → name ≡ part.name
      → length (string_bytes symbols) < 2 ^ 63 → place + (length name + 1) < 2 ^ 64
  unfolding string_bytes
  place_fits bytes place index part name inside has item same fits =
      let rest : drop index symbols ≡ part ∷ drop (index + 1) symbols
      = drop_more symbols index part inside ∙ ap (λ p. p ∷ drop (index + 1) symbols) (sym item) in
      let longer = length_next part (drop (index + 1) symbols) in
      let names : place + length (flat_map name_bytes (part ∷ drop (index + 1) symbols)) ≡ 1 + length (flat_map name_bytes symbols)
      = ap (λ r. place + length (flat_map name_bytes r)) (sym rest) ∙ has.names in
      omega (arith, ap length same)

  pub symbols_all : (bytes : List ℕ) (place index : ℕ) → length symbols ≤ index → HasSymbolsTo symbols bytes place index
      → bytes ≡ rows_bytes null_symbol ++ parts_bytes 1 symbols
  symbols_all bytes place index past has =
      sym (append-nil bytes) ∙ ap (λ r. bytes ++ parts_bytes place r) (sym (drop_all index symbols past)) ∙ has.told

-- rows behind rows
pub rows_first : (empty bytes : List ℕ) (rows told : List Row)
    → empty ≡ [] → bytes ≡ empty ++ rows_bytes rows → rows ≡ told → bytes ≡ rows_bytes told
rows_first empty bytes rows told none is same =
    is ∙ ap (λ front. front ++ rows_bytes rows) none ∙ ap rows_bytes same

pub rows_pushed : (bytes next : List ℕ) (first rows told : List Row)
    → bytes ≡ rows_bytes first → next ≡ bytes ++ rows_bytes rows → rows ≡ told → next ≡ rows_bytes (first ++ told)
rows_pushed bytes next first rows told is then_is same =
    then_is
    ∙ ap (λ front. front ++ rows_bytes rows) is
    ∙ ap (λ rest. rows_bytes first ++ rows_bytes rest) same
    ∙ sym (length_joined_rows first told)

-- four parts behind others
pub described : (old one two three four symbols strings named sections : List ℕ)
    → one ≡ padded 8 old ++ symbols → two ≡ padded 8 one ++ strings → three ≡ padded 8 two ++ named
    → four ≡ padded 8 three ++ sections → named ≡ labels
    → four ≡ joined 8 old (symbols ∷ strings ∷ labels ∷ sections ∷ [])
unfolding joined
described old one two three four symbols strings named sections a b c d same =
    d
    ∙ ap (λ x. padded 8 x ++ sections)
    (c ∙ ap (λ x. padded 8 x ++ named) (b ∙ ap (λ x. padded 8 x ++ strings) a)
    ∙ ap (λ x. padded 8 (padded 8 (padded 8 old ++ symbols) ++ strings) ++ x) same)

-- no part passes 2 ^ 32
pub parts_near : (parts : ImageParts) → AreParts parts → AreNear parts
parts_near parts are = near parts (image_bytes parts) are.short (laid parts)
