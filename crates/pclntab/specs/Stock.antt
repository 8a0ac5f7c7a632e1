-- What the code keeps of the pc-value tables that it wrote.
use Rattle.std.specs.Prelude.{◌≡◌, ℕ, List, [], ◌∷◌, ◌+◌, length, map}
use Rattle.pclntab.specs.declared.stock.Stock.{Stock}
use Rattle.pclntab.specs.Written.{stored}

-- where tables stand, the first at a place
unfoldable pub offsets_from : ℕ → List (List ℕ) → List ℕ
offsets_from at [] = []
offsets_from at (table ∷ others) = at ∷ offsets_from (at + length table) others

-- the tables of entries
abbrev pub keys_in : {K : Type 0} → (K → List ℕ) → List (K × ℕ) → List (List ℕ)
keys_in items entries = map (λ entry. items entry.0) entries

abbrev pub tables_in : Stock → List (List ℕ)
tables_in stock = keys_in (λ key. key.items) stock.offsets.entries

-- the bytes are those of the tables, and each entry has its table's offset
pub record IsStock (stock : Stock) : Type 0 where
  pub bytes : stock.bytes.items ≡ stored (tables_in stock)
  pub offsets : map (λ entry. entry.1) stock.offsets.entries ≡ offsets_from 1 (tables_in stock)
