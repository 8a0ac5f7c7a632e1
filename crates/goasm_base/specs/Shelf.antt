-- What a shelf of files tells of itself.
use Rattle.std.specs.Prelude.{◌≡◌, ◌⊎◌, ℕ, List, [], ◌∷◌, ◌++◌, ◌+◌, ◌-◌, ◌^◌, ◌≤◌, min, take, Option, Some, Result, Ok, Err}
use Rattle.std.specs.Option.{option_map}
use Rattle.goasm_base.specs.declared.shelf.ShelfNo.{ShelfNo}
use Rattle.goasm_base.specs.declared.shelf.ShelfNo.TheVariants as no

-- the files that a shelf holds, by name
abbrev pub Files : Type 0
Files = List ℕ → Option (List ℕ)

-- what a read gives: the first most + 1 bytes of the file, or all of them where there are fewer
abbrev pub read_of : Files → List ℕ → ℕ → Option (List ℕ)
read_of files name most = option_map (take (most + 1)) (files name)

-- the bytes are what a read gives, where the shelf tells what it holds
abbrev pub Reads : Option Files → List ℕ → ℕ → List ℕ → Type 0
Reads told name most bytes = (files : Files) → told ≡ Some files → read_of files name most ≡ Some bytes

-- a count of faults rose, or stands at the greatest `u64`, where it stays
abbrev pub Rose : ℕ → ℕ → Type 0
Rose before now = min (before + 1) (2 ^ 64 - 1) ≤ now

-- the reads that were made of a shelf
pub record ReadLog : Type 0 where
  -- how many there were, up to the greatest `u64`
  pub count : ℕ
  -- the names that were asked for, in their order, where the shelf tells them
  pub names : Option (List (List ℕ))

-- one read more, of this name
unfoldable pub with_read : List ℕ → ReadLog → ReadLog
with_read name log = record {
  count = min (log.count + 1) (2 ^ 64 - 1);
  names = option_map (λ names. names ++ name ∷ []) log.names;
}

-- The reads before a call and after it: it made one, of this name. Where memory was wanting it made that one or none.
abbrev pub Asks : List ℕ → ReadLog → ReadLog → Result (List ℕ) ShelfNo → Type 0
Asks name before now (Ok bytes) = now ≡ with_read name before
Asks name before now (Err no.Failed) = now ≡ with_read name before
Asks name before now (Err no.Memory) = (now ≡ before) ⊎ (now ≡ with_read name before)
