-- A shelf in memory, whose reads can be made to fail by their numbers.
use Rattle.std.specs.Prelude.{ℕ, Bool, List, [], ◌∷◌, ◌+◌, ◌-◌, ◌^◌, ◌==◌, ◌||◌, min, Option, Some, None, is_none, if◌then◌else◌}
use Rattle.std.specs.List.{list_any}
use Rattle.std.specs.Str.{bytes_eq}
use Rattle.goasm_base.specs.Shelf.{ReadLog}

pub record ShelfState : Type 0 where
  -- the files, by name and bytes; of several with one name the first counts
  pub files : List (List ℕ × List ℕ)
  -- the numbers of the reads that fail
  pub failing : List ℕ
  -- how many reads there were, up to the greatest `u64`
  pub reads : ℕ
  -- how many reads failed, up to the greatest `u64`
  pub faults : ℕ

-- the bytes of the first file of this name
abbrev pub file_named : List (List ℕ × List ℕ) → List ℕ → Option (List ℕ)
file_named [] name = None
file_named (file ∷ files) name = if bytes_eq file.0 name then Some file.1 else file_named files name

-- whether a read of this name fails: the name is absent, or the read's number is listed
abbrev pub read_fails : ShelfState → List ℕ → Bool
read_fails shelf name = list_any (λ n. n == shelf.reads) shelf.failing || is_none (file_named shelf.files name)

-- the shelf after a read of this name
abbrev pub after_read : ShelfState → List ℕ → ShelfState
after_read shelf name = record shelf {
  reads = min (shelf.reads + 1) (2 ^ 64 - 1);
  faults = if read_fails shelf name then min (shelf.faults + 1) (2 ^ 64 - 1) else shelf.faults;
}

-- how many reads there were; it keeps no names
abbrev pub log_of : ShelfState → ReadLog
log_of shelf = record { count = shelf.reads; names = None }
