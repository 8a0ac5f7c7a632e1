-- Numbers of a function table, the lowest byte first. A byte past the end counts as 0.
use Rattle.std.specs.Prelude.{ℕ, List, ◌+◌, ◌*◌, ◌^◌, slice_index}

abbrev pub byte_at : List ℕ → ℕ → ℕ
byte_at bytes at = slice_index bytes at

unfoldable pub u32_at : List ℕ → ℕ → ℕ
u32_at bytes at =
    slice_index bytes at + 256 * slice_index bytes (at + 1)
    + 65536 * slice_index bytes (at + 2) + 16777216 * slice_index bytes (at + 3)

unfoldable pub u64_at : List ℕ → ℕ → ℕ
u64_at bytes at = u32_at bytes at + 2 ^ 32 * u32_at bytes (at + 4)
