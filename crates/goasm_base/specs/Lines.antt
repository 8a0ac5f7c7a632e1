-- Line numbers.
use Rattle.std.specs.Prelude.{ℕ, ◌-◌, ◌^◌}

-- the greatest one, at which a count of lines stays
abbrev pub last_line : ℕ
last_line = 2 ^ 31 - 2
