-- Numbers of w bits, read with and without a sign.
use Rattle.std.specs.Prelude.{ℕ, ℤ, pos, negsuc, Bool, ◌+◌, ◌-◌, ◌*◌, ◌%◌, ◌^◌, nat_lt, if◌then◌else◌}

-- the lowest w bits of a number as a signed number
abbrev pub signed : ℕ → ℕ → ℤ
signed w a = if nat_lt (2 * (a % 2 ^ w)) (2 ^ w) then pos (a % 2 ^ w) else negsuc (2 ^ w - 1 - a % 2 ^ w)

-- the number of w bits that a signed number has, modulo 2 ^ w
abbrev pub unsigned : ℕ → ℤ → ℕ
unsigned w (pos n) = n % 2 ^ w
unsigned w (negsuc n) = 2 ^ w - 1 - n % 2 ^ w

-- whether a signed number has w bits
abbrev pub fits : ℕ → ℤ → Bool
fits w (pos n) = nat_lt (2 * n) (2 ^ w)
fits w (negsuc n) = nat_lt (2 * n) (2 ^ w)

-- the 64-bit number that lies a signed distance above another, modulo 2 ^ 64
abbrev pub moved_by : ℕ → ℤ → ℕ
moved_by x k = (x + unsigned 64 k) % 2 ^ 64
