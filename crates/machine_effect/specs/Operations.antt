-- What each operation gives, on numbers.
use Rattle.std.specs.Prelude.{◌≡◌, ℕ, zero, suc, ℤ, pos, Bool, ◌+◌, ◌-◌, ◌*◌, ◌*ℤ◌, ◌/◌, ◌%◌, ◌^◌, ◌<◌, ◌==◌, ◌&&◌, nat_lt, nat_le, reverse, bit_and, bit_or, bit_xor, int_div, int_rem, if◌then◌else◌}
use Rattle.std.specs.Int.{int_shr}
use lib.Count.{ones_in, count_leading_zeros, count_trailing_zeros}
use Rattle.machine_effect.specs.declared.cond.Cond.{Cond}
use Rattle.machine_effect.specs.declared.op.Op.{Op}
use Rattle.machine_effect.specs.declared.op.Op.TheVariants as op
use Rattle.machine_effect.specs.declared.op.Shift.{Shift}
use Rattle.machine_effect.specs.declared.op.Shift.TheVariants.{Left, Right, RightSigned, RotateLeft, RotateRight}
use Rattle.machine_effect.specs.declared.op.Logic.{Logic}
use Rattle.machine_effect.specs.declared.op.Logic.TheVariants.{And, Or, Xor, AndNot, OrNot}
use Rattle.machine_effect.specs.declared.op.Signs.{Signs}
use Rattle.machine_effect.specs.declared.op.Signs.TheVariants.{Unsigned, Signed, SignedUnsigned}
use Rattle.machine_effect.specs.declared.op.Division.{Division}
use Rattle.machine_effect.specs.declared.op.Division.TheVariants.{DoubleQuotient, DoubleRemainder, SignedDoubleQuotient, SignedDoubleRemainder, QuotientOrZero, SignedQuotientOrZero, QuotientOrOnes, SignedQuotientOrOnes, RemainderOrDividend, SignedRemainderOrDividend}
use Rattle.machine_effect.specs.declared.op.Word.{Word}
use Rattle.machine_effect.specs.declared.op.Word.TheVariants as word
use Rattle.machine_effect.specs.Numbers.{signed, unsigned, fits}
use Rattle.machine_effect.specs.Memory.{number_of, bytes_of}

-- what an operation gives: one number, any number of this many bits, or nothing
pub data Outcome : Type 0 where
  Exactly : ℕ → Outcome
  AnyOfBits : ℕ → Outcome
  Fails : Outcome

abbrev pub IsOutcome : Outcome → ℕ → Type 0
IsOutcome (Exactly n) x = x ≡ n
IsOutcome (AnyOfBits w) x = x < 2 ^ w
IsOutcome Fails x = ⊥

abbrev pub outcome_map : (ℕ → ℕ) → Outcome → Outcome
outcome_map f (Exactly n) = Exactly (f n)
outcome_map f (AnyOfBits w) = AnyOfBits w
outcome_map f Fails = Fails

abbrev pub exactly_if : Bool → ℕ → Outcome
exactly_if can n = if can then Exactly n else Fails

-- 1 for a flag that is set
abbrev pub bit_of : Bool → ℕ
bit_of flag = if flag then 1 else 0

-- the complement on w bits
abbrev pub complement : ℕ → ℕ → ℕ
complement w a = 2 ^ w - 1 - a % 2 ^ w

-- a minus b, and minus a borrow of 0 or 1
abbrev pub difference : ℕ → ℕ → ℕ → ℕ → ℕ
difference w a b borrow = (a % 2 ^ w + (2 ^ w - b % 2 ^ w) + (2 ^ w - borrow)) % 2 ^ w

abbrev pub logic_of : Logic → ℕ → ℕ → ℕ → ℕ
logic_of And w a b = bit_and (a % 2 ^ w) (b % 2 ^ w)
logic_of Or w a b = bit_or (a % 2 ^ w) (b % 2 ^ w)
logic_of Xor w a b = bit_xor (a % 2 ^ w) (b % 2 ^ w)
logic_of AndNot w a b = bit_and (a % 2 ^ w) (complement w b)
logic_of OrNot w a b = bit_or (a % 2 ^ w) (complement w b)

-- a shifted by a count below w
abbrev pub shifted_below : Shift → ℕ → ℕ → ℕ → ℕ
shifted_below Left w a count = a * 2 ^ count % 2 ^ w
shifted_below Right w a count = a % 2 ^ w / 2 ^ count
shifted_below RightSigned w a count = unsigned w (int_shr (signed w a) count)
shifted_below RotateLeft w a count = a * 2 ^ count % 2 ^ w + a % 2 ^ w / 2 ^ (w - count)
shifted_below RotateRight w a count = a % 2 ^ w / 2 ^ count + a * 2 ^ (w - count) % 2 ^ w

abbrev pub shifted : Shift → ℕ → ℕ → ℕ → ℕ
shifted shift w a count = shifted_below shift w a (count % w)

-- what a product has above its lowest w bits
abbrev pub high_of : Signs → ℕ → ℕ → ℕ → ℕ
high_of Unsigned w a b = a % 2 ^ w * (b % 2 ^ w) / 2 ^ w
high_of Signed w a b = unsigned w (int_shr (signed w a *ℤ signed w b) w)
high_of SignedUnsigned w a b = unsigned w (int_shr (signed w a *ℤ pos (b % 2 ^ w)) w)

-- the number of twice the width whose upper half is b and whose lower half is a
abbrev pub double : ℕ → ℕ → ℕ → ℕ
double w a b = b % 2 ^ w * 2 ^ w + a % 2 ^ w

-- whether c isn't 0 and goes into a number less than 2 ^ w times, or as a signed number so that the quotient has w bits
abbrev pub divides : ℕ → ℕ → ℕ → Bool
divides w n c = nat_lt 0 (c % 2 ^ w) && nat_lt (n / (c % 2 ^ w)) (2 ^ w)

abbrev pub signed_divides : ℕ → ℤ → ℕ → Bool
signed_divides w n c = nat_lt 0 (c % 2 ^ w) && fits w (int_div n (signed w c))

abbrev pub divided : Division → ℕ → ℕ → ℕ → ℕ → Outcome
divided DoubleQuotient w a b c = exactly_if (divides w (double w a b) c) (double w a b / (c % 2 ^ w))
divided DoubleRemainder w a b c = exactly_if (divides w (double w a b) c) (double w a b % (c % 2 ^ w))
divided SignedDoubleQuotient w a b c =
    exactly_if (signed_divides w (signed (2 * w) (double w a b)) c)
    (unsigned w (int_div (signed (2 * w) (double w a b)) (signed w c)))
divided SignedDoubleRemainder w a b c =
    exactly_if (signed_divides w (signed (2 * w) (double w a b)) c)
    (unsigned w (int_rem (signed (2 * w) (double w a b)) (signed w c)))
divided QuotientOrZero w a b c = Exactly (if b % 2 ^ w == 0 then 0 else a % 2 ^ w / (b % 2 ^ w))
divided SignedQuotientOrZero w a b c =
    Exactly (if b % 2 ^ w == 0 then 0 else unsigned w (int_div (signed w a) (signed w b)))
divided QuotientOrOnes w a b c = Exactly (if b % 2 ^ w == 0 then 2 ^ w - 1 else a % 2 ^ w / (b % 2 ^ w))
divided SignedQuotientOrOnes w a b c =
    Exactly (if b % 2 ^ w == 0 then 2 ^ w - 1 else unsigned w (int_div (signed w a) (signed w b)))
divided RemainderOrDividend w a b c =
    Exactly (if b % 2 ^ w == 0 then a % 2 ^ w else a % 2 ^ w % (b % 2 ^ w))
divided SignedRemainderOrDividend w a b c =
    Exactly (if b % 2 ^ w == 0 then a % 2 ^ w else unsigned w (int_rem (signed w a) (signed w b)))

-- on 32 bits, before the sign is extended
abbrev pub word_of : Word → ℕ → ℕ → Outcome
word_of word.Add a b = Exactly ((a + b) % 2 ^ 32)
word_of word.Subtract a b = Exactly (difference 32 a b 0)
word_of (word.Shift shift) a b = Exactly (shifted shift 32 a b)
word_of word.Multiply a b = Exactly (a * b % 2 ^ 32)
word_of (word.Divide division) a b = divided division 32 a b 0

-- the bits r to s of a at the bottom, or the bits 0 to s moved up by w - r
abbrev pub bit_field : ℕ → ℕ → ℕ → ℕ → ℕ
bit_field w a r s =
    if nat_le r s then a % 2 ^ w / 2 ^ r % 2 ^ (s + 1 - r) else a % 2 ^ (s + 1) * 2 ^ (w - r) % 2 ^ w

abbrev pub signed_bit_field : ℕ → ℕ → ℕ → ℕ → ℕ
signed_bit_field w a r s =
    if nat_le r s then unsigned w (signed (s + 1 - r) (a % 2 ^ w / 2 ^ r))
    else unsigned w (signed (s + 1) a) * 2 ^ (w - r) % 2 ^ w

-- the lowest w bits in reverse order
abbrev pub reversed_bits : ℕ → ℕ → ℕ
reversed_bits zero a = 0
reversed_bits (suc w) a = a % 2 * 2 ^ w + reversed_bits w (a / 2)

abbrev pub reversed_bytes : ℕ → ℕ → ℕ
reversed_bytes w a = number_of (reverse (bytes_of (w / 8) a))

-- any number of 64 bits where there is no set bit
abbrev pub or_free : ℕ → ℕ → ℕ → Outcome
or_free w a found = if a % 2 ^ w == 0 then AnyOfBits 64 else Exactly found

-- what an operation gives at a width of w bits, where `holds` tells which conditions hold and `carry` is the carry flag
unfoldable pub operate : (Cond → Bool) → Bool → Op → ℕ → ℕ → ℕ → ℕ → Outcome
operate holds carry op.Copy w a b c = Exactly (a % 2 ^ w)
operate holds carry op.SignExtend w a b c = Exactly (unsigned w (signed b a))
operate holds carry op.Upper w a b c = Exactly (a / 2 ^ 64 % 2 ^ w)
operate holds carry op.Pair w a b c = Exactly ((a % 2 ^ 64 + 2 ^ 64 * b) % 2 ^ w)
operate holds carry op.Add w a b c = Exactly ((a + b) % 2 ^ w)
operate holds carry op.AddCarry w a b c = Exactly ((a + b + bit_of carry) % 2 ^ w)
operate holds carry op.Subtract w a b c = Exactly (difference w a b 0)
operate holds carry op.SubtractBorrow w a b c = Exactly (difference w a b (bit_of carry))
operate holds carry (op.AddScaled scale) w a b c = Exactly ((a + b * scale + c) % 2 ^ w)
operate holds carry (op.Logic logic) w a b c = Exactly (logic_of logic w a b)
operate holds carry (op.AddShifted shift) w a b c = Exactly ((a + shifted shift w b c) % 2 ^ w)
operate holds carry (op.SubtractShifted shift) w a b c = Exactly (difference w a (shifted shift w b c) 0)
operate holds carry (op.LogicShifted logic shift) w a b c = Exactly (logic_of logic w a (shifted shift w b c))
operate holds carry op.Insert w a b c = Exactly (bit_or (bit_and (a % 2 ^ w) (b % 2 ^ w)) (c % 2 ^ w))
operate holds carry (op.Shift shift) w a b c = Exactly (shifted shift w a b)
operate holds carry op.Multiply w a b c = Exactly (a * b % 2 ^ w)
operate holds carry op.MultiplyAdd w a b c = Exactly ((a + b * c) % 2 ^ w)
operate holds carry op.MultiplySubtract w a b c = Exactly (difference w a (b * c) 0)
operate holds carry (op.MultiplyHigh signs) w a b c = Exactly (high_of signs w a b)
operate holds carry (op.Divide division) w a b c = divided division w a b c
operate holds carry (op.Word word) w a b c = outcome_map (λ x. unsigned w (signed 32 x)) (word_of word a b)
operate holds carry op.BitField w a b c = Exactly (bit_field w a b c)
operate holds carry op.SignedBitField w a b c = Exactly (signed_bit_field w a b c)
operate holds carry op.LowestSet w a b c = or_free w a (count_trailing_zeros w (a % 2 ^ w))
operate holds carry op.HighestSet w a b c = or_free w a (w - 1 - count_leading_zeros w (a % 2 ^ w))
operate holds carry op.CountOnes w a b c = Exactly (ones_in w a)
operate holds carry op.LeadingZeros w a b c = Exactly (count_leading_zeros w (a % 2 ^ w))
operate holds carry op.ReverseBits w a b c = Exactly (reversed_bits w a)
operate holds carry op.ReverseBytes w a b c = Exactly (reversed_bytes w a)
operate holds carry (op.Choose cond) w a b c = Exactly (if holds cond then a % 2 ^ w else b % 2 ^ w)
operate holds carry (op.ChooseIncrement cond) w a b c = Exactly (if holds cond then a % 2 ^ w else (b + 1) % 2 ^ w)
operate holds carry (op.ChooseInvert cond) w a b c = Exactly (if holds cond then a % 2 ^ w else complement w b)
operate holds carry (op.ChooseNegate cond) w a b c = Exactly (if holds cond then a % 2 ^ w else difference w 0 b 0)
operate holds carry (op.SetByte cond) w a b c = Exactly ((a - a % 256 + bit_of (holds cond)) % 2 ^ w)
operate holds carry op.Any w a b c = AnyOfBits w
