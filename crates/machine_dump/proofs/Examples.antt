-- The definitions on small examples, each computed.
use Rattle.std.proofs.Common.{◌≡◌, List, [], ◌∷◌, Some, None, refl}
use Rattle.std.specs.Prelude.{codes}
use Rattle.machine_effect.specs.Memory.{number_of}
use Rattle.machine_dump.specs.Lines.{lines_of}
use Rattle.machine_dump.specs.Digits.{bytes_of, word_of}
use Rattle.machine_dump.specs.Form.{Range, field_of, range_from, range_of, pc_of}
use Rattle.machine_dump.specs.Contents.{byte_in, bytes_from, word_in}

-- what stands behind the last newline is no line
two_lines : lines_of (97 ∷ 98 ∷ 10 ∷ 10 ∷ 99 ∷ []) ≡ (97 ∷ 98 ∷ []) ∷ [] ∷ []
unfolding lines_of
two_lines = refl

pc_line : pc_of (codes "pc 00000000004000ff") ≡ Some 0x4000ff
unfolding field_of word_of
pc_line = refl

-- capital digits are none
pc_capital : pc_of (codes "pc 00000000004000FF") ≡ None
unfolding field_of word_of
pc_capital = refl

range_line : range_of (codes "mem 0000000000000010 0aff") ≡ Some (record { first = 16; bytes = 10 ∷ 255 ∷ [] })
unfolding range_of range_from field_of word_of bytes_of
range_line = refl

-- a line without bytes, and one whose last byte would lie at 2 ^ 64
empty_range : range_of (codes "mem 0000000000000010 ") ≡ None
unfolding range_of range_from field_of word_of bytes_of
empty_range = refl

last_range : range_of (codes "mem ffffffffffffffff 0aff") ≡ None
unfolding range_of range_from field_of word_of bytes_of
last_range = refl

-- a word of eight bytes, the lowest first, and one of which the last byte is missing
abbrev ranges : List Range
ranges = record { first = 16; bytes = 1 ∷ 2 ∷ 0 ∷ 0 ∷ 0 ∷ 0 ∷ 0 ∷ 0 ∷ 3 ∷ [] } ∷ []

word_there : word_in (byte_in ranges) 17 ≡ Some 0x0300000000000002
unfolding bytes_from byte_in number_of
word_there = refl

word_missing : word_in (byte_in ranges) 18 ≡ None
unfolding bytes_from byte_in number_of
word_missing = refl
