-- The word of one line.
use Rattle.std.proofs.Common.{◌≡◌, ℕ, ◌+◌, ◌-◌, ◌*◌, ◌/◌, ◌<◌, ◌≤◌, List, [], ◌∷◌, length, take, drop, Option, Some, None, refl, sym, ap, ◌∙◌, arith}
use Rattle.std.specs.Option.{option_map}
use Rattle.std.proofs.lemmas.List.{nil_from_length}
use Rattle.machine_effect.specs.Memory.{number_of}
use Rattle.machine_dump.specs.Lines.{lines_of}
use Rattle.machine_dump.specs.Digits.{bytes_of}
use Rattle.machine_dump.specs.Contents.{ranges_in, byte_in, bytes_from, word_in}
use Rattle.machine_dump.specs.Search.{IsBody, IsLow, address_of}
use Rattle.machine_dump.proofs.FormLemmas.{IsLine, line_is, length_bytes, drop_bytes, take_bytes}
use Rattle.machine_dump.proofs.RangeLemmas.{one_range, has_bytes, lacks_bytes, none_there, byte_none, ranges_none}
use Rattle.machine_dump.proofs.SearchLemmas.{roomy, begins_above}

module _ (line : List ℕ) (at : ℕ) (is_low : IsLow line at) where
  form : IsLine line is_low.range
  form = line_is line is_low.range is_low.is

  pub size : 22 < length line
  size = form.size

  pub low : address_of line ≤ at
  low = omega (arith, is_low.low, form.first_is)

  count : length is_low.range.bytes ≡ length (drop 21 line) / 2
  count = ap length form.bytes_is ∙ length_bytes (drop 21 line)

  sum : is_low.range.first + (at - address_of line) ≡ at
  sum = omega (arith, is_low.low, form.first_is)

  words : word_in (byte_in (ranges_in (line ∷ []))) at
      ≡ option_map number_of (bytes_from (byte_in (is_low.range ∷ [])) (is_low.range.first + (at - address_of line)) 8)
  words =
      ap (λ ranges. word_in (byte_in ranges) at) (one_range line is_low.range is_low.is)
      ∙ ap (λ k. option_map number_of (bytes_from (byte_in (is_low.range ∷ [])) k 8)) (sym sum)

  pub lacks_word : length (drop 21 line) / 2 - (at - address_of line) < 8 → None ≡ word_in (byte_in (ranges_in (line ∷ []))) at
  lacks_word few =
      sym (words
      ∙ ap (option_map number_of) (lacks_bytes is_low.range 8 (at - address_of line) (omega (arith, few, count)) (omega arith)))

  pub has_word : ¬ (length (drop 21 line) / 2 - (at - address_of line) < 8)
      → Some (number_of (bytes_of (take 16 (drop (2 * (at - address_of line)) (drop 21 line))))) ≡ word_in (byte_in (ranges_in (line ∷ []))) at
  has_word enough =
      let index : at - address_of line + 8 ≤ length is_low.range.bytes = omega (arith, enough, count) in
      sym (words
      ∙ ap (option_map number_of) (has_bytes is_low.range 8 (at - address_of line) index)
      ∙ ap (λ bytes. Some (number_of (take 8 (drop (at - address_of line) bytes)))) form.bytes_is
      ∙ ap (λ bytes. Some (number_of (take 8 bytes))) (drop_bytes (at - address_of line) (drop 21 line))
      ∙ ap (λ bytes. Some (number_of bytes)) (take_bytes 8 (drop (2 * (at - address_of line)) (drop 21 line))))

  -- where the word's digits stand
  pub digits_room : ¬ (length (drop 21 line) / 2 - (at - address_of line) < 8) → 2 * (at - address_of line) + 16 ≤ length (drop 21 line)
  digits_room enough = omega (arith, enough)

-- where the first byte is missing there is no word
word_none : (byte : ℕ → Option ℕ) (at : ℕ) → byte at ≡ None → word_in byte at ≡ None
unfolding bytes_from
word_none byte at none = rw none refl

no_line : lines_of [] ≡ []
unfolding lines_of
no_line = refl

pub none_empty : (body : List ℕ) (at : ℕ) → length body ≡ 0 → word_in (byte_in (ranges_in (lines_of body))) at ≡ None
none_empty body at empty =
    word_none (byte_in (ranges_in (lines_of body))) at
    (ap (λ bytes. byte_in (ranges_in (lines_of bytes)) at) (nil_from_length body empty)
    ∙ ap (λ lines. byte_in (ranges_in lines) at) no_line ∙ ap (λ ranges. byte_in ranges at) ranges_none ∙ byte_none at)

pub none_low : (body : List ℕ) (at : ℕ) → IsBody body → 0 < length body → at < address_of body
    → word_in (byte_in (ranges_in (lines_of body))) at ≡ None
none_low body at is_body some above =
    word_none (byte_in (ranges_in (lines_of body))) at
    (none_there 0 at (lines_of body) is_body.rises (begins_above body 0 at is_body (omega arith) refl (λ within. above)))

pub roomy_first : (body : List ℕ) → IsBody body → 0 < length body → 20 ≤ length body
roomy_first body is_body some = roomy body 0 is_body some refl
