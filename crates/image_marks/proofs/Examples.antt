-- The definitions on small inputs.
use Rattle.std.proofs.Common.{◌≡◌, true, false, [], ◌∷◌, refl}
use Rattle.image_marks.specs.Bits.{has, room}

-- the numbers 0 and 2 stand in the first word, 65 in the second
has_first : has (5 ∷ 2 ∷ []) 2 ≡ true
unfolding has
has_first = refl

has_second : has (5 ∷ 2 ∷ []) 65 ≡ true
unfolding has
has_second = refl

has_no_other : has (5 ∷ 2 ∷ []) 64 ≡ false
unfolding has
has_no_other = refl

has_none_past : has (5 ∷ 2 ∷ []) 130 ≡ false
unfolding has
has_none_past = refl

has_room : room (5 ∷ 2 ∷ []) ≡ 128
has_room = refl
