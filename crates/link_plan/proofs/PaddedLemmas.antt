-- Things that reach up to a multiple of 16 each.
use Rattle.std.proofs.Common.{◌≡◌, ℕ, zero, suc, ◌+◌, ◌%◌, ◌<◌, List, [], ◌∷◌, length, map, take, get_or, refl, arith}
use Rattle.std.specs.Prelude.{sum}
use Rattle.std.proofs.lemmas.List.Sums.{sum_by-cons}
use Rattle.byte_layout.specs.Joined.{aligned}
use Rattle.byte_layout.proofs.JoinedLemmas.{aligned_whole}
use Rattle.link_places.specs.Places.{places_from, end_from}
use Rattle.link_places.proofs.PlaceLemmas.{length-places}

aligned-add : (whole size : ℕ) → whole % 16 ≡ 0 → aligned 16 (whole + size) ≡ whole + aligned 16 size
unfolding aligned
aligned-add whole size is =
    let same : (whole + size) % 16 ≡ size % 16 = omega (arith, is) in
    rw same (omega arith)

-- where the next thing begins
next_place : (end size : ℕ) → aligned 16 (aligned 16 end + size) ≡ aligned 16 end + aligned 16 size
next_place end size = aligned-add (aligned 16 end) size (aligned_whole 16 end (omega arith))

sum_more : (size : ℕ) (sizes : List ℕ) → sum (map (aligned 16) (size ∷ sizes)) ≡ aligned 16 size + sum (map (aligned 16) sizes)
sum_more size sizes = sum_by-cons (λ x. x) (aligned 16 size) (map (aligned 16) sizes)

place_from : (end k : ℕ) (sizes : List ℕ) → k < length sizes
    → get_or (places_from end sizes) k 0 ≡ aligned 16 end + sum (map (aligned 16) (take k sizes))
unfolding places_from
place_from end k [] within = absurd (omega (arith, within))
place_from end zero (size ∷ sizes) within = omega arith
place_from end (suc k) (size ∷ sizes) within =
    omega (arith, place_from (aligned 16 end + size) k sizes (omega (arith, within)), next_place end size, sum_more size (take k sizes))

end_padded : (end : ℕ) (sizes : List ℕ) → aligned 16 (end_from end sizes) ≡ aligned 16 end + sum (map (aligned 16) sizes)
unfolding end_from
end_padded end [] = omega arith
end_padded end (size ∷ sizes) =
    omega (arith, end_padded (aligned 16 end + size) sizes, next_place end size, sum_more size sizes)

pub place_of_padded : (k : ℕ) (sizes : List ℕ) → k < length sizes → get_or (places_from 0 sizes) k 0 ≡ sum (map (aligned 16) (take k sizes))
unfolding aligned
place_of_padded k sizes within =
    let none : aligned 16 0 ≡ 0 = refl in
    omega (arith, place_from 0 k sizes within, none)

pub end_of_padded : (sizes : List ℕ) → aligned 16 (end_from 0 sizes) ≡ sum (map (aligned 16) sizes)
unfolding aligned
end_of_padded sizes =
    let none : aligned 16 0 ≡ 0 = refl in
    omega (arith, end_padded 0 sizes, none)

pub places_of_all : (sizes : List ℕ) → length (places_from 0 sizes) ≡ length sizes
places_of_all sizes = length-places 0 sizes
