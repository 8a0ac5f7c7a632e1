-- Places one behind the other.
use Rattle.std.proofs.Common.{◌≡◌, ℕ, zero, suc, ◌+◌, ◌%◌, ◌<◌, ◌≤◌, List, [], ◌∷◌, ◌++◌, length, get_or, drop, refl, sym, ap, subst, ◌∙◌, arith, append_assoc, append-nil, add-one}
use Rattle.std.proofs.lemmas.List.{at_drop_more, at_drop_all}
use Rattle.byte_layout.specs.Joined.{aligned}
use Rattle.byte_layout.proofs.JoinedLemmas.{aligned-le, aligned_whole, aligned_near}
use Rattle.link_places.specs.Places.{places_from, end_from}

pub end_from-le : (end : ℕ) (sizes : List ℕ) → end ≤ end_from end sizes
unfolding end_from
end_from-le end [] = omega arith
end_from-le end (size ∷ sizes) =
    omega (arith, aligned-le 16 end, end_from-le (aligned 16 end + size) sizes)

-- from one thing to the next
pub places_more : (at : List ℕ) (end place i : ℕ) (sizes all : List ℕ) → place ≡ aligned 16 end → i < length sizes
    → at ++ places_from end (drop i sizes) ≡ all → (at ++ place ∷ []) ++ places_from (place + get_or sizes i 0) (drop (i + 1) sizes) ≡ all
unfolding places_from
places_more at end place i sizes all is within so_far =
    append_assoc at (place ∷ []) (places_from (place + get_or sizes i 0) (drop (i + 1) sizes))
    ∙ ap (λ (p : ℕ). at ++ p ∷ places_from (p + get_or sizes i 0) (drop (i + 1) sizes)) is
    ∙ ap (λ rest. at ++ rest) (sym (at_drop_more (places_from end) sizes i 0 within))
    ∙ so_far

pub end_more : (end place i : ℕ) (sizes : List ℕ) → place ≡ aligned 16 end → i < length sizes
    → end_from (place + get_or sizes i 0) (drop (i + 1) sizes) ≡ end_from end (drop i sizes)
unfolding end_from
end_more end place i sizes is within =
    ap (λ (p : ℕ). end_from (p + get_or sizes i 0) (drop (i + 1) sizes)) is ∙ sym (at_drop_more (end_from end) sizes i 0 within)

-- behind the last one
pub places_all : (at : List ℕ) (end i : ℕ) (sizes : List ℕ) → length sizes ≤ i → at ≡ at ++ places_from end (drop i sizes)
unfolding places_from
places_all at end i sizes past =
    sym (append-nil at) ∙ ap (λ rest. at ++ rest) (sym (at_drop_all (places_from end) sizes i past))

pub end_all : (end i : ℕ) (sizes : List ℕ) → length sizes ≤ i → end ≡ end_from end (drop i sizes)
unfolding end_from
end_all end i sizes past = sym (at_drop_all (end_from end) sizes i past)

-- one that ends too far
pub too_far : (end i most : ℕ) (sizes : List ℕ) → i < length sizes → most < aligned 16 end + get_or sizes i 0 → most < end_from end (drop i sizes)
too_far end i most sizes within far =
    omega (arith, end_more end (aligned 16 end) i sizes refl within, end_from-le (aligned 16 end + get_or sizes i 0) (drop (i + 1) sizes))

pub length-places : (end : ℕ) (sizes : List ℕ) → length (places_from end sizes) ≡ length sizes
unfolding places_from
length-places end [] = refl
length-places end (size ∷ sizes) = ap suc (length-places (aligned 16 end + size) sizes)

-- each at a multiple of 16
pub place_whole : (end i : ℕ) (sizes : List ℕ) → i < length sizes → get_or (places_from end sizes) i 0 % 16 ≡ 0
unfolding places_from
place_whole end i [] within = absurd (omega (arith, within))
place_whole end zero (size ∷ sizes) within = aligned_whole 16 end (omega arith)
place_whole end (suc i) (size ∷ sizes) within = place_whole (aligned 16 end + size) i sizes (omega (arith, within))

-- and none before where it may begin
place-le : (end i : ℕ) (sizes : List ℕ) → i < length sizes → end ≤ get_or (places_from end sizes) i 0
unfolding places_from
place-le end i [] within = absurd (omega (arith, within))
place-le end zero (size ∷ sizes) within = aligned-le 16 end
place-le end (suc i) (size ∷ sizes) within =
    omega (arith, aligned-le 16 end, place-le (aligned 16 end + size) i sizes (omega (arith, within)))

-- behind the earlier ones
pub place_behind : (end i j : ℕ) (sizes : List ℕ) → i < j → j < length sizes
    → get_or (places_from end sizes) i 0 + get_or sizes i 0 ≤ get_or (places_from end sizes) j 0
unfolding places_from
place_behind end i j [] before within = absurd (omega (arith, within))
place_behind end i zero (size ∷ sizes) before within = absurd (omega (arith, before))
place_behind end zero (suc j) (size ∷ sizes) before within = place-le (aligned 16 end + size) j sizes (omega (arith, within))
place_behind end (suc i) (suc j) (size ∷ sizes) before within =
    place_behind (aligned 16 end + size) i j sizes (omega (arith, before)) (omega (arith, within))

-- the next one is near
next_near : (end i : ℕ) (sizes : List ℕ) → suc i < length sizes
    → get_or (places_from end sizes) (suc i) 0 < get_or (places_from end sizes) i 0 + get_or sizes i 0 + 16
unfolding places_from
next_near end i [] within = absurd (omega (arith, within))
next_near end i (size ∷ []) within = absurd (omega (arith, within))
next_near end zero (size ∷ (next ∷ sizes)) within = aligned_near 16 (aligned 16 end + size) (omega arith)
next_near end (suc i) (size ∷ (next ∷ sizes)) within = next_near (aligned 16 end + size) i (next ∷ sizes) (omega (arith, within))

pub place_near : (end i : ℕ) (sizes : List ℕ) → i + 1 < length sizes
    → get_or (places_from end sizes) (i + 1) 0 < get_or (places_from end sizes) i 0 + get_or sizes i 0 + 16
place_near end i sizes within =
    subst (λ n. get_or (places_from end sizes) n 0 < get_or (places_from end sizes) i 0 + get_or sizes i 0 + 16) (sym (add-one i))
    (next_near end i sizes (omega (arith, within)))

-- all before the end
pub place_ends : (end i : ℕ) (sizes : List ℕ) → i < length sizes
    → get_or (places_from end sizes) i 0 + get_or sizes i 0 ≤ end_from end sizes
unfolding places_from end_from
place_ends end i [] within = absurd (omega (arith, within))
place_ends end zero (size ∷ sizes) within = end_from-le (aligned 16 end + size) sizes
place_ends end (suc i) (size ∷ sizes) within = place_ends (aligned 16 end + size) i sizes (omega (arith, within))
