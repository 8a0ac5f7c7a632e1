-- Where joined parts stand, and what stands between them.
use Rattle.std.proofs.Common.{◌≡◌, ℕ, zero, suc, ◌+◌, ◌-◌, ◌*◌, ◌/◌, ◌%◌, ◌<◌, ◌≤◌, List, [], ◌∷◌, ◌++◌, length, take, get_or, ◌∙◌, ap, arith, length-append}
use Rattle.std.specs.Prelude.{replicate}
use Rattle.std.proofs.lemmas.List.{length-replicate}
use Rattle.std.proofs.Math.Nat.{mod-lt, mod-add-div', add-mod-mod, add-mod_right, mul-mod_left}
use Rattle.byte_layout.specs.Stands.{Stands}
use Rattle.byte_layout.specs.Joined.{gap, aligned, padded, joined, places, ends}
use Rattle.byte_layout.proofs.StandsLemmas.{stands_all, stands_begun, stands_front, stands_back, stands_longer, stands_moved}

pub aligned-le : (unit at : ℕ) → at ≤ aligned unit at
unfolding aligned
aligned-le unit at = omega arith

-- it is a multiple of the unit
pub aligned_whole : (unit at : ℕ) → 0 < unit → aligned unit at % unit ≡ 0
unfolding aligned
aligned_whole unit at some =
    let below : at % unit < unit = mod-lt at some in
    let split : at + (unit - at % unit) ≡ at / unit * unit + unit = omega (arith, mod-add-div' at unit) in
    add-mod-mod at (unit - at % unit) unit
    ∙ ap (λ n. n % unit) split
    ∙ add-mod_right (at / unit * unit) unit
    ∙ mul-mod_left (at / unit) unit

-- and the nearest one
pub aligned_near : (unit at : ℕ) → 0 < unit → aligned unit at < at + unit
unfolding aligned
aligned_near unit at some =
    let near : gap unit at < unit = mod-lt (unit - at % unit) some in
    omega arith

pub length-padded : (unit : ℕ) (bytes : List ℕ) → length (padded unit bytes) ≡ aligned unit (length bytes)
unfolding padded aligned
length-padded unit bytes =
    length-append bytes (replicate (gap unit (length bytes)) 0) ∙ ap (λ n. length bytes + n) (length-replicate (gap unit (length bytes)) 0)

pub padded_begun : (unit : ℕ) (bytes old : List ℕ) → bytes ≡ padded unit old → Stands bytes 0 old
unfolding padded
padded_begun unit bytes old is = stands_begun bytes old (replicate (gap unit (length old)) 0) is

pub padded_whole : (unit : ℕ) (bytes old : List ℕ) → 0 < unit → bytes ≡ padded unit old → length bytes % unit ≡ 0
padded_whole unit bytes old some is =
    ap (λ n. n % unit) (ap length is ∙ length-padded unit old) ∙ aligned_whole unit (length old) some

pub padded_near : (unit : ℕ) (bytes old : List ℕ) → 0 < unit → bytes ≡ padded unit old → length bytes < length old + unit
padded_near unit bytes old some is =
    omega (arith, ap length is ∙ length-padded unit old, aligned_near unit (length old) some)

-- the end of a front with one more part
length_next : (unit start : ℕ) (front part : List ℕ) → length front ≡ start → length (padded unit front ++ part) ≡ aligned unit start + length part
length_next unit start front part is =
    length-append (padded unit front) part
    ∙ ap (λ n. n + length part) (length-padded unit front ∙ ap (aligned unit) is)

pub length-joined : (unit start : ℕ) (front : List ℕ) (parts : List (List ℕ))
    → length front ≡ start → length (joined unit front parts) ≡ ends unit start parts
unfolding joined ends
length-joined unit start front [] is = is
length-joined unit start front (part ∷ parts) is =
    length-joined unit (aligned unit start + length part) (padded unit front ++ part) parts (length_next unit start front part is)

-- the front stays where it is
pub joined_front : (unit at : ℕ) (front part : List ℕ) (parts : List (List ℕ))
    → Stands front at part → Stands (joined unit front parts) at part
unfolding joined padded
joined_front unit at front part [] stands = stands
joined_front unit at front part (next ∷ parts) stands =
    joined_front unit at (padded unit front ++ next) part parts
    (stands_longer (padded unit front) next part at
    (stands_longer front (replicate (gap unit (length front)) 0) part at stands))

-- the part that comes next stands behind the front and the zeros
next_stands : (unit start : ℕ) (front part : List ℕ) → length front ≡ start
    → Stands (padded unit front ++ part) (aligned unit start) part
next_stands unit start front part is =
    stands_moved (padded unit front ++ part) (0 + length (padded unit front)) (aligned unit start) part
    (omega (arith, length-padded unit front ∙ ap (aligned unit) is))
    (stands_back (padded unit front ++ part) 0 (padded unit front) part (stands_all (padded unit front ++ part)))

-- each part stands at its place
pub joined_stands : (unit start : ℕ) (front : List ℕ) (parts : List (List ℕ)) (i : ℕ)
    → length front ≡ start → i < length parts
    → Stands (joined unit front parts) (get_or (places unit start parts) i 0) (get_or parts i [])
unfolding joined places
joined_stands unit start front [] i is inside = absurd (omega arith)
joined_stands unit start front (part ∷ parts) zero is inside =
    joined_front unit (aligned unit start) (padded unit front ++ part) part parts (next_stands unit start front part is)
joined_stands unit start front (part ∷ parts) (suc i) is inside =
    joined_stands unit (aligned unit start + length part) (padded unit front ++ part) parts i
    (length_next unit start front part is) (omega arith)

pub ends-le : (unit start : ℕ) (parts : List (List ℕ)) → start ≤ ends unit start parts
unfolding ends
ends-le unit start [] = omega arith
ends-le unit start (part ∷ parts) =
    let later : aligned unit start + length part ≤ ends unit (aligned unit start + length part) parts
    = ends-le unit (aligned unit start + length part) parts in
    omega (arith, aligned-le unit start)

-- each part ends before the last one does
pub places_within : (unit start : ℕ) (parts : List (List ℕ)) (i : ℕ)
    → i < length parts → get_or (places unit start parts) i 0 + length (get_or parts i []) ≤ ends unit start parts
unfolding places ends
places_within unit start [] i inside = absurd (omega arith)
places_within unit start (part ∷ parts) zero inside = ends-le unit (aligned unit start + length part) parts
places_within unit start (part ∷ parts) (suc i) inside =
    places_within unit (aligned unit start + length part) parts i (omega arith)

pub joined_within : (unit start : ℕ) (front : List ℕ) (parts : List (List ℕ)) (i : ℕ)
    → length front ≡ start → i < length parts
    → get_or (places unit start parts) i 0 + length (get_or parts i []) ≤ length (joined unit front parts)
joined_within unit start front parts i is inside =
    let within : get_or (places unit start parts) i 0 + length (get_or parts i []) ≤ ends unit start parts
    = places_within unit start parts i inside in
    omega (arith, length-joined unit start front parts is)

-- the zeros behind a front
gap_stands : (unit start : ℕ) (front part : List ℕ) → length front ≡ start
    → Stands (padded unit front ++ part) start (replicate (aligned unit start - start) 0)
unfolding padded aligned
gap_stands unit start front part is =
    let zeros : gap unit (length front) ≡ start + gap unit start - start = rw is (omega arith) in
    let here : Stands (padded unit front ++ part) (0 + length front) (replicate (gap unit (length front)) 0)
    = stands_back (padded unit front ++ part) 0 front (replicate (gap unit (length front)) 0)
    (stands_front (padded unit front ++ part) 0 (padded unit front) part (stands_all (padded unit front ++ part))) in
    rw (← zeros)
    (stands_moved (padded unit front ++ part) (0 + length front) start (replicate (gap unit (length front)) 0) (omega arith) here)

-- between the parts stand zeros
pub joined_gap : (unit start : ℕ) (front : List ℕ) (parts : List (List ℕ)) (i : ℕ)
    → length front ≡ start → i < length parts
    → Stands (joined unit front parts) (ends unit start (take i parts))
    (replicate (get_or (places unit start parts) i 0 - ends unit start (take i parts)) 0)
unfolding joined places ends
joined_gap unit start front [] i is inside = absurd (omega arith)
joined_gap unit start front (part ∷ parts) zero is inside =
    joined_front unit start (padded unit front ++ part) (replicate (aligned unit start - start) 0) parts (gap_stands unit start front part is)
joined_gap unit start front (part ∷ parts) (suc i) is inside =
    joined_gap unit (aligned unit start + length part) (padded unit front ++ part) parts i
    (length_next unit start front part is) (omega arith)
