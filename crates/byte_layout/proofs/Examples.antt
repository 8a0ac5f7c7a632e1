-- The definitions on small bytes, each computed.
use Rattle.std.proofs.Common.{◌≡◌, [], ◌∷◌, refl}
use Rattle.byte_layout.specs.Joined.{aligned, padded, joined, places, ends}

already_aligned : aligned 8 16 ≡ 16
unfolding aligned
already_aligned = refl

next_page : aligned 4096 4097 ≡ 8192
unfolding aligned
next_page = refl

two_parts : joined 4 (1 ∷ 2 ∷ []) ((3 ∷ 4 ∷ 5 ∷ 6 ∷ []) ∷ (7 ∷ []) ∷ []) ≡ 1 ∷ 2 ∷ 0 ∷ 0 ∷ 3 ∷ 4 ∷ 5 ∷ 6 ∷ 7 ∷ []
unfolding joined padded
two_parts = refl

two_places : places 4 2 ((3 ∷ 4 ∷ 5 ∷ 6 ∷ []) ∷ (7 ∷ []) ∷ []) ≡ 4 ∷ 8 ∷ []
unfolding places aligned
two_places = refl

two_end : ends 4 2 ((3 ∷ 4 ∷ 5 ∷ 6 ∷ []) ∷ (7 ∷ []) ∷ []) ≡ 9
unfolding ends aligned
two_end = refl
