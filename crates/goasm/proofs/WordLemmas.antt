use Rattle.std.proofs.Common.{◌≡◌, ℕ, zero, suc, List, [], ◌∷◌, ◌++◌, take, Some, None, slice_get, refl, ap}

-- the words up to a number, and the word with that number
pub take_on : (words : List (List ℕ)) (number : ℕ) (word : List ℕ)
    → slice_get words number ≡ Some word → take (suc number) words ≡ take number words ++ word ∷ []
take_on [] number word is = cc
take_on (first ∷ words) zero word is = let same : first ≡ word = cc in ap (λ w. w ∷ []) same
take_on (first ∷ words) (suc number) word is = ap (λ rest. first ∷ rest) (take_on words number word is)

-- past the last word there are none
pub take_whole : (words : List (List ℕ)) (number : ℕ) → slice_get words number ≡ None → take number words ≡ words
take_whole [] zero is = refl
take_whole [] (suc number) is = refl
take_whole (first ∷ words) zero is = cc
take_whole (first ∷ words) (suc number) is = ap (λ rest. first ∷ rest) (take_whole words number is)
