-- Data with the places where it stands.
use Rattle.std.proofs.Common.{◌≡◌, ℕ, ◌+◌, ◌<◌, ◌≤◌, List, [], ◌∷◌, ◌++◌, length, get_or, drop, sym, ap, ◌∙◌, append_assoc, append-nil}
use Rattle.std.proofs.lemmas.List.{drop_more, drop_all}
use Rattle.link_names.specs.declared.definition.Meaning.{Meaning}
use Rattle.link_names.specs.declared.definition.Meaning.TheVariants.{Value}
use Rattle.link_places.specs.Addresses.{address_in, TellsAs}
use Rattle.link_places.proofs.AddressLemmas.{tells_more}
use Rattle.link_values.specs.declared.kept.KeptValue.{KeptValue}
use Rattle.link_values.specs.Kept.{placed}

placed_step : (kept : List KeptValue) (at : List ℕ) (number : ℕ) (value : KeptValue) → number < length kept → number < length at
    → placed (drop number kept) (drop number at)
    ≡ (Value (get_or kept number value).unit (get_or kept number value).number, get_or at number 0) ∷ placed (drop (number + 1) kept) (drop (number + 1) at)
unfolding placed
placed_step kept at number value inside within =
    ap (λ values. placed values (drop number at)) (drop_more kept number value inside)
    ∙ ap (λ places. placed (get_or kept number value ∷ drop (number + 1) kept) places) (drop_more at number 0 within)

-- from one to the next
pub placed_more : (kept : List KeptValue) (at : List ℕ) (number : ℕ) (value : KeptValue) (told now all : List (Meaning × ℕ))
    → number < length kept → number < length at
    → TellsAs (told ++ placed (drop number kept) (drop number at)) all
    → TellsAs now (told ++ (Value (get_or kept number value).unit (get_or kept number value).number, get_or at number 0) ∷ [])
    → TellsAs (now ++ placed (drop (number + 1) kept) (drop (number + 1) at)) all
placed_more kept at number value told now all inside within so_far adds meaning =
    let next : Meaning × ℕ = (Value (get_or kept number value).unit (get_or kept number value).number, get_or at number 0) in
    let rest = placed (drop (number + 1) kept) (drop (number + 1) at) in
    tells_more now (told ++ next ∷ []) rest adds meaning
    ∙ ap (λ found. address_in found meaning) (append_assoc told (next ∷ []) rest ∙ ap (λ more. told ++ more) (sym (placed_step kept at number value inside within)))
    ∙ so_far meaning

pub placed_all : (kept : List KeptValue) (at : List ℕ) (number : ℕ) (told all : List (Meaning × ℕ)) → length kept ≤ number
    → TellsAs (told ++ placed (drop number kept) (drop number at)) all → TellsAs told all
unfolding placed
placed_all kept at number told all past so_far meaning =
    ap (λ found. address_in found meaning) (sym (append-nil told) ∙ ap (λ values. told ++ placed values (drop number at)) (sym (drop_all number kept past)))
    ∙ so_far meaning
