-- What is told of addresses, one behind the other.
use Rattle.std.proofs.Common.{◌≡◌, ℕ, ◌+◌, ◌<◌, ◌≤◌, List, [], ◌∷◌, ◌++◌, length, get_or, drop, sym, ap, ◌∙◌, append_assoc, append-nil}
use Rattle.std.proofs.lemmas.List.{drop_more, drop_all}
use Rattle.link_names.specs.declared.definition.Meaning.{Meaning}
use Rattle.link_places.specs.Addresses.{address_in, TellsAs}
use Rattle.link_places.proofs.AddressLemmas.{tells_more}
use Rattle.link_values.proofs.EachLemmas.{Rest, rest_more, rest_all}
use Rattle.link_plan.specs.Addresses.{behind, outside_address}

abbrev Told : Type 0
Told = List (Meaning × ℕ)

-- from one to the next
tells_next : (told now all rest more : Told) (next : Meaning × ℕ) → more ≡ next ∷ rest → TellsAs (told ++ more) all
    → TellsAs now (told ++ next ∷ []) → TellsAs (now ++ rest) all
tells_next told now all rest more next is so_far adds meaning =
    tells_more now (told ++ next ∷ []) rest adds meaning
    ∙ ap (λ found. address_in found meaning) (append_assoc told (next ∷ []) rest ∙ ap (λ others. told ++ others) (sym is))
    ∙ so_far meaning

-- behind the last one
tells_last : (told all rest : Told) → rest ≡ [] → TellsAs (told ++ rest) all → TellsAs told all
tells_last told all rest none so_far meaning =
    ap (λ found. address_in found meaning) (sym (append-nil told) ∙ ap (λ others. told ++ others) (sym none)) ∙ so_far meaning

-- three lists, one behind the other
pub tells_three : (first second third one two three : Told) → TellsAs first one → TellsAs second (first ++ two)
    → TellsAs third (second ++ three) → TellsAs third (one ++ two ++ three)
tells_three first second third one two three a b c meaning =
    c meaning
    ∙ tells_more second (first ++ two) three b meaning
    ∙ tells_more (first ++ two) (one ++ two) three (tells_more first one two a) meaning

-- things behind an address
module _ (address : ℕ) (meanings : List Meaning) (at : List ℕ) where
  behind_next : (number : ℕ) (meaning : Meaning) → number < length meanings → number < length at → meaning ≡ get_or meanings number meaning
      → behind address (drop number meanings) (drop number at)
      ≡ (meaning, address + get_or at number 0) ∷ behind address (drop (number + 1) meanings) (drop (number + 1) at)
  unfolding behind
  behind_next number meaning inside within read =
      ap (λ things. behind address things (drop number at)) (drop_more meanings number meaning inside)
      ∙ ap (λ places. behind address (get_or meanings number meaning ∷ drop (number + 1) meanings) places) (drop_more at number 0 within)
      ∙ ap (λ (m : Meaning). (m, address + get_or at number 0) ∷ behind address (drop (number + 1) meanings) (drop (number + 1) at)) (sym read)

  pub behind_more : (number : ℕ) (meaning : Meaning) (told now all : Told) → number < length meanings → number < length at
      → meaning ≡ get_or meanings number meaning
      → TellsAs (told ++ behind address (drop number meanings) (drop number at)) all
      → TellsAs now (told ++ (meaning, address + get_or at number 0) ∷ [])
      → TellsAs (now ++ behind address (drop (number + 1) meanings) (drop (number + 1) at)) all
  behind_more number meaning told now all inside within read so_far adds =
      tells_next told now all (behind address (drop (number + 1) meanings) (drop (number + 1) at))
      (behind address (drop number meanings) (drop number at)) (meaning, address + get_or at number 0)
      (behind_next number meaning inside within read) so_far adds

  pub behind_all : (number : ℕ) (told all : Told) → length meanings ≤ number
      → TellsAs (told ++ behind address (drop number meanings) (drop number at)) all → TellsAs told all
  unfolding behind
  behind_all number told all past so_far =
      tells_last told all (behind address (drop number meanings) (drop number at))
      (ap (λ things. behind address things (drop number at)) (drop_all number meanings past)) so_far

-- outside names
module _ (outside : List (List ℕ × ℕ)) where
  pub outside_more : (number : ℕ) (name : List ℕ × ℕ) (told now all : Told) → number < length outside → name ≡ get_or outside number name
      → TellsAs (told ++ Rest outside_address outside number) all → TellsAs now (told ++ outside_address number name)
      → TellsAs (now ++ Rest outside_address outside (number + 1)) all
  outside_more number name told now all within read so_far adds =
      tells_next told now all (Rest outside_address outside (number + 1)) (Rest outside_address outside number) _
      (rest_more outside_address outside number name within read) so_far adds

  pub outside_all : (number : ℕ) (told all : Told) → length outside ≤ number
      → TellsAs (told ++ Rest outside_address outside number) all → TellsAs told all
  outside_all number told all past so_far =
      tells_last told all (Rest outside_address outside number) (rest_all outside_address outside number past) so_far
