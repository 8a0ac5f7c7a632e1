-- The arguments of a use, read from left to right.
use Rattle.std.proofs.Common.{◌≡◌, ℕ, List, [], ◌∷◌, ◌++◌, Option, Some, None, refl, sym, ap, ◌∙◌, append_assoc}
use Rattle.std.specs.List.{onto_first}
use Rattle.std.specs.Option.{option_map}
use Rattle.asm_macro.specs.declared.placed.Placed.{Placed}
use Rattle.asm_macro.specs.declared.arguments.Part.{Part}
use Rattle.asm_macro.specs.declared.arguments.Part.TheVariants.{End, Close, Comma, Inside}
use Rattle.asm_macro.specs.Arguments.{Arguments, part_of, with_empty, with_front, arguments_from}

-- the arguments, behind those that were read and the front of the next
unfoldable pub arguments_with : ℕ → List (List Placed) → List Placed → List Placed → Option Arguments
arguments_with nest lists list [] = None
arguments_with nest lists list (placed ∷ rest) =
    elim (part_of nest placed) [
      | End ↦ None
      | Close ↦ Some (record { lists = lists ++ list ∷ []; levels = placed.levels; rest = rest })
      | Comma ↦ arguments_with nest (lists ++ list ∷ []) [] rest
      | Inside deeper ↦ arguments_with deeper lists (list ++ placed ∷ []) rest
    ]

-- tokens before those of the first list
abbrev front_onto : List Placed → List (List Placed) → List (List Placed)
front_onto [] lists = lists
front_onto (placed ∷ list) lists = onto_first placed (front_onto list lists)

onto_empty : (list : List Placed) (lists : List (List Placed)) → front_onto list ([] ∷ lists) ≡ list ∷ lists
onto_empty [] lists = refl
onto_empty (placed ∷ list) lists = ap (onto_first placed) (onto_empty list lists)

onto_pushed : (list : List Placed) (placed : Placed) (lists : List (List Placed))
    → front_onto (list ++ placed ∷ []) lists ≡ front_onto list (onto_first placed lists)
onto_pushed [] placed lists = refl
onto_pushed (first ∷ list) placed lists = ap (onto_first first) (onto_pushed list placed lists)

abbrev made : List (List Placed) → ℕ → List Placed → Arguments
made lists levels rest = record { lists = lists; levels = levels; rest = rest }

abbrev joined : List (List Placed) → List Placed → Arguments → Arguments
joined lists list arguments = made (lists ++ front_onto list arguments.lists) arguments.levels arguments.rest

behind_comma : (lists : List (List Placed)) (list : List Placed) (found : Option Arguments)
    → option_map (joined (lists ++ list ∷ []) []) found ≡ option_map (joined lists list) (option_map with_empty found)
behind_comma lists list None = refl
behind_comma lists list (Some found) =
    ap (λ all. Some (made all found.levels found.rest))
    (append_assoc lists (list ∷ []) found.lists ∙ ap (λ rest. lists ++ rest) (sym (onto_empty list found.lists)))

behind_token : (lists : List (List Placed)) (list : List Placed) (placed : Placed) (found : Option Arguments)
    → option_map (joined lists (list ++ placed ∷ [])) found ≡ option_map (joined lists list) (option_map (with_front placed) found)
behind_token lists list placed None = refl
behind_token lists list placed (Some found) =
    ap (λ rest. Some (made (lists ++ rest) found.levels found.rest)) (onto_pushed list placed found.lists)

step : (nest : ℕ) (lists : List (List Placed)) (list : List Placed) (placed : Placed) (rest : List Placed) (part : Part)
    → part_of nest placed ≡ part
    → ((nest : ℕ) (lists : List (List Placed)) (list : List Placed) → arguments_with nest lists list rest ≡ option_map (joined lists list) (arguments_from nest rest))
    → arguments_with nest lists list (placed ∷ rest) ≡ option_map (joined lists list) (arguments_from nest (placed ∷ rest))
unfolding arguments_with arguments_from
step nest lists list placed rest End is later = rw (is, arguments_with, arguments_from) refl
step nest lists list placed rest Close is later =
    rw (is, arguments_with, arguments_from) (ap (λ all. Some (made (lists ++ all) placed.levels rest)) (sym (onto_empty list [])))
step nest lists list placed rest Comma is later =
    rw (is, arguments_with, arguments_from) (later nest (lists ++ list ∷ []) [] ∙ behind_comma lists list (arguments_from nest rest))
step nest lists list placed rest (Inside deeper) is later =
    rw (is, arguments_with, arguments_from) (later deeper lists (list ++ placed ∷ []) ∙ behind_token lists list placed (arguments_from deeper rest))

with_is : (tokens : List Placed) (nest : ℕ) (lists : List (List Placed)) (list : List Placed)
    → arguments_with nest lists list tokens ≡ option_map (joined lists list) (arguments_from nest tokens)
unfolding arguments_with arguments_from
with_is [] nest lists list = refl
with_is (placed ∷ rest) nest lists list = step nest lists list placed rest (part_of nest placed) refl (λ nest lists list. with_is rest nest lists list)

joined_nothing : (found : Option Arguments) → option_map (joined [] []) found ≡ found
joined_nothing None = refl
joined_nothing (Some found) = refl

-- from the front
pub from_is : (tokens : List Placed) → arguments_with 0 [] [] tokens ≡ arguments_from 0 tokens
from_is tokens = with_is tokens 0 [] [] ∙ joined_nothing (arguments_from 0 tokens)
