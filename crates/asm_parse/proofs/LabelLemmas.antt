-- One turn of the loop over labels.
use Rattle.std.proofs.Common.{◌≡◌, Bool, true, false, List, ℕ, [], ◌∷◌, refl}
use Rattle.std.specs.Prelude.{◌&&◌, not}
use Rattle.asm_parse.specs.Lines.{Gathered, with_label, are_new}
use Rattle.asm_parse.specs.Numbering.{has_name}

pub label_turn : (gathered after : Gathered) (label : List ℕ) (added is_new both : Bool) → after ≡ with_label gathered label
    → is_new ≡ not (has_name gathered.labels (label, false)) → both ≡ (added && is_new)
    → (rest : List (List ℕ)) → (added && are_new gathered (label ∷ rest)) ≡ (both && are_new after rest)
unfolding are_new
label_turn gathered after label true is_new both after-is new-is both-is rest = rw (both-is, after-is, new-is) refl
label_turn gathered after label false is_new both after-is new-is both-is rest = rw both-is refl

pub label_end : (gathered : Gathered) (added : Bool) → (added && are_new gathered []) ≡ added
unfolding are_new
label_end gathered true = refl
label_end gathered false = refl
