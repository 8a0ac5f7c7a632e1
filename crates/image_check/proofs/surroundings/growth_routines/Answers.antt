use Rattle.std.proofs.Common.{◌≡◌, ℕ, List, [], ◌∷◌, ◌++◌, Bool, map, filter, take, if◌then◌else◌, Some, sym, ap, ◌∙◌, arith}
use Rattle.std.specs.List.{slice_get}
use Rattle.std.proofs.lemmas.List.{take_all}
use Rattle.elf_image.specs.Contents.{outside_in}
use Rattle.image_rules.specs.Parts.{is_growth_name}
use Rattle.image_check.proofs.ListLemmas.{chosen_on}
use Rattle.image_check.proofs.SizeLemmas.{few_outside}
use Rattle.image_check.proofs.surroundings.growth_routines.Goals as goal

pub loop-index-preserved : goal.loop-index-preserved
loop-index-preserved c =
    let symbol = c.in-Some.symbol in
    let xs = outside_in c.args.image.now in
    let here : slice_get xs c.loop-index.index ≡ Some (symbol.0.now, symbol.1) = sym c.in-Some.ensures in
    c.in_ok-push_if.ensures ∙ ap (λ (zs : List ℕ). zs ++ (if c.is_growth_name.result then symbol.1 ∷ [] else [])) c.loop-index.invariant
    ∙ ap (λ (test : Bool). map (λ (one : List ℕ × ℕ). one.1) (filter (λ (one : List ℕ × ℕ). is_growth_name one.0)
    (take c.loop-index.index xs)) ++ (if test then symbol.1 ∷ [] else [])) c.is_growth_name.ensures
    ∙ sym (chosen_on (λ (one : List ℕ × ℕ). one.1) (λ (one : List ℕ × ℕ). is_growth_name one.0) xs c.loop-index.index
    (symbol.0.now, symbol.1) here)

pub returns : goal.returns
returns c =
    let xs = outside_in c.args.image.now in
    let few = few_outside c.args.image.now c.requires.image in
    let short = c.requires.short in
    let end = c.loop-index-test.false in
    c.loop-index.invariant ∙ ap (λ zs. map (λ (one : List ℕ × ℕ). one.1) (filter (λ (one : List ℕ × ℕ). is_growth_name one.0) zs)) (take_all c.loop-index.index xs (omega arith))
