use Rattle.std.proofs.Common.{◌≡◌, ℕ, List, [], ◌∷◌, ◌++◌, map, Some, sym, ap, ◌∙◌, arith}
use Rattle.std.specs.List.{slice_get}
use Rattle.std.proofs.lemmas.List.{take_all}
use Rattle.elf_image.specs.Contents.{outside_in}
use Rattle.image_check.proofs.ListLemmas.{map_on}
use Rattle.image_check.proofs.SizeLemmas.{few_outside}
use Rattle.image_check.proofs.surroundings.addresses.Goals as goal

pub loop-index-preserved : goal.loop-index-preserved
loop-index-preserved c =
    let symbol = c.in-Some.symbol in
    let xs = outside_in c.args.image.now in
    let here : slice_get xs c.loop-index.index ≡ Some (symbol.0.now, symbol.1) = sym c.in-Some.ensures in
    c.in_ok-push.ensures.items ∙ ap (λ zs. zs ++ (symbol.1 ∷ [])) c.loop-index.invariant
    ∙ sym (map_on (λ (one : List ℕ × ℕ). one.1) xs c.loop-index.index (symbol.0.now, symbol.1) here)

pub returns : goal.returns
returns c =
    let xs = outside_in c.args.image.now in
    let few = few_outside c.args.image.now c.requires.image in
    let short = c.requires.short in
    let end = c.loop-index-test.false in
    c.loop-index.invariant ∙ ap (map (λ (one : List ℕ × ℕ). one.1)) (take_all c.loop-index.index xs (omega arith))
