use Rattle.std.proofs.Common.{◌≡◌, List, ℕ, false, arith, rules}
use Rattle.asm_target.specs.FlowFunction.{is_within}
use Rattle.elf_image.specs.Contents.{outside_in}
use Rattle.image_rules.specs.Parts.{image_range}
use Rattle.image_check.proofs.ListLemmas.{all_below}
use Rattle.image_check.proofs.SizeLemmas.{few_outside}
use Rattle.image_check.proofs.profile.is_apart.Goals as goal

pub returns : goal.returns
returns c =
    let bytes = c.args.image.now in
    let few = few_outside bytes c.requires.image in
    let short = c.requires.short in
    let end = c.loop-index-test.false in
    let apart = all_below (λ (symbol : List ℕ × ℕ). is_within (image_range bytes) symbol.1 ≡ false) (outside_in bytes) c.loop-index.index
    c.loop-index.invariant (omega arith) in
    (λ _. apart, λ _. search rules)
