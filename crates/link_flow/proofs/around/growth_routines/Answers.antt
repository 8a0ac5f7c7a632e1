use Rattle.std.proofs.Common.{ℕ, Bool, List, [], ◌∷◌, ◌++◌, if◌then◌else◌, take, sym, ap, ◌∙◌, arith}
use Rattle.std.proofs.lemmas.List.{take_all}
use Rattle.image_rules.specs.Parts.{is_growth_name}
use Rattle.link_flow.specs.Around.{growth_of}
use Rattle.link_flow.proofs.AroundLemmas.{growth_more}
use Rattle.link_flow.proofs.around.growth_routines.Goals as goal

pub loop-name-preserved : goal.loop-name-preserved
loop-name-preserved c =
    let outside = c.args.outside.now in
    let number = c.loop-name.name-index in
    let name = c.name-item.result in
    c.in_ok-push_if.ensures
    ∙ ap (λ (front : List ℕ). front ++ (if c.is_growth_name.result then name.1 ∷ [] else [])) c.loop-name.invariant
    ∙ ap (λ (test : Bool). growth_of (take number outside) ++ (if test then name.1 ∷ [] else []))
    (c.is_growth_name.ensures ∙ ap is_growth_name c.as_slice.ensures)
    ∙ sym (growth_more outside number name (omega arith) c.name-item.is)

pub returns : goal.returns
returns c = c.loop-name.invariant ∙ ap growth_of (take_all c.loop-name.name-index c.args.outside.now (omega arith))
