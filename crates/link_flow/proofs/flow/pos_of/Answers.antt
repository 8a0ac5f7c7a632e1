use Rattle.std.proofs.Common.{List, subst}
use Rattle.asm_target.specs.declared.body.Placed.{Placed}
use Rattle.link_code.specs.Positions.{IsNowhere}
use Rattle.link_flow.proofs.ListLemmas.{some_there}
use Rattle.link_flow.proofs.flow.pos_of.Goals as goal

pub unwrap-requires : goal.unwrap-requires
unwrap-requires g c =
    some_there c.pos_at.result
    (λ none. c.requires.there
    (subst (λ (code : List (Placed _)). IsNowhere code c.args.address) c.as_slice.ensures.value (c.pos_at.ensures.none none)))
