use Rattle.std.proofs.Common.{◌≤◌, ◌^◌, arith}
use Rattle.std.proofs.lemmas.List.Elements.{All-get_or}
use Rattle.link_plan.proofs.addressing.address_at.Goals as goal

pub overflow_add-result : goal.overflow_add-result
overflow_add-result c =
    omega (arith, All-get_or (λ place. place ≤ 2 ^ 24) c.args.at.now c.args.number 0 c.requires.within c.requires.near)
