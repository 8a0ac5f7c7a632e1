use Rattle.std.proofs.Common.{sym, ◌∙◌, rules, FitsSigned, w64}
use Rattle.std.proofs.lemmas.Int.{to_z-of_z}
use Rattle.amd64_forms.proofs.AimingLemmas.{aimed_plain}
use Rattle.amd64_forms.proofs.aiming.aimed.Goals as goal

-- what is no branch is aimed by its symbol
pub returns-else-is_branch : goal.returns-else-is_branch
returns-else-is_branch c =
    let fit : FitsSigned w64 c.args.distance = search rules in
    let plain = sym c.is_branch.ensures ∙ c.if-is_branch.false in
    let aimed = c.aimed_symbol.ensures in
    rw (to_z-of_z w64 c.args.distance fit) at aimed ∙ aimed_plain c.args.instr c.args.distance plain
