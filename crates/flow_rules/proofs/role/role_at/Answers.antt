use Rattle.std.proofs.Common.{◌≡◌, ◌+◌, ◌≤◌, ap, ◌∙◌, arith}
use Rattle.asm_target.specs.FlowFunction.{span_at}
use Rattle.asm_target.specs.Sequences.{span_of}
use Rattle.flow_rules.proofs.RoleLemmas.{span_inside}
use Rattle.flow_rules.proofs.role.role_at.Goals as goal

pub overflow_add-result : goal.overflow_add-result
overflow_add-result g c =
    let f = g.L.Listing.function c.args.list.now in
    let inside : c.args.number + span_at f c.args.number ≤ f.count =
    span_inside f (g.met.L.Listing.lawful c.args.list.now) c.args.number c.requires.inside in
    let span : c.span_of.result ≡ span_at f c.args.number = c.span_of.ensures ∙ ap span_of c.sequence_at-found.ensures in
    omega arith
