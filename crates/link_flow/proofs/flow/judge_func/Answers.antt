use Rattle.std.proofs.Common.{◌<◌, List, length, sym, ap, subst, ◌∙◌, arith}
use Rattle.asm_target.specs.declared.body.Placed.{Placed}
use Rattle.asm_target.specs.FlowFunction.{FlowFunction}
use Rattle.asm_target.specs.FlowRules.{IsFirstBreach}
use Rattle.flow_rules.specs.Placing.{ArePlaced, around, told}
use Rattle.link_build.specs.Functions.{seen}
use Rattle.unit_listing.specs.Kit.{kit_of}
use Rattle.link_flow.proofs.AstrayLemmas.{breach_there}
use Rattle.link_flow.proofs.StandingLemmas.{are_placed, as_many_depths, rules_seen, some_code}
use Rattle.link_flow.proofs.flow.judge_func.Goals as goal

pub flow_ok-requires-clause-some : goal.flow_ok-requires-clause-some
flow_ok-requires-clause-some g c =
    let kit = kit_of g.T.Processor.instructions g.T.Processor.fits g.T.Processor.MACHINE g.T.Processor.QUANTUM g.T.Processor.SHAPE g.T.Target.selection
    g.T.Target.aiming g.T.Target.entry g.T.Target.check g.T.Target.begins in
    subst (λ (code : List (Placed _)). 0 < length code) (sym c.as_slice.ensures.value)
    (some_code kit (seen c.args.func.now) c.args.code.now c.requires.placed)

pub flow_ok-requires-clause-as_many : goal.flow_ok-requires-clause-as_many
flow_ok-requires-clause-as_many g c =
    let kit = kit_of g.T.Processor.instructions g.T.Processor.fits g.T.Processor.MACHINE g.T.Processor.QUANTUM g.T.Processor.SHAPE g.T.Target.selection
    g.T.Target.aiming g.T.Target.entry g.T.Target.check g.T.Target.begins in
    ap length c.as_slice-2.ensures.value ∙ as_many_depths kit (seen c.args.func.now) c.args.code.now c.requires.placed
    ∙ ap length (sym c.as_slice.ensures.value)

pub flow_ok-requires-clause-placed : goal.flow_ok-requires-clause-placed
flow_ok-requires-clause-placed g c =
    let kit = kit_of g.T.Processor.instructions g.T.Processor.fits g.T.Processor.MACHINE g.T.Processor.QUANTUM g.T.Processor.SHAPE g.T.Target.selection
    g.T.Target.aiming g.T.Target.entry g.T.Target.check g.T.Target.begins in
    subst ArePlaced (sym c.as_slice.ensures.value)
    (are_placed kit (seen c.args.func.now) c.args.code.now c.requires.placed g.met.T.Processor.lengths (omega arith))

pub pos_of-requires-clause-there : goal.pos_of-requires-clause-there
pos_of-requires-clause-there g c =
    let kit = kit_of g.T.Processor.instructions g.T.Processor.fits g.T.Processor.MACHINE g.T.Processor.QUANTUM g.T.Processor.SHAPE g.T.Target.selection
    g.T.Target.aiming g.T.Target.entry g.T.Target.check g.T.Target.begins in
    let all = c.args.around.now in
    let code = c.args.code.now in
    let is = rules_seen kit all code c.as_slice.result.now c.as_slice-2.result.now (around c.outside-outside.result) c.as_slice.ensures.value
    c.as_slice-2.ensures.value c.outside-outside.ensures in
    breach_there kit all (seen c.args.func.now) code c.requires.placed (told c.in-Err.breach)
    (subst (λ (rules : FlowFunction). IsFirstBreach rules (told c.in-Err.breach)) is c.in-Err.ensures.breach)
