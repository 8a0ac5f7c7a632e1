use Rattle.std.proofs.Common.{◌≡◌, ap, ◌∙◌, rules}
use Rattle.std.specs.Prelude.{◌^◌, ◌<◌}
use Rattle.machine_effect.specs.Flow.{flow_of}
use Rattle.asm_target.proofs.FlowLemmas.{stays}
use Rattle.asm_target.proofs.instr.flow_at.Goals as goal

-- by the processor's law
pub returns-clause-small : goal.returns-clause-small
returns-clause-small g c = λ k moved.
    g.met.T.Processor.small_moves c.args.instr.now c.args.pc k c.effect.ensures.fits
    (let same = ap (λ flow. flow.sp) c.effect_flow.ensures.exact in cc (same, moved, c.effect.ensures.effect, c.SHAPE.ensures))

pub returns-clause-stays : goal.returns-clause-stays
returns-clause-stays g c = λ goes.
    let processor = g.T.Processor in
    let told : c.effect_flow.result ≡ flow_of (processor.instructions.effect c.args.instr.now c.args.pc) processor.SHAPE =
    cc (c.effect_flow.ensures.exact, c.effect.ensures.effect, c.SHAPE.ensures) in
    let next = c.effect_flow.ensures.next ∙ ap (λ effect. effect.next) c.effect.ensures.effect in
    let small : c.args.pc < 2 ^ 64 = search rules in
    ap (λ flow. flow.sp) told
    ∙ stays (processor.instructions.effect c.args.instr.now c.args.pc) processor.SHAPE
    (g.met.T.Processor.only_goes c.args.instr.now c.args.pc c.effect.ensures.fits small)
    (g.met.T.Processor.links c.args.instr.now c.args.pc c.effect.ensures.fits small)
    (λ fall. goes (next ∙ fall))
