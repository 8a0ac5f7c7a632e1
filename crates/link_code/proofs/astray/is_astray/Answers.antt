use Rattle.std.proofs.Common.{◌≡◌, ℕ, Bool, Option, Some, None, ap, ◌∙◌}
use Rattle.asm_target.specs.FlowFunction.{is_among}
use Rattle.image_rules.specs.Sound.{direct_goal}
use Rattle.link_code.specs.Astray.{is_unknown, range_of}
use Rattle.link_code.proofs.AstrayLemmas.{goal_told}
use Rattle.link_code.proofs.astray.is_astray.Goals as goal

pub returns-in-Some : goal.returns-in-Some
returns-in-Some g c =
    let set = g.T.Processor.instructions in
    let one = c.args.one.now in
    let test : ℕ → Bool = is_unknown (range_of c.args.text) c.args.symbols.now in
    let goes : Some c.in-Some.goal ≡ direct_goal (set.effect one.instr one.at).next =
    goal_told set one c.effect.result (Some c.in-Some.goal) c.in-Some.ensures c.effect.ensures.effect in
    c.is_unknown.ensures ∙ ap (is_among test) goes

pub returns-in-None : goal.returns-in-None
returns-in-None g c =
    let set = g.T.Processor.instructions in
    let one = c.args.one.now in
    let test : ℕ → Bool = is_unknown (range_of c.args.text) c.args.symbols.now in
    let none : Option ℕ = None in
    let goes : none ≡ direct_goal (set.effect one.instr one.at).next =
    goal_told set one c.effect.result none c.in-None.ensures c.effect.ensures.effect in
    ap (is_among test) goes
