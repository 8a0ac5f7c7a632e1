use Rattle.std.proofs.Common.{◌≡◌, ◌↔◌, ◌+◌, ℕ, Bool, length, drop, arith, sym, ◌∙◌, ap, subst}
use Rattle.std.specs.Prelude.{IsTrue}
use Rattle.branch_size.specs.Rows.{Reaches}
use Rattle.branch_size.proofs.FormLemmas.{false_true, drop_end, aim_reaches, last_reaches, more_reaches}
use Rattle.branch_size.proofs.forms.form_reaches.Goals as goal

pub returns-then-index-len : goal.returns-then-index-len
returns-then-index-len g c =
    let set = g.T.Processor.instructions in
    let fits = g.T.Processor.fits in
    let aiming = g.T.Target.aiming in
    let found = aim_reaches set fits aiming c.get-instr.result c.loop-index.at c.args.goal c.aim.result c.aim.ensures.found c.aim.ensures.only in
    let last = last_reaches set fits aiming c.args.form.now c.loop-index.index c.get-instr.result c.get-instr.ensures
    (c.if-index-len.true ∙ c.len.ensures.exact) c.loop-index.at c.args.goal in
    let same = c.loop-index.invariant.same in
    let P : Bool → Type 0 = λ b. IsTrue b ↔ Reaches set fits aiming c.args.form.now c.args.place c.args.goal in
    subst P (sym c.is_some.ensures) ((λ yes. same.0 (last.1 (found.0 yes))), (λ reach. found.1 (last.0 (same.1 reach))))

pub overflow_add-at : goal.overflow_add-at
overflow_add-at g c =
    let len : c.len-in-loop-index.result ≡ length (g.T.Processor.instructions.spelling c.get-instr.result)
    = c.len-in-loop-index.ensures.value ∙ ap length c.spell.ensures.spelling in
    let most = (g.met.T.Processor.lengths c.get-instr.result c.spell.ensures.fits).most in
    omega arith

pub loop-index-preserved : goal.loop-index-preserved
loop-index-preserved g c =
    let set = g.T.Processor.instructions in
    let fits = g.T.Processor.fits in
    let aiming = g.T.Target.aiming in
    let len : c.len-in-loop-index.result ≡ length (g.T.Processor.instructions.spelling c.get-instr.result)
    = c.len-in-loop-index.ensures.value ∙ ap length c.spell.ensures.spelling in
    let most = (g.met.T.Processor.lengths c.get-instr.result c.spell.ensures.fits).most in
    let more = more_reaches set fits aiming c.args.form.now c.loop-index.index c.get-instr.result c.get-instr.ensures (omega arith)
    c.loop-index.at c.args.goal in
    let same = c.loop-index.invariant.same in
    let P : ℕ → Type 0 = λ n. Reaches set fits aiming (drop (c.loop-index.index + 1) c.args.form.now) (c.loop-index.at + n) c.args.goal
    ↔ Reaches set fits aiming c.args.form.now c.args.place c.args.goal in
    record {
      near = omega arith;
      same = subst P (sym len) ((λ reach. same.0 (more.1 reach)), (λ reach. more.0 (same.1 reach)));
    }

pub returns : goal.returns
returns g c =
    let set = g.T.Processor.instructions in
    let fits = g.T.Processor.fits in
    let aiming = g.T.Target.aiming in
    let none = drop_end c.args.form.now c.loop-index.index (omega arith) in (
      (λ never. absurd (false_true never)),
      (λ reach. absurd (subst (λ form. Reaches set fits aiming form c.loop-index.at c.args.goal) none (c.loop-index.invariant.same.1 reach))),
    )
