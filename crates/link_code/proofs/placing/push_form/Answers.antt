use Rattle.std.proofs.Common.{◌≡◌, ℕ, ◌+◌, ◌==◌, None, length, refl, sym, ap, ◌∙◌, subst, arith, if◌then◌else◌}
use Rattle.std.proofs.lemmas.List.{take_all}
use Rattle.asm_target.specs.Aiming.{bytes_of}
use Rattle.unit_listing.specs.Joined.{AreJoined}
use Rattle.unit_listing.specs.Kit.{kit_of}
use Rattle.unit_listing.specs.Lines.{refer_in}
use Rattle.unit_listing.proofs.LineLemmas.{bytes_more}
use Rattle.link_code.specs.Code.{IsPart}
use Rattle.link_code.specs.Goals.{goal_of}
use Rattle.link_code.specs.Placed.{AreAdded}
use Rattle.link_code.proofs.AddedLemmas.{more_added, one_added}
use Rattle.link_code.proofs.PartLemmas.{aimed_fits, aimed_long, beyond, part}
use Rattle.link_code.proofs.placing.push_form.Goals as goal

pub loop-number-preserved : goal.loop-number-preserved
loop-number-preserved g c =
    let set = g.T.Processor.instructions in
    let fits = g.T.Processor.fits in
    let kit = kit_of g.T.Processor.instructions g.T.Processor.fits g.T.Processor.MACHINE g.T.Processor.QUANTUM g.T.Processor.SHAPE g.T.Target.selection
    g.T.Target.aiming g.T.Target.entry g.T.Target.check g.T.Target.begins in
    let goals = goal_of kit c.args.site.now c.args.laid.now in
    let spot = c.args.spot.now in
    let form = c.args.form.now in
    let number = c.loop-number.number in
    let at = c.loop-number.at in
    let i = c.get-instr.result in
    let j = c.in-Some.instr in
    let refer = c.refer_in-refer.result in
    let len : c.len-len.result ≡ length (set.spelling i) = c.len-len.ensures.value ∙ ap length c.spell.ensures.spelling in
    let most = (g.met.T.Processor.lengths i c.spell.ensures.fits).most in
    let more = bytes_more set form number i c.get-instr.ensures in
    let goes : refer ≡ refer_in form number spot.refer
    = c.refer_in-refer.ensures ∙ ap (λ (count : ℕ). if number + 1 == count then spot.refer else None) c.len.ensures.exact in
    let Is = IsPart kit goals spot.refer spot.back spot.at form in
    let long : length (set.spelling j) ≡ c.len-len.result
    = aimed_long kit goals refer spot.back at i j g.met.T.Target.same_lengths c.spell.ensures.fits c.in-Some.ensures.some ∙ sym len in
    let past : at + c.from-at.result ≡ at + c.len-len.result = ap (λ (n : ℕ). at + n) c.from-at.ensures in
    record {
      near = omega (arith, len, most);
      there = omega (arith, len, more);
      added = more_added set fits Is number spot.at at (at + c.from-at.result) c.args.placed.now.items c.loop-number.placed.items
          c.push_instr.new.placed.items c.loop-number.invariant.added
          (one_added set fits (Is number) at c.len-len.result (at + c.from-at.result) j c.loop-number.placed.items c.push_instr.new.placed.items
          (part kit goals spot.refer refer spot.back spot.at at form number i j c.get-instr.ensures c.loop-number.invariant.there goes
          c.in-Some.ensures.some c.in-Some.ensures.only)
          (aimed_fits kit goals refer spot.back at i j c.spell.ensures.fits c.in-Some.ensures.some) long past c.in_ok-push_instr-in-Some.ensures);
    }

pub returns-clause-ok : goal.returns-clause-ok
returns-clause-ok g c =
    let set = g.T.Processor.instructions in
    let fits = g.T.Processor.fits in
    let kit = kit_of g.T.Processor.instructions g.T.Processor.fits g.T.Processor.MACHINE g.T.Processor.QUANTUM g.T.Processor.SHAPE g.T.Target.selection
    g.T.Target.aiming g.T.Target.entry g.T.Target.check g.T.Target.begins in
    let spot = c.args.spot.now in
    let form = c.args.form.now in
    let number = c.loop-number.number in
    let Is = IsPart kit (goal_of kit c.args.site.now c.args.laid.now) spot.refer spot.back spot.at form in
    let count : number ≡ length form = omega arith in
    let past : c.loop-number.at ≡ spot.at + bytes_of set form
    = c.loop-number.invariant.there ∙ ap (λ code. spot.at + bytes_of set code) (take_all number form (omega arith)) in
    subst (λ (n : ℕ). AreAdded set fits (AreJoined Is n) spot.at (spot.at + bytes_of set form) c.args.placed.now.items c.loop-number.placed.items)
    count
    (subst (λ (past : ℕ). AreAdded set fits (AreJoined Is number) spot.at past c.args.placed.now.items c.loop-number.placed.items) past
    c.loop-number.invariant.added)

pub returns-in-None-clause-beyond : goal.returns-in-None-clause-beyond
returns-in-None-clause-beyond g c = λ number same.
    let kit = kit_of g.T.Processor.instructions g.T.Processor.fits g.T.Processor.MACHINE g.T.Processor.QUANTUM g.T.Processor.SHAPE g.T.Target.selection
    g.T.Target.aiming g.T.Target.entry g.T.Target.check g.T.Target.begins in
    let spot = c.args.spot.now in
    let form = c.args.form.now in
    let goes : c.refer_in-refer.result ≡ refer_in form c.loop-number.number spot.refer
    = c.refer_in-refer.ensures ∙ ap (λ (count : ℕ). if c.loop-number.number + 1 == count then spot.refer else None) c.len.ensures.exact in (
      cc,
      beyond kit (goal_of kit c.args.site.now c.args.laid.now) spot.refer c.refer_in-refer.result spot.back spot.at c.loop-number.at form
          c.loop-number.number c.get-instr.result c.get-instr.ensures c.loop-number.invariant.there goes (c.in-None.ensures.none refl),
    )
