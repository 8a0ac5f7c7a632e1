use Rattle.std.proofs.Common.{◌≡◌, ◌+◌, ◌==◌, ℕ, None, length, ap, ◌∙◌, arith, if◌then◌else◌}
use Rattle.unit_listing.specs.Kit.{kit_of}
use Rattle.unit_listing.specs.Lines.{IsShown}
use Rattle.unit_listing.proofs.JoinedLemmas.{one_more}
use Rattle.unit_listing.proofs.LineLemmas.{bytes_more, shown_more}
use Rattle.unit_listing.proofs.lines.push_form.Goals as goal

pub loop-number-preserved : goal.loop-number-preserved
loop-number-preserved g c =
    let set = g.T.Processor.instructions in
    let kit = kit_of g.T.Processor.instructions g.T.Processor.fits g.T.Processor.MACHINE g.T.Processor.QUANTUM g.T.Processor.SHAPE g.T.Target.selection
    g.T.Target.aiming g.T.Target.entry g.T.Target.check g.T.Target.begins in
    let form = c.args.form.now in
    let number = c.loop-number.number in
    let spot = c.args.spot.now in
    let laid = c.args.laid.now in
    let guard = g.T.Target.check laid.body.frame in
    let i = c.get-instr.result in
    let len : c.len-in-loop-number.result ≡ length (set.spelling i) = c.len-in-loop-number.ensures.value ∙ ap length c.spell.ensures.spelling in
    let most = (g.met.T.Processor.lengths i c.spell.ensures.fits).most in
    let more = bytes_more set form number i c.get-instr.ensures in
    let goes = c.refer_in-refer.ensures ∙ ap (λ (count : ℕ). if number + 1 == count then spot.line.refer else None) c.len.ensures.exact in
    record {
      near = omega arith;
      there = omega arith;
      joined = one_more (IsShown kit c.args.symbols.now laid.flags guard laid.body.code laid.sizes spot.line spot.back spot.at form) number
          c.args.text.now c.loop-number.text c.push_instr.new.text c.loop-number.invariant.joined
          (shown_more kit c.args.symbols.now laid.flags guard laid.body.code laid.sizes spot.line spot.back spot.at c.loop-number.at form number
          i c.refer_in-refer.result c.loop-number.text c.push_instr.new.text c.get-instr.ensures c.loop-number.invariant.there goes
          c.in_ok-push_instr.ensures);
    }
