use Rattle.std.proofs.Common.{◌≡◌, sym, ap, ◌∙◌}
use Rattle.asm_target.proofs.ListingLemmas.{same_spelled}
use Rattle.asm_target.proofs.instr.same.Goals as goal

-- each spelling is of one instruction alone
pub returns : goal.returns
returns g c =
    let set = g.T.Processor.instructions in
    let first : c.as_slice.result.now ≡ set.spelling c.args.a.now =
    c.as_slice.ensures.value ∙ c.spell-first.ensures.spelling in
    let second : c.as_slice-2.result.now ≡ set.spelling c.args.b.now =
    c.as_slice-2.ensures.value ∙ c.spell-second.ensures.spelling in (
      λ equal.
          same_spelled set g.T.Processor.fits g.met.T.Processor.prefix_free c.args.a.now c.args.b.now c.spell-first.ensures.fits
          c.spell-second.ensures.fits (sym first ∙ c.is_equal.ensures.0 equal ∙ second),
      λ same. c.is_equal.ensures.1 (first ∙ ap set.spelling same ∙ sym second),
    )
