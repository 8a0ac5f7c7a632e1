use Rattle.std.proofs.Common.{◌≡◌, ◌≤◌, ◌^◌, Err, length, map, sym, ap, ◌∙◌, subst, rules}
use Rattle.std.specs.Prelude.{All}
use Rattle.std.specs.List.Sorted.{IsNonDecreasing}
use Rattle.std.proofs.lemmas.List.{length-map}
use Rattle.link_build.specs.Functions.{IsSound, seen}
use Rattle.unit_listing.specs.Kit.{kit_of}
use Rattle.image_link.proofs.StandingLemmas.{as_many, is_placed, near, not_placed, ordered, text_long, text_short}
use Rattle.image_link.proofs.standing.stand.Goals as goal

pub place_all-requires-clause-sound : goal.place_all-requires-clause-sound
place_all-requires-clause-sound g c =
    let kit = kit_of g.T.Processor.instructions g.T.Processor.fits g.T.Processor.MACHINE g.T.Processor.QUANTUM g.T.Processor.SHAPE g.T.Target.selection
    g.T.Target.aiming g.T.Target.entry g.T.Target.check g.T.Target.begins in
    let build = c.args.build.now in (
      build,
      subst (All (IsSound kit build)) (sym c.requires.functions)
          (c.functions_are_sound.ensures build c.args.names.now c.args.code.now c.requires.valid c.requires.fit.resolved),
    )

pub place_all-requires-clause-near : goal.place_all-requires-clause-near
place_all-requires-clause-near g c =
    let kit = kit_of g.T.Processor.instructions g.T.Processor.fits g.T.Processor.MACHINE g.T.Processor.QUANTUM g.T.Processor.SHAPE g.T.Target.selection
    g.T.Target.aiming g.T.Target.entry g.T.Target.check g.T.Target.begins in
    subst (All (λ place. place ≤ 2 ^ 24)) (sym c.as_slice-at.ensures)
    (near kit c.args.build.now c.args.names.now c.args.code.now c.args.fitted.now c.requires.fit)

pub place_all-requires-clause-as_many : goal.place_all-requires-clause-as_many
place_all-requires-clause-as_many g c =
    let kit = kit_of g.T.Processor.instructions g.T.Processor.fits g.T.Processor.MACHINE g.T.Processor.QUANTUM g.T.Processor.SHAPE g.T.Target.selection
    g.T.Target.aiming g.T.Target.entry g.T.Target.check g.T.Target.begins in
    ap length c.as_slice-at.ensures
    ∙ as_many kit c.args.build.now c.args.names.now c.args.code.now c.args.fitted.now c.requires.fit (map seen c.args.funcs.now) c.requires.functions
    ∙ length-map c.args.funcs.now seen

pub returns-in_err-codes-clause-refused : goal.returns-in_err-codes-clause-refused
returns-in_err-codes-clause-refused g c = λ no same real.
    let kit = kit_of g.T.Processor.instructions g.T.Processor.fits g.T.Processor.MACHINE g.T.Processor.QUANTUM g.T.Processor.SHAPE g.T.Target.selection
    g.T.Target.aiming g.T.Target.entry g.T.Target.check g.T.Target.begins in
    let told = rw same at c.from_residual.ensures.1 in
    let err : Err c.in_err-codes.field-0.0 ≡ Err no = search rules in
    not_placed kit c.args.build.now c.args.names.now c.args.code.now c.args.fitted.now c.requires.fit (map seen c.args.funcs.now) c.requires.functions
    c.as_slice-at.result.now c.as_slice-at.ensures no (c.in_err-codes.ensures.unplaced no err real)

pub surround-requires-clause-ordered : goal.surround-requires-clause-ordered
surround-requires-clause-ordered g c =
    let kit = kit_of g.T.Processor.instructions g.T.Processor.fits g.T.Processor.MACHINE g.T.Processor.QUANTUM g.T.Processor.SHAPE g.T.Target.selection
    g.T.Target.aiming g.T.Target.entry g.T.Target.check g.T.Target.begins in
    subst IsNonDecreasing (sym c.as_slice-at.ensures)
    (ordered kit c.args.build.now c.args.names.now c.args.code.now c.args.fitted.now c.requires.fit)

pub surround-requires-clause-short : goal.surround-requires-clause-short
surround-requires-clause-short g c =
    let kit = kit_of g.T.Processor.instructions g.T.Processor.fits g.T.Processor.MACHINE g.T.Processor.QUANTUM g.T.Processor.SHAPE g.T.Target.selection
    g.T.Target.aiming g.T.Target.entry g.T.Target.check g.T.Target.begins in
    subst (λ text. length text ≤ 2 ^ 24) (sym c.as_slice-2.ensures)
    (text_short kit c.args.build.now c.args.names.now c.args.code.now c.args.fitted.now c.requires.fit (map seen c.args.funcs.now) c.requires.functions
    c.as_slice-at.result.now c.as_slice-at.ensures c.in_ok-codes.codes.items c.in_ok-codes.ensures.placed g.T.Processor.GROWTH
    c.as_slice.result.now c.as_slice.ensures.value c.in_ok-text.text c.in_ok-text.ensures c.functions_stand.ensures.end)

pub returns-clause-placed : goal.returns-clause-placed
returns-clause-placed g c =
    let kit = kit_of g.T.Processor.instructions g.T.Processor.fits g.T.Processor.MACHINE g.T.Processor.QUANTUM g.T.Processor.SHAPE g.T.Target.selection
    g.T.Target.aiming g.T.Target.entry g.T.Target.check g.T.Target.begins in
    is_placed kit c.args.build.now c.args.names.now c.args.code.now c.args.fitted.now c.requires.fit (map seen c.args.funcs.now) c.requires.functions
    c.as_slice-at.result.now c.as_slice-at.ensures c.in_ok-codes.codes.items c.in_ok-codes.ensures.placed g.T.Processor.GROWTH
    c.as_slice.result.now c.as_slice.ensures.value c.in_ok-text.text c.in_ok-text.ensures c.functions_stand.ensures.end
    c.in_ok-around.around (length c.as_slice-2.result.now) c.as_slice-3.result.now (ap length c.as_slice-2.ensures) c.as_slice-3.ensures
    c.in_ok-around.ensures

pub returns-clause-long : goal.returns-clause-long
returns-clause-long g c =
    let kit = kit_of g.T.Processor.instructions g.T.Processor.fits g.T.Processor.MACHINE g.T.Processor.QUANTUM g.T.Processor.SHAPE g.T.Target.selection
    g.T.Target.aiming g.T.Target.entry g.T.Target.check g.T.Target.begins in
    text_long kit c.args.build.now c.args.names.now c.args.code.now c.args.fitted.now c.requires.fit (map seen c.args.funcs.now) c.requires.functions
    c.as_slice-at.result.now c.as_slice-at.ensures c.in_ok-codes.codes.items c.in_ok-codes.ensures.placed g.T.Processor.GROWTH
    c.as_slice.result.now c.as_slice.ensures.value c.in_ok-text.text c.in_ok-text.ensures c.functions_stand.ensures.end
