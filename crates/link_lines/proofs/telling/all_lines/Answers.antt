use Rattle.std.proofs.Common.{map, refl, ap, ◌∙◌, arith}
use Rattle.std.specs.Option.{option_map}
use Rattle.std.proofs.lemmas.Option.{slice_get-get_or, slice_get-map, slice_get_read}
use Rattle.asm_target.proofs.PlaceLemmas.{fit_at}
use Rattle.link_build.specs.Functions.{IsSound, seen}
use Rattle.link_lines.proofs.AllLemmas.{told_more}
use Rattle.link_lines.proofs.telling.all_lines.Goals as goal

pub lines_of-requires-clause-symbol : goal.lines_of-requires-clause-symbol
lines_of-requires-clause-symbol g c =
    let funcs = c.args.funcs.now in
    let number = c.loop-number.number in
    let func = c.index-funcs-number.result in
    let here = slice_get_read funcs _ number func refl (omega arith) c.index-funcs-number.is in
    (fit_at (IsSound _ c.requires.sound.0) (map seen funcs) number (seen func) c.requires.sound.1
    (slice_get-map seen funcs number ∙ ap (option_map seen) here)).form.symbol

pub loop-number-preserved : goal.loop-number-preserved
loop-number-preserved g c =
    let funcs = c.args.funcs.now in
    let number = c.loop-number.number in
    let func = c.index-funcs-number.result in
    let here = slice_get_read funcs _ number func refl (omega arith) c.index-funcs-number.is in
    let entry = slice_get-get_or c.args.entries.now number 0 (omega arith) in
    rw c.in_ok-push.ensures.items
    (told_more (map seen funcs) c.args.entries.now number _ (seen func) c.lines_of.result c.loop-number.all.items c.loop-number.invariant
    (slice_get-map seen funcs number ∙ ap (option_map seen) here) entry c.lines_of.ensures)
