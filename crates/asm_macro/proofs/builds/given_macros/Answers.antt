use Rattle.std.proofs.Common.{is_some, sym, ap, ◌∙◌}
use Rattle.asm_directive.specs.Views.{names_of}
use Rattle.asm_macro.proofs.BuildLemmas.{given_next}
use Rattle.asm_macro.proofs.builds.given_macros.Goals as goal

pub loop-name-preserved : goal.loop-name-preserved
loop-name-preserved c =
    given_next c.loop-name.macros c.put.new.self c.args.defines.now c.loop-name.name-index c.loop-name-item.result c.value_macro.result _
    c.loop-name-test.true c.loop-name-item.is
    (ap (λ name. is_some (names_of c.loop-name.macros name)) (sym c.as_slice.ensures) ∙ sym c.has.ensures ∙ c.if-has.false)
    c.value_macro.ensures
    (rw (← c.as_slice-in-loop-name.ensures) c.in_ok-put.ensures)
    c.loop-name.invariant
