use Rattle.asm_macro.proofs.BuildLemmas.{included_next}
use Rattle.asm_macro.proofs.builds.included_files.Goals as goal

pub loop-name-preserved : goal.loop-name-preserved
loop-name-preserved c =
    included_next c.loop-name.files c.put_new.new.self c.args.includes.now c.loop-name.name-index c.loop-name-item.result (record { tokens = c.as_slice.result }) _
    c.loop-name-test.true c.loop-name-item.is c.as_slice.ensures (rw (← c.as_slice-in-loop-name.ensures) c.in_ok-put_new.ensures) c.loop-name.invariant
