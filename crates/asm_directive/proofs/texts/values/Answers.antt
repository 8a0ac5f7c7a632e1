use Rattle.asm_directive.proofs.TextLemmas.{skipped, escaped, plain}
use Rattle.asm_directive.proofs.texts.values.Goals as goal
use Rattle.asm_directive.proofs.texts.values.Goals.{then-skip-gt0, else-skip-gt0+then-bytes-at-eq92+in_ok-push, else-skip-gt0+else-bytes-at-eq92+in_ok-push-2}

pub loop-at-preserved : goal.loop-at-preserved
loop-at-preserved c =
    elim c.if-skip-gt0.branch [
      | then-skip-gt0 w ↦ rw (w.values-is, w.skip-is)
          (skipped c.args.bytes.now c.loop-at.at c.loop-at.skip c.loop-at.values.items _ c.loop-at-test.true w.if-skip-gt0.true c.loop-at.invariant)
      | else-skip-gt0+then-bytes-at-eq92+in_ok-push w ↦ rw (w.values-is, w.skip-is, w.escape_len-skip.ensures, w.behind-escape.ensures)
          (escaped c.args.bytes.now c.loop-at.at c.loop-at.skip c.loop-at.values.items _ _ c.loop-at-test.true w.if-skip-gt0.false w.if-bytes-at-eq92.true
          (rw (w.escape_value.ensures, w.behind-escape.ensures) at w.in_ok-push.ensures.items) c.loop-at.invariant)
      | else-skip-gt0+else-bytes-at-eq92+in_ok-push-2 w ↦ rw (w.values-is, w.skip-is)
          (plain c.args.bytes.now c.loop-at.at c.loop-at.skip c.loop-at.values.items _ _ c.loop-at-test.true w.if-skip-gt0.false w.if-bytes-at-eq92.false
          w.in_ok-push-2.ensures.items c.loop-at.invariant)
    ]
