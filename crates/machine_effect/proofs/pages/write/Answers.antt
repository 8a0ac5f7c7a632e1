use Rattle.std.proofs.Common.{length, ◌≡◌, ◌+◌, ◌*◌, ◌/◌, ◌%◌, ◌≤◌, ◌∙◌, arith}
use Rattle.machine_effect.specs.Page.{page_size}
use Rattle.machine_effect.proofs.PageLemmas.{piece_more}
use Rattle.machine_effect.proofs.pages.write.Goals as goal

pub loop-done-preserved : goal.loop-done-preserved
loop-done-preserved c =
    let count = c.min-count.result in
    let start = c.args.at + c.loop-done.done in
    let within : c.loop-done.done + count ≤ length c.args.bytes.now = omega (arith, c.min-count.ensures) in
    let place : page_size * (start / page_size) + start % page_size ≡ start = omega arith in
    record {
      within = within;
      written = piece_more c.args.pages.now c.loop-done.pages c.write_one.new.pages c.args.at c.loop-done.done count c.args.bytes.now
          within c.loop-done.invariant.written (rw place at c.write_one.ensures.written);
      same = λ n. c.write_one.ensures.same n ∙ c.loop-done.invariant.same n;
    }
