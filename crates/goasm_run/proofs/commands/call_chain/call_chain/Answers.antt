use Rattle.goasm_run.specs.Limits.{dump_limit, image_limit}
use Rattle.goasm_run.specs.Plan.{Ask}
use Rattle.goasm_run.specs.Unwind.{unwind_answer}
use Rattle.goasm_run.proofs.BuildLemmas.{answers_read}
use Rattle.goasm_run.proofs.commands.call_chain.call_chain.Goals as goal

pub returns : goal.returns
returns g c =
    answers_read g.F.Shelf.holds g.F.Shelf.faults g.F.Shelf.reads c.args.shelf.now c.read_named.new.shelf c.with_dump.new.shelf
    c.args.name.now image_limit c.in_ok-image.image c.in_ok-image.ensures.read c.in_ok-image.ensures.same
    (λ image. Ask c.args.dump_name.now dump_limit (unwind_answer c.args.name.now c.args.dump_name.now image)) c.with_dump.result
    (rw c.as_slice.ensures at c.with_dump.ensures)
