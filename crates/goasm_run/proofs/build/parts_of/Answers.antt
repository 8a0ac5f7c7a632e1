use Rattle.std.proofs.Common.{[]}
use Rattle.goasm_run.specs.Limits.{list_limit}
use Rattle.goasm_run.specs.Lists.{list_answer}
use Rattle.goasm_run.specs.Parts.{ask_parts}
use Rattle.goasm_run.proofs.BuildLemmas.{parts_read}
use Rattle.goasm_run.proofs.build.parts_of.Goals as goal

pub returns : goal.returns
returns g c =
    parts_read g.F.Shelf.holds g.F.Shelf.faults g.F.Shelf.reads c.args.shelf.now c.read_named.new.shelf c.parts_in.new.shelf
    c.args.list.now list_limit c.in_ok-bytes.bytes c.in_ok-bytes.ensures.read c.in_ok-bytes.ensures.same
    (λ next. list_answer c.args.list.now (λ lines. ask_parts 1 lines [] next)) c.parts_in.result
    (rw c.as_slice.ensures at c.parts_in.ensures)
