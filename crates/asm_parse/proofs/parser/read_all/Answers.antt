use Rattle.std.proofs.Common.{length, subst, sym}
use Rattle.std.specs.Prelude.{sum_by}
use Rattle.std.proofs.lemmas.Result.{err_from_is_err_and}
use Rattle.asm_parse.specs.Ahead.{seen}
use Rattle.asm_parse.specs.Known.{IsKnown}
use Rattle.asm_parse.specs.Placed.{StateIn}
use Rattle.asm_parse.proofs.KnownLemmas.{nothing_known, ended_known}
use Rattle.asm_parse.proofs.PlacedLemmas.{nothing_in, ended_in}
use Rattle.asm_parse.proofs.parser.read_all.Goals as goal

pub returns-clause-known : goal.returns-clause-known
returns-clause-known g c =
    let total = sum_by length (seen c.args.statements.now) in
    let begun : IsKnown 0 c.new-progress.result = subst (IsKnown 0) (sym c.new-progress.ensures) nothing_known in
    subst (IsKnown total) (sym c.in_ok-end.ensures) (ended_known total c.read_into.new.progress (c.in_ok-read_into.ensures.known begun))

pub returns-in_err-read_into-clause-placed : goal.returns-in_err-read_into-clause-placed
returns-in_err-read_into-clause-placed g c =
    let p = err_from_is_err_and c.from_residual.result c.from_residual.ensures.1 in
    rw (p.1, p.2) (λ count all. c.in_err-read_into.ensures.placed count all (subst (StateIn count) (sym c.new-progress.ensures) (nothing_in count)))

pub returns-clause-placed : goal.returns-clause-placed
returns-clause-placed g c = λ count all.
    let begun : StateIn count c.new-progress.result = subst (StateIn count) (sym c.new-progress.ensures) (nothing_in count) in
    subst (StateIn count) (sym c.in_ok-end.ensures) (ended_in count c.read_into.new.progress (c.in_ok-read_into.ensures.placed count all begun))
