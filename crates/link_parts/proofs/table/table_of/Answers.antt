use Rattle.std.proofs.Common.{◌*◌, ◌^◌, ◌≤◌, length, subst, sym, arith}
use Rattle.std.specs.Prelude.{sum_by}
use Rattle.pclntab.specs.declared.parts.TableParts.{TableParts}
use Rattle.pclntab.specs.Written.{run_count}
use Rattle.link_parts.proofs.RunLemmas.{runs_of_parts}
use Rattle.link_parts.proofs.table.table_of.Goals as goal

pub table_parts-requires-clause-few : goal.table_parts-requires-clause-few
table_parts-requires-clause-few g c =
    let files = c.args.files.now in
    omega (arith, c.linked_are_told.ensures.few files c.args.quantum (length files) c.args.lines.now c.requires.linked, c.requires.short)

pub write_short-requires-clause-runs : goal.write_short-requires-clause-runs
write_short-requires-clause-runs g c =
    subst (λ (parts : TableParts). sum_by run_count parts.funcs ≤ 3 * 2 ^ 24) (sym c.in_ok-parts.ensures.parts)
    (runs_of_parts c.args.files.now c.args.quantum c.args.text_len c.args.lines.now c.requires.linked c.requires.short)
