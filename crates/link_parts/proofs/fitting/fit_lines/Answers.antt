use Rattle.std.proofs.Common.{map, subst, sym, arith}
use Rattle.std.specs.Prelude.{All}
use Rattle.std.proofs.lemmas.Grind.{common_steps}
use Rattle.link_build.specs.Functions.{IsSound, seen}
use Rattle.link_plan.specs.Sizes.{code_sizes}
use Rattle.link_plan.proofs.PlacedLemmas.{one_each}
use Rattle.link_parts.proofs.FitLemmas.{long_table}
use Rattle.link_parts.proofs.LinesLemmas.{count_lines, entries_ascend, short_lines, some_sizes}
use Rattle.link_parts.proofs.ListableLemmas.{are_listable}
use Rattle.link_parts.proofs.fitting.fit_lines.Goals as goal

pub table_of-requires-clause-order : goal.table_of-requires-clause-order
table_of-requires-clause-order g c =
    entries_ascend g.T.Processor.QUANTUM c.args.build.now c.args.code.now c.args.lines.now c.requires.lines

pub table_of-requires-clause-few : goal.table_of-requires-clause-few
table_of-requires-clause-few g c =
    omega (
      arith,
      count_lines g.T.Processor.QUANTUM c.args.build.now c.args.code.now c.args.lines.now c.requires.lines,
      one_each (code_sizes c.args.code.now) c.args.plan.functions c.requires.planned.functions,
      c.requires.planned.few,
    )

pub table_of-requires-clause-short : goal.table_of-requires-clause-short
table_of-requires-clause-short g c =
    short_lines g.T.Processor.QUANTUM c.args.build.now c.args.code.now c.args.lines.now c.requires.lines
    (omega (arith, c.requires.planned.functions.end, c.requires.planned.functions.small))

pub returns-in_default-clause-none : goal.returns-in_default-clause-none
returns-in_default-clause-none g c =
    grind (
      arith,
      common_steps,
      long_table g.T.Processor.QUANTUM c.args.build.now c.args.names.now c.args.code.now c.args.lines.now c.requires.lines,
    )

pub image_symbols-requires-clause-listable : goal.image_symbols-requires-clause-listable
image_symbols-requires-clause-listable g c =
    let build = c.args.build.now in
    let code = c.args.code.now in
    let sound = c.functions_are_sound.ensures build c.args.names.now code c.requires.valid c.requires.resolved in
    are_listable _ build c.args.names.now code c.args.plan (map seen c.args.funcs.now) c.requires.valid
    (subst (All (IsSound _ build)) (sym c.requires.functions) sound) c.requires.functions c.requires.planned
    (some_sizes g.T.Processor.QUANTUM build code c.args.lines.now c.requires.lines)
