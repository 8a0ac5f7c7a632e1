use Rattle.std.proofs.Common.{◌++◌, get_or, arith}
use Rattle.std.proofs.lemmas.List.{get_or_default}
use Rattle.asm_parse.specs.declared.unit.GlobalPart.{GlobalPart}
use Rattle.link_names.specs.Definitions.{each}
use Rattle.link_values.specs.Kept.{value_kept}
use Rattle.link_values.proofs.EachLemmas.{pushed_more, pushed_all}
use Rattle.link_values.proofs.kept.keep_globals.Goals as goal

-- what is read of no place
nothing : GlobalPart
nothing = record { sym = 0; flags = 0; size = 0; pos = record { file = 0; line = 0 } }

pub loop-number-preserved : goal.loop-number-preserved
unfolding nothing
loop-number-preserved c =
    let number = c.loop-number.number in
    let item : GlobalPart = get_or c.args.globals.now number nothing in
    pushed_more (value_kept c.args.names.now c.args.unit c.args.symbols.now) c.args.globals.now number item c.loop-number.kept.items c.keep_global.new.kept.items
    (c.args.kept.now.items ++ each (value_kept c.args.names.now c.args.unit c.args.symbols.now) c.args.globals.now)
    (omega arith) (get_or_default c.args.globals.now number nothing item (omega arith)) c.loop-number.invariant c.in_ok-keep_global.ensures

pub returns : goal.returns
returns c =
    pushed_all (value_kept c.args.names.now c.args.unit c.args.symbols.now) c.args.globals.now c.loop-number.number c.loop-number.kept.items
    (c.args.kept.now.items ++ each (value_kept c.args.names.now c.args.unit c.args.symbols.now) c.args.globals.now)
    (omega arith) c.loop-number.invariant
