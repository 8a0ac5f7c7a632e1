use Rattle.std.proofs.Common.{sym, subst, arith}
use Rattle.std.proofs.lemmas.List.Elements.{All-get_or}
use Rattle.asm_parse.specs.Valid.{IsValidUnit}
use Rattle.link_names.specs.Definitions.{each}
use Rattle.link_values.specs.Kept.{unit_kept}
use Rattle.link_values.proofs.EachLemmas.{pushed_more, pushed_all}
use Rattle.link_values.proofs.kept.kept_values.Goals as goal

pub keep_unit-requires : goal.keep_unit-requires
keep_unit-requires c =
    subst IsValidUnit (sym c.index-units-number.is)
    (All-get_or IsValidUnit c.args.units.now c.loop-number.number c.index-units-number.result (omega arith) c.requires.valid)

pub loop-number-preserved : goal.loop-number-preserved
loop-number-preserved c =
    pushed_more (unit_kept c.args.names.now) c.args.units.now c.loop-number.number c.index-units-number.result c.loop-number.kept.items c.keep_unit.new.kept.items
    (each (unit_kept c.args.names.now) c.args.units.now) (omega arith) c.index-units-number.is c.loop-number.invariant c.in_ok-keep_unit.ensures

pub returns : goal.returns
returns c =
    pushed_all (unit_kept c.args.names.now) c.args.units.now c.loop-number.number c.loop-number.kept.items
    (each (unit_kept c.args.names.now) c.args.units.now) (omega arith) c.loop-number.invariant
