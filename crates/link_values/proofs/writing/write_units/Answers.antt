use Rattle.std.proofs.Common.{sym, subst, arith}
use Rattle.std.proofs.lemmas.List.Elements.{All-get_or}
use Rattle.asm_parse.specs.Valid.{IsValidUnit}
use Rattle.link_values.specs.Values.{unit_writes}
use Rattle.link_values.proofs.WrittenLemmas.{written_more, item_inside, rest_inside, written_all}
use Rattle.link_values.proofs.writing.write_units.Goals as goal

pub write_unit-requires-clause-valid : goal.write_unit-requires-clause-valid
write_unit-requires-clause-valid c =
    subst IsValidUnit (sym c.index-units-number.is)
    (All-get_or IsValidUnit c.args.units.now c.loop-number.number c.index-units-number.result (omega arith) c.requires.valid)

pub write_unit-requires-clause-inside : goal.write_unit-requires-clause-inside
write_unit-requires-clause-inside c =
    item_inside (unit_writes c.args.names.now c.args.places.now c.args.addresses.now) c.args.units.now c.loop-number.number
    c.index-units-number.result _ (omega arith) c.index-units-number.is c.loop-number.invariant.inside

pub loop-number-preserved : goal.loop-number-preserved
loop-number-preserved c =
    let make = unit_writes c.args.names.now c.args.places.now c.args.addresses.now in
    record {
      written = written_more make c.args.units.now c.loop-number.number c.index-units-number.result c.loop-number.bytes c.write_unit.new.bytes
          _ (omega arith) c.index-units-number.is c.loop-number.invariant.written c.write_unit.ensures;
      inside = rest_inside make c.args.units.now c.loop-number.number c.index-units-number.result c.loop-number.bytes c.write_unit.new.bytes
          (omega arith) c.index-units-number.is c.loop-number.invariant.inside c.write_unit.ensures;
    }

pub returns : goal.returns
returns c =
    written_all (unit_writes c.args.names.now c.args.places.now c.args.addresses.now) c.args.units.now c.loop-number.number c.loop-number.bytes
    _ (omega arith) c.loop-number.invariant.written
