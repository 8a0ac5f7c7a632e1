use Rattle.std.proofs.Common.{[], length, arith}
use Rattle.std.proofs.lemmas.List.Elements.{All-head}
use Rattle.link_values.specs.Values.{part_write, part_writes}
use Rattle.link_values.specs.Written.{IsInside, written_over}
use Rattle.link_values.proofs.WrittenLemmas.{written_more, item_inside, rest_inside, written_all}
use Rattle.link_values.proofs.writing.write_parts.Goals as goal

pub write_part-requires-clause-inside : goal.write_part-requires-clause-inside
write_part-requires-clause-inside c =
    All-head (IsInside (length c.loop-part.bytes)) (part_write c.args.names.now c.args.places.now c.args.addresses.now c.args.unit c.args.symbols.now c.part-item.result) []
    (item_inside (part_writes c.args.names.now c.args.places.now c.args.addresses.now c.args.unit c.args.symbols.now) c.args.parts.now c.loop-part.part-index
    c.part-item.result (length c.loop-part.bytes) (omega arith) c.part-item.is c.loop-part.invariant.inside)

pub loop-part-preserved : goal.loop-part-preserved
unfolding written_over
loop-part-preserved c =
    let make = part_writes c.args.names.now c.args.places.now c.args.addresses.now c.args.unit c.args.symbols.now in
    record {
      written = written_more make c.args.parts.now c.loop-part.part-index c.part-item.result c.loop-part.bytes c.write_part.new.bytes
          _ (omega arith) c.part-item.is c.loop-part.invariant.written c.write_part.ensures;
      inside = rest_inside make c.args.parts.now c.loop-part.part-index c.part-item.result c.loop-part.bytes c.write_part.new.bytes
          (omega arith) c.part-item.is c.loop-part.invariant.inside c.write_part.ensures;
    }

pub returns : goal.returns
returns c =
    written_all (part_writes c.args.names.now c.args.places.now c.args.addresses.now c.args.unit c.args.symbols.now) c.args.parts.now
    c.loop-part.part-index c.loop-part.bytes _ (omega arith) c.loop-part.invariant.written
