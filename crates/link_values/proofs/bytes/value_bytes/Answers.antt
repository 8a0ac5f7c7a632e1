use Rattle.std.proofs.Common.{length, get_or, ap, ◌∙◌}
use Rattle.link_values.specs.Values as spec
use Rattle.link_values.proofs.WrittenLemmas.{length_zeros, byte_zeros}
use Rattle.link_values.proofs.RoomLemmas.{writes_inside}
use Rattle.link_values.proofs.bytes.value_bytes.Goals as goal

pub written_bytes-requires-clause-inside : goal.written_bytes-requires-clause-inside
written_bytes-requires-clause-inside c = writes_inside c.args.names.now c.args.units.now c.requires.named c.args.addresses.now c.requires.room

pub returns-clause-length : goal.returns-clause-length
returns-clause-length c =
    ap length c.in_ok-bytes.ensures
    ∙ length_zeros (spec.values_end c.args.names.now c.args.units.now) (spec.value_writes c.args.names.now c.args.units.now c.args.addresses.now)
    (writes_inside c.args.names.now c.args.units.now c.requires.named c.args.addresses.now c.requires.room)

pub returns-clause-byte : goal.returns-clause-byte
returns-clause-byte c = λ place within.
    ap (λ bytes. get_or bytes place 0) c.in_ok-bytes.ensures
    ∙ byte_zeros (spec.values_end c.args.names.now c.args.units.now) (spec.value_writes c.args.names.now c.args.units.now c.args.addresses.now) place
    (writes_inside c.args.names.now c.args.units.now c.requires.named c.args.addresses.now c.requires.room) within
