use Rattle.std.proofs.Common.{arith}
use Rattle.link_parts.proofs.NameLemmas.{are_parts, short_written}
use Rattle.link_parts.proofs.table.write_short.Goals as goal

pub write-requires : goal.write-requires
write-requires c =
    let parts = c.args.parts.now in
    are_parts parts c.requires.ready
    (short_written parts c.written_lengths.ensures.names (c.written_lengths.ensures.most parts)
    (omega (arith, c.names_size.ensures, c.if-names_size-gt-MOST_BYTES.false)) c.requires.few c.requires.runs)
