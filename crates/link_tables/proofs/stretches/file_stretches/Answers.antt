use Rattle.link_tables.proofs.stretches.file_stretches.Goals as goal

pub file_stretch-requires-clause-there : goal.file_stretch-requires-clause-there
file_stretch-requires-clause-there c =
    rw (c.loop-row.invariant.same) (c.requires.there c.loop-row.row-index (record { end = 0; depth = 0; file = 0; line = 0 }) c.loop-row-test.true)
