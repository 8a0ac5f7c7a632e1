use Rattle.std.proofs.Common.{arith}
use Rattle.elf_image.proofs.WriteLemmas.{place_fits}
use Rattle.elf_image.proofs.write_symbols.symbol_bytes.Goals as goal

pub overflow_add-place-in-loop-part : goal.overflow_add-place-in-loop-part
overflow_add-place-in-loop-part c =
    let fits = place_fits c.args.symbols.now c.loop-part.bytes.items c.loop-part.place c.loop-part.part-index c.part-item.result
    c.as_slice.result.now c.loop-part-test.true c.loop-part.invariant c.part-item.is c.as_slice.ensures c.requires in
    omega arith
