use Rattle.std.proofs.Common.{length, ap, arith}
use Rattle.elf_image.specs.Written.{string_bytes, sizes_of}
use Rattle.elf_image.proofs.LayoutLemmas.{ends_before}
use Rattle.elf_image.proofs.writer.write_image.Goals as goal

pub symbol_bytes-requires : goal.symbol_bytes-requires
symbol_bytes-requires c =
    let before = ends_before (sizes_of c.args.parts.now) in
    let same = ap (λ symbols. length (string_bytes symbols)) c.as_slice.ensures in
    let near = c.requires in
    omega arith
