use Rattle.elf_image.proofs.WriteLemmas.{described}
use Rattle.elf_image.proofs.writer.push_described.Goals as goal

pub returns : goal.returns
returns c =
    described c.args.bytes.now.items c.push_part.new.bytes.items c.push_part-2.new.bytes.items c.push_part-3.new.bytes.items
    c.push_part-4.new.bytes.items c.args.symbols.now c.args.strings.now c.labels.result.now c.args.sections.now
    c.in_ok-push_part.ensures.ok c.in_ok-push_part-2.ensures.ok c.in_ok-push_part-3.ensures.ok c.in_ok-push_part-4.ensures.ok c.labels.ensures
