use Rattle.std.proofs.Common.{◌∙◌}
use Rattle.elf_image.proofs.LawLemmas.{written_image, written_tells}
use Rattle.elf_image.proofs.writer.write.Goals as goal

pub returns-clause-image : goal.returns-clause-image
returns-clause-image c = written_image c.args.parts.now c.new.result c.requires (c.new.ensures ∙ c.in_ok-bytes.ensures)

pub returns-clause-tells : goal.returns-clause-tells
returns-clause-tells c = written_tells c.args.parts.now c.new.result c.requires (c.new.ensures ∙ c.in_ok-bytes.ensures)
