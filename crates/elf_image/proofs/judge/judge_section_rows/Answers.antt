use Rattle.elf_image.specs.Faults.{section_fault}
use Rattle.elf_image.proofs.judge.judge_section_rows.Goals as goal

pub returns : goal.returns
unfolding section_fault
returns c = rw (c.first_fault.ensures, c.rows.ensures) at c.in_layout.ensures
