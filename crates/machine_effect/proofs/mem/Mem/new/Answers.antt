use Rattle.std.proofs.Common.{refl}
use Rattle.machine_effect.specs.Pages.{memory_of}
use Rattle.machine_effect.proofs.mem.Mem.new.Goals as goal

pub returns : goal.returns
unfolding memory_of
returns c = rw c.new.ensures.empty refl
