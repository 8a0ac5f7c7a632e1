use std.Path.{fun_ext}
use Rattle.std.proofs.Common.{refl}
use Rattle.asm_directive.specs.Views.{names_of}
use Rattle.asm_directive.proofs.names.NameMap.new.Goals as goal

pub returns : goal.returns
unfolding names_of
returns g c = fun_ext (λ name. rw c.new.ensures.empty refl)
