use Rattle.std.proofs.Common.{Some}
use Rattle.asm_directive.specs.Views.{names_of}
use Rattle.asm_directive.proofs.NameLemmas.{put_name}
use Rattle.asm_directive.proofs.names.NameMap.put.Goals as goal

pub returns : goal.returns
unfolding names_of
returns g c = put_name c.args.self.now.map c.insert.new.self c.args.name (Some c.args.value) c.in_ok-insert.ensures.updates
