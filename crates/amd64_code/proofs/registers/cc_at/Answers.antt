use Rattle.std.proofs.Common.{sym}
use Rattle.amd64_code.proofs.RegisterLaws.{cc_back}
use Rattle.amd64_code.proofs.registers.cc_at.Goals as goal

pub returns : goal.returns
returns c = sym (rw c.numbered.ensures.number at (cc_back c.numbered.result))
