use Rattle.std.proofs.Common.{sym}
use Rattle.amd64_code.proofs.RegisterLaws.{xmm_back}
use Rattle.amd64_code.proofs.registers.xmm_at.Goals as goal

pub returns : goal.returns
returns c = sym (rw (c.joined.ensures.high, c.joined.ensures.low) at (xmm_back c.joined.result))
