use Rattle.std.proofs.Common.{sym, ◌∙◌}
use Rattle.amd64_select.proofs.WidthLemmas.{says_width, unsaid_width}
use Rattle.amd64_select.proofs.width.width.Goals as goal

pub returns-in-Some : goal.returns-in-Some
returns-in-Some c = c.spoken_width.ensures ∙ sym (says_width c.args.op.now c.in-Some.spoken c.in-Some.ensures.found)

pub returns-in-None : goal.returns-in-None
returns-in-None c = sym (unsaid_width c.args.op.now (λ s says. cc (c.in-None.ensures.only s says)))
