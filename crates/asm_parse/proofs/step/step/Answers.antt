use Rattle.std.proofs.Common.{◌+◌, length, subst, sym, arith}
use Rattle.asm_parse.specs.Progress.{State}
use Rattle.asm_parse.specs.Known.{IsKnown}
use Rattle.asm_parse.specs.Placed.{TokenIn, StateIn}
use Rattle.asm_parse.proofs.KnownLemmas.{kept_known}
use Rattle.asm_parse.proofs.PlacedLemmas.{kept_in}
use Rattle.asm_parse.proofs.step.step.Goals as goal

pub returns-in-None-clause-known : goal.returns-in-None-clause-known
returns-in-None-clause-known g c = λ before known.
    subst (λ (s : State). IsKnown (before + length c.args.tokens.now) s) (sym c.in_ok-cause.ensures.keeps)
    (kept_known before (length c.args.tokens.now) c.args.progress.now _ c.in_ok-read.read.statement (omega (arith, c.in-len1-up.len_at_least)) c.in_ok-read.ensures.sized c.in_ok-read.ensures.few known)

pub returns-in-None-clause-placed : goal.returns-in-None-clause-placed
returns-in-None-clause-placed g c = λ count all placed.
    let own : TokenIn count c.first-item.result = subst (TokenIn count) (sym c.first-item.is) (all 0 c.first-item.result (omega (arith, c.in-len1-up.len_at_least))) in
    subst (λ (s : State). StateIn count s) (sym c.in_ok-cause.ensures.keeps) (kept_in count c.args.progress.now c.first-item.result.pos c.in_ok-read.read.statement own placed)
