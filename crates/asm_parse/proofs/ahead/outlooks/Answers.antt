use Rattle.std.proofs.Common.{◌≡◌, ap, sym, ◌∙◌, arith}
use Rattle.asm_parse.specs.declared.unread.Unread.{Unread}
use Rattle.asm_parse.specs.Ahead.{opening_of}
use Rattle.asm_parse.proofs.AheadLemmas.{outlook_kept}
use Rattle.asm_parse.proofs.ahead.outlooks.Goals as goal

pub loop-at-preserved : goal.loop-at-preserved
loop-at-preserved c =
    let opened : c.opening_of.result ≡ opening_of c.index-statements-at.result.tokens.now
    = c.opening_of.ensures ∙ ap (λ (x : Unread). opening_of x.tokens.now) (sym c.index-statements-at.is) in
    let kept = outlook_kept c.args.statements.now c.loop-at.at c.index-statements-at.result c.loop-at.all.items c.push.new.self.items c.loop-at.behind c.before-here.result c.opening_of.result
    c.loop-at-test.true c.loop-at.invariant.within c.index-statements-at.is c.loop-at.invariant.all c.loop-at.invariant.behind opened c.before-here.ensures c.in_ok-push.ensures.items in
    record { within = omega (arith, c.loop-at.invariant.within); all = kept.0; behind = kept.1 }
