use Rattle.std.proofs.Common.{◌≡◌, Bool, true, false, ap, sym, ◌∙◌, arith}
use Rattle.std.specs.Prelude.{◌||◌}
use Rattle.std.specs.List.{list_any}
use Rattle.asm_parse.specs.Resolve.{has_unknown, is_unknown}
use Rattle.asm_parse.proofs.Loops.{goes_on, is_done}
use Rattle.asm_parse.proofs.resolve.has_unknown.Goals as goal

pub loop-draft-preserved : goal.loop-draft-preserved
loop-draft-preserved g c = λ word tells.
    let no_such : is_unknown word c.args.body.now c.draft-item.result ≡ false = sym (c.is_unknown.ensures word tells) ∙ c.if-is_unknown.false in
    goes_on (λ (s : Bool) rest. has_unknown word c.args.body.now rest) c.args.drafts.now c.loop-draft.draft-index (has_unknown word c.args.body.now c.args.drafts.now) true true c.draft-item.result
    (c.loop-draft.invariant word tells) c.loop-draft-test.true c.draft-item.is (λ rest. ap (λ (b : Bool). b || list_any (is_unknown word c.args.body.now) rest) no_such)

pub returns : goal.returns
returns g c = λ word tells.
    is_done (λ (s : Bool) rest. has_unknown word c.args.body.now rest) c.args.drafts.now c.loop-draft.draft-index (has_unknown word c.args.body.now c.args.drafts.now) true (c.loop-draft.invariant word tells) (omega (arith, c.loop-draft-test.false))
