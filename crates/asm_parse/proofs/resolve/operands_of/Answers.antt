use Rattle.std.proofs.Common.{[], ◌∷◌, ◌++◌, Err, length, sym, ◌∙◌, arith}
use Rattle.std.proofs.lemmas.Result.{err_from_is_err_and}
use Rattle.std.proofs.lemmas.List.Elements.{All-push, All-same}
use Rattle.goasm_base.specs.Statements.{IsValidOperand}
use Rattle.asm_parse.specs.Refusals.{traversed}
use Rattle.asm_parse.specs.Resolve.{operand_of}
use Rattle.asm_parse.proofs.Loops.{with_front, goes_on, is_done, stops, turn, refused_turn, ends}
use Rattle.asm_parse.proofs.resolve.operands_of.Goals as goal

pub returns-in_err-operand-clause-exact : goal.returns-in_err-operand-clause-exact
returns-in_err-operand-clause-exact g c =
    let p = err_from_is_err_and c.from_residual.result c.from_residual.ensures.1 in
    let refused = c.in_err-operand.field-0.0 in
    rw (p.1, p.2) (λ word tells. λ kept. stops (with_front (operand_of word c.args.symbols.now c.args.body.now c.args.line.now)) c.args.drafts.now c.loop-draft.draft-index (traversed (operand_of word c.args.symbols.now c.args.body.now c.args.line.now) c.args.drafts.now) c.loop-draft.operands.items c.draft-item.result (c.loop-draft.invariant.so_far word tells) c.loop-draft-test.true c.draft-item.is (Err refused) (refused_turn (operand_of word c.args.symbols.now c.args.body.now c.args.line.now) c.loop-draft.operands.items c.draft-item.result refused (c.in_err-operand.ensures.exact word tells kept)))

pub loop-draft-preserved : goal.loop-draft-preserved
loop-draft-preserved g c = record {
  so_far = λ word tells. goes_on (with_front (operand_of word c.args.symbols.now c.args.body.now c.args.line.now)) c.args.drafts.now c.loop-draft.draft-index (traversed (operand_of word c.args.symbols.now c.args.body.now c.args.line.now) c.args.drafts.now) c.loop-draft.operands.items c.push.new.self.items c.draft-item.result (c.loop-draft.invariant.so_far word tells) c.loop-draft-test.true c.draft-item.is
      (turn (operand_of word c.args.symbols.now c.args.body.now c.args.line.now) c.loop-draft.operands.items c.push.new.self.items c.draft-item.result c.in_ok-operand.operand (c.in_ok-operand.ensures.exact word tells) c.in_ok-push.ensures.items);
  valid = All-same (IsValidOperand (length c.args.symbols.now) (length c.args.body.now.lines)) c.push.new.self.items (c.loop-draft.operands.items ++ c.in_ok-operand.operand ∷ []) c.in_ok-push.ensures.items (All-push (IsValidOperand (length c.args.symbols.now) (length c.args.body.now.lines)) c.loop-draft.operands.items c.in_ok-operand.operand c.loop-draft.invariant.valid c.in_ok-operand.ensures.valid);
}

pub returns-clause-exact : goal.returns-clause-exact
returns-clause-exact g c =
    rw c.new.ensures (λ word tells. sym (is_done (with_front (operand_of word c.args.symbols.now c.args.body.now c.args.line.now)) c.args.drafts.now c.loop-draft.draft-index (traversed (operand_of word c.args.symbols.now c.args.body.now c.args.line.now) c.args.drafts.now) c.loop-draft.operands.items (c.loop-draft.invariant.so_far word tells) (omega (arith, c.loop-draft-test.false))) ∙ ends (operand_of word c.args.symbols.now c.args.body.now c.args.line.now) c.loop-draft.operands.items)

pub returns-in_err-operand-clause-placed : goal.returns-in_err-operand-clause-placed
returns-in_err-operand-clause-placed g c =
    let p = err_from_is_err_and c.from_residual.result c.from_residual.ensures.1 in
    rw (p.1, p.2) (λ count own. c.in_err-operand.ensures.placed count own)
