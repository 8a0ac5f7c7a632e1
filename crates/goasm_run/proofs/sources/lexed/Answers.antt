use Rattle.std.proofs.Common.{◌+◌, drop}
use Rattle.std.proofs.lemmas.List.{drop_all}
use Rattle.goasm_run.specs.Sources.{seen}
use Rattle.goasm_run.proofs.AnswerLemmas.{passed_on}
use Rattle.goasm_run.proofs.SourceLemmas.{part_at, lexed_on, lexed_all, lex_stopped}
use Rattle.goasm_run.proofs.sources.lexed.Goals as goal

pub loop-part-preserved : goal.loop-part-preserved
loop-part-preserved c =
    lexed_on c.args.names.now c.args.parts.now (drop c.loop-part.part-index c.args.parts.now)
    (drop (c.loop-part.part-index + 1) c.args.parts.now) c.part-item.result (seen c.loop-part.done) (seen c.add.new.done)
    c.loop-part.invariant
    (part_at c.args.parts.now c.loop-part.part-index c.part-item.result c.loop-part-test.true c.part-item.is)
    c.in_ok-add.ensures.unrefused c.in_ok-add.ensures.tokens c.in_ok-add.ensures.lexed

pub returns-in_err-add-clause-stopped : goal.returns-in_err-add-clause-stopped
returns-in_err-add-clause-stopped c =
    passed_on c.from_residual.result c.in_err-add.field-0.0 _ c.from_residual.ensures.1
    (lex_stopped c.args.names.now c.args.parts.now (drop c.loop-part.part-index c.args.parts.now)
    (drop (c.loop-part.part-index + 1) c.args.parts.now) c.part-item.result (seen c.loop-part.done) c.in_err-add.field-0.0
    c.loop-part.invariant
    (part_at c.args.parts.now c.loop-part.part-index c.part-item.result c.loop-part-test.true c.part-item.is)
    c.in_err-add.ensures.stopped)

pub returns-clause-tokens : goal.returns-clause-tokens
returns-clause-tokens c =
    lexed_all c.args.names.now c.args.parts.now (drop c.loop-part.part-index c.args.parts.now) (seen c.loop-part.done)
    c.loop-part.invariant (drop_all c.loop-part.part-index c.args.parts.now c.loop-part-test.false)
