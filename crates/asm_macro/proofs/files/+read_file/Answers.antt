use Rattle.std.proofs.Common.{sym, ap, ◌∙◌, arith}
use Rattle.std.proofs.lemmas.Result.{err_from_is_err_and}
use Rattle.asm_macro.specs.Views.{entered_of}
use Rattle.asm_macro.proofs.FileLemmas.{file_begins, file_next, file_entered, file_refused, file_refused_below, file_ends, next_below, next_none}
use Rattle.asm_macro.proofs.files.+read_file.Goals as goal
use Rattle.asm_macro.proofs.files.+read_file.Goals.{in-Some+then-levels-gt0+in_ok-read_file, in-Some+else-levels-gt0, in_default}

pub loop-statement-init : goal.loop-statement-init
loop-statement-init t c =
    file_begins c.args.levels _ c.args.tokens.now c.deref-statement-items.result.now c.in_ok-statements.statements.items c.new.result.items _
    c.deref-statement-items.ensures.value c.in_ok-statements.ensures c.new.ensures.items

pub returns-in_err-entered-clause-err : goal.returns-in_err-entered-clause-err
returns-in_err-entered-clause-err t c =
    let fault = err_from_is_err_and c.from_residual-in_err-entered.result c.from_residual-in_err-entered.ensures.1 in
    rw (fault.1, fault.2)
    (λ is. sym c.loop-statement.invariant
    ∙ file_refused c.args.levels _ c.deref-statement-items.result.now c.loop-statement.statement-index _ _ c.statement-item.result _
    c.loop-statement-test.true c.statement-item.is (c.in_err-entered.ensures.err is))

pub returns-in_err-read_file-clause-err : goal.returns-in_err-read_file-clause-err
returns-in_err-read_file-clause-err t c =
    let fault = err_from_is_err_and c.from_residual-in_err-read_file.result c.from_residual-in_err-read_file.ensures.1 in
    rw (fault.1, fault.2)
    (λ is. sym c.loop-statement.invariant
    ∙ file_refused_below c.args.levels _ c.deref-statement-items.result.now c.loop-statement.statement-index _ _ c.statement-item.result _ _ _
    c.loop-statement-test.true c.statement-item.is c.in_ok-entered.ensures.ok (ap entered_of c.in-Some.is)
    (next_below c.args.levels _ _ _ c.if-levels-gt0.true ∙ c.in_err-read_file.ensures.err is))

pub loop-statement-preserved : goal.loop-statement-preserved
loop-statement-preserved t c =
    elim c.match-entered.branch [
      | in-Some+then-levels-gt0+in_ok-read_file w ↦
          rw w.progress-is
          (sym (file_entered c.args.levels _ c.deref-statement-items.result.now c.loop-statement.statement-index _ _ c.statement-item.result _ _ _
          c.loop-statement-test.true c.statement-item.is c.in_ok-entered.ensures.ok (ap entered_of w.in-Some.is)
          (next_below c.args.levels _ _ _ w.if-levels-gt0.true ∙ w.in_ok-read_file.ensures.ok))
          ∙ c.loop-statement.invariant)
      | in-Some+else-levels-gt0 w ↦
          rw w.progress-is
          (sym (file_entered c.args.levels _ c.deref-statement-items.result.now c.loop-statement.statement-index _ _ c.statement-item.result _ _ _
          c.loop-statement-test.true c.statement-item.is c.in_ok-entered.ensures.ok (ap entered_of w.in-Some.is)
          (next_none c.args.levels _ _ _ (omega (arith, w.if-levels-gt0.false))))
          ∙ c.loop-statement.invariant)
      | in_default w ↦
          rw w.progress-is
          (sym (file_next c.args.levels _ c.deref-statement-items.result.now c.loop-statement.statement-index _ _ c.statement-item.result _
          c.loop-statement-test.true c.statement-item.is c.in_ok-entered.ensures.ok (ap entered_of w.in_default.is))
          ∙ c.loop-statement.invariant)
    ]

pub returns-clause-ok : goal.returns-clause-ok
returns-clause-ok t c =
    sym c.loop-statement.invariant
    ∙ file_ends c.args.levels _ c.deref-statement-items.result.now c.loop-statement.statement-index _ _ c.loop-statement-test.false
    ∙ c.in_ok-end_file.ensures.ok _

pub returns-in_err-end_file-clause-err : goal.returns-in_err-end_file-clause-err
returns-in_err-end_file-clause-err t c =
    let fault = err_from_is_err_and c.from_residual-in_err-end_file.result c.from_residual-in_err-end_file.ensures.1 in
    rw (fault.1, fault.2)
    (λ is. sym c.loop-statement.invariant
    ∙ file_ends c.args.levels _ c.deref-statement-items.result.now c.loop-statement.statement-index _ _ c.loop-statement-test.false
    ∙ c.in_err-end_file.ensures.err is _)
