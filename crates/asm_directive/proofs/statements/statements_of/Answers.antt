use Rattle.std.proofs.Common.{◌≡◌, ◌+◌, ◌-◌, map, take, drop, length, length-drop, sym, ◌∙◌, arith}
use Rattle.std.proofs.lemmas.List.{drop-drop, take_all}
use Rattle.asm_directive.specs.Views.{statement_of}
use Rattle.asm_directive.proofs.StatementLemmas.{lines_next, lines_end}
use Rattle.asm_directive.proofs.statements.statements_of.Goals as goal

pub lines-preserved : goal.lines-preserved
lines-preserved c =
    let tokens = c.args.tokens.now in
    let at = c.lines.at in
    let len = c.line_len-len.result in
    let left : length (drop at tokens) ≡ length tokens - at = length-drop at tokens in
    let own : (at + len) - at ≡ len = omega arith in
    let same : take (length tokens - at) (drop at tokens) ≡ drop at tokens = take_all (length tokens - at) (drop at tokens) (omega (arith, left)) in
    let within = rw same at c.line_len-len.ensures.within in
    let front = rw same at c.line_len-len.ensures.front in
    let behind = rw same at c.line_len-len.ensures.behind in
    record {
      within = omega (arith, left, within, c.lines.invariant.within);
      lines = lines_next (map statement_of c.lines.statements.items) (map statement_of c.add_line.new.statements.items) _
          (drop at tokens) (drop (at + len) tokens) _ (omega (arith, left, c.lines-test.true)) c.in_ok-add_line.ensures
          (rw own front) (sym (drop-drop len at tokens) ∙ behind)
          c.lines.invariant.lines;
    }

pub returns : goal.returns
returns c =
    let left : length (drop c.lines.at c.args.tokens.now) ≡ length c.args.tokens.now - c.lines.at = length-drop c.lines.at c.args.tokens.now in
    lines_end (map statement_of c.lines.statements.items) (drop c.lines.at c.args.tokens.now) _
    (omega (arith, left, c.lines-test.false)) c.lines.invariant.lines
