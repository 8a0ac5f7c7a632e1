use Rattle.std.proofs.Common.{◌≡◌, ◌+◌, ◌-◌, map, take, drop, length, length-drop, ap, sym, ◌∙◌, arith}
use Rattle.std.proofs.lemmas.List.{drop-drop, take_all}
use Rattle.asm_directive.specs.Statements.{plain}
use Rattle.asm_directive.specs.Views.{statement_of}
use Rattle.asm_directive.proofs.StatementLemmas.{parts_next, parts_end}
use Rattle.asm_directive.proofs.statements.add_parts.Goals as goal

pub parts-preserved : goal.parts-preserved
parts-preserved c =
    let line = c.args.line.now in
    let at = c.parts.at in
    let len = c.part_len-len.result in
    let left : length (drop at line) ≡ length line - at = length-drop at line in
    let own : (at + len) - at ≡ len = omega arith in
    let same : take (length line - at) (drop at line) ≡ drop at line = take_all (length line - at) (drop at line) (omega (arith, left)) in
    let within = rw same at c.part_len-len.ensures.within in
    let front = rw same at c.part_len-len.ensures.front in
    let behind = rw same at c.part_len-len.ensures.behind in
    record {
      within = omega (arith, left, within, c.parts.invariant.within);
      parts = parts_next c.parts.statements.items c.push.new.self.items _ (drop at line) (drop (at + len) line) _
          (omega (arith, left, c.parts-test.true)) c.in_ok-push.ensures.items
          (ap plain (rw own front)) (sym (drop-drop len at line) ∙ behind)
          c.parts.invariant.parts;
    }

pub returns : goal.returns
returns c =
    let left : length (drop c.parts.at c.args.line.now) ≡ length c.args.line.now - c.parts.at = length-drop c.parts.at c.args.line.now in
    parts_end (map statement_of c.parts.statements.items) (drop c.parts.at c.args.line.now) _
    (omega (arith, left, c.parts-test.false)) c.parts.invariant.parts
