use Rattle.std.proofs.Common.{◌≡◌, ◌+◌, ◌-◌, Some, None, length, length-drop, take, drop, refl, sym, ◌∙◌, arith}
use Rattle.std.specs.Prelude.{position}
use Rattle.std.proofs.lemmas.List.{take_all}
use Rattle.asm_parse.specs.Parse.{is_end}
use Rattle.asm_parse.proofs.CutLemmas.{statement_more, statement_last, statement_within}
use Rattle.asm_parse.proofs.unread.statements_in.Goals as goal

pub statements-preserved : goal.statements-preserved
statements-preserved c =
    let tokens = c.args.tokens.now in
    let from = c.statements.from in
    let len = c.in-Some.len in
    let left : length (drop from tokens) ≡ length tokens - from = length-drop from tokens in
    let same : take (length tokens - from) (drop from tokens) ≡ drop from tokens = take_all (length tokens - from) (drop from tokens) (omega (arith, left)) in
    let found : position is_end (drop from tokens) ≡ Some len = rw same at (sym c.first_end.ensures ∙ c.in-Some.is) in
    let own : (from + len) - from ≡ len = omega arith in
    record {
      within = statement_within tokens from len c.statements.invariant.within found;
      cut = statement_more c.statements.all.items c.push.new.self.items _ tokens from len _ found (rw own refl)
          c.in_ok-push.ensures.items c.statements.invariant.cut;
    }

pub returns : goal.returns
returns c =
    let tokens = c.args.tokens.now in
    let from = c.statements.from in
    let left : length (drop from tokens) ≡ length tokens - from = length-drop from tokens in
    let same : take (length tokens - from) (drop from tokens) ≡ drop from tokens = take_all (length tokens - from) (drop from tokens) (omega (arith, left)) in
    let none : position is_end (drop from tokens) ≡ None = rw same at (sym c.first_end.ensures ∙ c.in_default.is) in
    statement_last c.statements.all.items c.push-2.new.self.items _ tokens from _ none same c.in_ok-push-2.ensures.items
    c.statements.invariant.cut
