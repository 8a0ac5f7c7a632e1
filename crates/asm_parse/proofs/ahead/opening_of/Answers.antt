use Rattle.std.proofs.Common.{◌≡◌, sym, ap, ◌∙◌}
use Rattle.asm_parse.specs.Ahead.{after_labels, opening_at}
use Rattle.asm_parse.proofs.AheadLemmas.{eaten, left, opening_aside, opening_word, opening_other}
use Rattle.asm_parse.proofs.ahead.opening_of.Goals as goal

pub loop-preserved : goal.loop-preserved
loop-preserved c = sym (eaten c.loop.reader c.eat_label.new.self c.in-Some.field-0 c.in-Some.ensures.0) ∙ c.loop.invariant

pub returns-then-is_ended : goal.returns-then-is_ended
returns-then-is_ended c =
    let same = c.in-None.ensures.1 in
    let none : after_labels c.eat_label.new.self.rest ≡ c.eat_label.new.self.rest = rw same (left c.loop.reader c.eat_label.new.self c.in-None.ensures.0) in
    let so_far : after_labels c.eat_label.new.self.rest ≡ after_labels c.args.tokens.now = rw same c.loop.invariant in
    opening_aside c.eat_label.new.self.rest c.args.tokens.now so_far none (sym c.is_ended.ensures ∙ c.if-is_ended.true)

pub returns-in-Some-eat_word : goal.returns-in-Some-eat_word
returns-in-Some-eat_word c =
    let same = c.in-None.ensures.1 in
    let none : after_labels c.eat_label.new.self.rest ≡ c.eat_label.new.self.rest = rw same (left c.loop.reader c.eat_label.new.self c.in-None.ensures.0) in
    let so_far : after_labels c.eat_label.new.self.rest ≡ after_labels c.args.tokens.now = rw same c.loop.invariant in
    c.opening_at.ensures ∙ ap opening_at c.as_slice.ensures ∙ opening_word c.eat_label.new.self c.eat_word.new.self c.args.tokens.now c.in-Some-eat_word.word c.in-Some-eat_word.ensures.0 so_far none

pub returns-in-None-eat_word : goal.returns-in-None-eat_word
returns-in-None-eat_word c =
    let same = c.in-None.ensures.1 in
    let none : after_labels c.eat_label.new.self.rest ≡ c.eat_label.new.self.rest = rw same (left c.loop.reader c.eat_label.new.self c.in-None.ensures.0) in
    let so_far : after_labels c.eat_label.new.self.rest ≡ after_labels c.args.tokens.now = rw same c.loop.invariant in
    opening_other c.eat_label.new.self c.eat_word.new.self c.args.tokens.now (sym c.is_ended.ensures ∙ c.if-is_ended.false) c.in-None-eat_word.ensures.0 so_far none
