use Rattle.std.proofs.Common.{rules, pos, get_or}
use Rattle.std.specs.Int.RustNames.{FitsSigned}
use Rattle.std.specs.Int.{w32}
use Rattle.image_check.proofs.TableLemmas.{natural_more, negative_there}
use Rattle.image_check.proofs.tables.naturals.Goals as goal

pub returns-then-number-lt0-clause-none : goal.returns-then-number-lt0-clause-none
returns-then-number-lt0-clause-none c =
    let fits : FitsSigned w32 (get_or c.args.numbers.now c.loop-number.number-index (pos 0)) = search rules in
    λ _. negative_there c.args.numbers.now c.loop-number.number-index c.loop-number-test.true fits c.if-number-lt0.true

pub loop-number-preserved : goal.loop-number-preserved
loop-number-preserved c =
    let fits : FitsSigned w32 (get_or c.args.numbers.now c.loop-number.number-index (pos 0)) = search rules in
    natural_more c.args.numbers.now c.loop-number.same.items c.push.new.self.items c.loop-number.number-index c.loop-number-test.true fits
    c.if-number-lt0.false c.loop-number.invariant c.in_ok-push.ensures.items
