use Rattle.std.proofs.Common.{rules, pos, ◌++◌, ◌∷◌, [], refl, get_or}
use Rattle.std.specs.Prelude.{nat_abs}
use Rattle.std.specs.Int.RustNames.{FitsSigned}
use Rattle.std.specs.Int.{w32}
use Rattle.image_check.proofs.TableLemmas.{natural_more, negative_there, read_value}
use Rattle.image_check.proofs.tables.are_natural.Goals as goal

pub returns-then-number-lt0 : goal.returns-then-number-lt0
returns-then-number-lt0 c =
    let fits : FitsSigned w32 (get_or c.args.numbers.now c.loop-number.number-index (pos 0)) = search rules in
    let none = negative_there c.args.numbers.now c.loop-number.number-index c.loop-number-test.true fits c.if-number-lt0.true in
    (λ is. search rules, λ are. absurd (none are))

pub loop-number-preserved : goal.loop-number-preserved
loop-number-preserved c =
    let fits : FitsSigned w32 (get_or c.args.numbers.now c.loop-number.number-index (pos 0)) = search rules in
    let known = c.loop-number.invariant in
    let more = known.0 ++ nat_abs (read_value (get_or c.args.numbers.now c.loop-number.number-index (pos 0))) ∷ [] in (
      more,
      natural_more c.args.numbers.now known.0 more c.loop-number.number-index c.loop-number-test.true fits c.if-number-lt0.false
          known.1 refl,
    )
