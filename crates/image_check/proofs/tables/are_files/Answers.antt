use Rattle.std.proofs.Common.{All, rules, pos, get_or, subst}
use Rattle.std.specs.Int.RustNames.{FitsSigned}
use Rattle.std.specs.Int.{w32}
use Rattle.std.proofs.lemmas.Int.{to_z-of_z}
use Rattle.std.proofs.lemmas.List.{take_all}
use Rattle.std.proofs.lemmas.List.Elements.{All-more}
use Rattle.image_check.specs.Tables.{IsFile}
use Rattle.image_check.proofs.tables.are_files.Goals as goal

pub loop-number-preserved : goal.loop-number-preserved
loop-number-preserved c =
    let value = get_or c.args.numbers.now c.loop-number.number-index (pos 0) in
    let fits : FitsSigned w32 value = search rules in
    let is : IsFile c.args.table.now c.args.index value
    = subst (IsFile c.args.table.now c.args.index) (to_z-of_z w32 value fits) (c.if-not-has_file.ensures.0 (search rules)) in
    All-more (IsFile c.args.table.now c.args.index) c.args.numbers.now c.loop-number.number-index (pos 0) c.loop-number-test.true
    c.loop-number.invariant is

pub returns : goal.returns
returns c =
    let all : All (IsFile c.args.table.now c.args.index) c.args.numbers.now
    = subst (All (IsFile c.args.table.now c.args.index))
    (take_all c.loop-number.number-index c.args.numbers.now c.loop-number-test.false) c.loop-number.invariant in
    (λ _. all, λ _. search rules)
