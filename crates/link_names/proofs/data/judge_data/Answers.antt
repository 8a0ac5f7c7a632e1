use Rattle.std.proofs.Common.{◌≡◌, Err, refl, sym, subst, arith, rules}
use Rattle.std.proofs.lemmas.List.Elements.{All-get_or}
use Rattle.std.proofs.lemmas.Option.{slice_get_read}
use Rattle.asm_parse.specs.Valid.{IsValidUnit}
use Rattle.link_names.specs.declared.data_no.DataNo.TheVariants.{N6}
use Rattle.link_names.specs.Data as spec
use Rattle.link_names.proofs.EachLemmas.{none_made, none_more, first_made}
use Rattle.link_names.proofs.data.judge_data.Goals as goal

pub loop-number-init : goal.loop-number-init
loop-number-init c = none_made (spec.unit_misplaced c.args.units.now c.args.names.now) c.args.units.now

pub loop-number-preserved : goal.loop-number-preserved
loop-number-preserved c =
    let number = c.loop-number.number in
    let here = slice_get_read c.args.units.now _ number c.index-units-number.result refl (omega arith) c.index-units-number.is in
    none_more (spec.unit_misplaced c.args.units.now c.args.names.now) c.args.units.now number c.index-units-number.result here c.loop-number.invariant (c.in_ok-judge_unit.ensures.room)

pub returns-in_err-judge_unit-clause-first : goal.returns-in_err-judge_unit-clause-first
returns-in_err-judge_unit-clause-first c = λ name same.
    let number = c.loop-number.number in
    let here = slice_get_read c.args.units.now _ number c.index-units-number.result refl (omega arith) c.index-units-number.is in
    let told = rw same at c.from_residual.ensures.1 in
    let err : Err c.in_err-judge_unit.field-0.0 ≡ Err (N6 name) = search rules in
    first_made (spec.unit_misplaced c.args.units.now c.args.names.now) c.args.units.now number c.index-units-number.result name here c.loop-number.invariant (c.in_err-judge_unit.ensures.first name err)

pub judge_unit-requires : goal.judge_unit-requires
judge_unit-requires c =
    subst IsValidUnit (sym c.index-units-number.is)
    (All-get_or IsValidUnit c.args.units.now c.loop-number.number c.index-units-number.result (omega arith) c.requires.valid)
