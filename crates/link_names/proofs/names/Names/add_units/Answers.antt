use Rattle.std.proofs.Common.{◌≡◌, Err, refl, sym, subst, arith, rules}
use Rattle.std.proofs.lemmas.Option.{slice_get_read}
use Rattle.std.proofs.lemmas.List.Elements.{All-get_or}
use Rattle.asm_parse.specs.Valid.{IsValidUnit}
use Rattle.link_names.specs.declared.names_no.NamesNo.TheVariants.{N1}
use Rattle.link_names.specs.Definitions as spec
use Rattle.link_names.proofs.EachLemmas.{added_none, added_more, broken}
use Rattle.link_names.proofs.names.Names.add_units.Goals as goal

pub loop-number-init : goal.loop-number-init
loop-number-init c = added_none (spec.unit_entries) c.args.units.now c.args.self.now

pub loop-number-preserved : goal.loop-number-preserved
loop-number-preserved c =
    let number = c.loop-number.number in
    let here = slice_get_read c.args.units.now _ number c.index-units-number.result refl (omega arith) c.index-units-number.is in
    added_more (spec.unit_entries) c.args.units.now c.args.self.now number c.index-units-number.result c.loop-number.self c.add_unit.new.self here c.loop-number.invariant
    c.in_ok-add_unit.ensures.adds

pub returns-in_err-add_unit-clause-twice : goal.returns-in_err-add_unit-clause-twice
returns-in_err-add_unit-clause-twice c = λ name same.
    let number = c.loop-number.number in
    let here = slice_get_read c.args.units.now _ number c.index-units-number.result refl (omega arith) c.index-units-number.is in
    let told = rw same at c.from_residual.ensures.1 in
    let err : Err c.in_err-add_unit.field-0.0 ≡ Err (N1 name) = search rules in
    broken (spec.unit_entries) c.args.units.now c.args.self.now number c.index-units-number.result c.loop-number.self name here c.loop-number.invariant
    (c.in_err-add_unit.ensures.twice name err)

pub add_unit-requires : goal.add_unit-requires
add_unit-requires c =
    subst IsValidUnit (sym c.index-units-number.is)
    (All-get_or IsValidUnit c.args.units.now c.loop-number.number c.index-units-number.result (omega arith) c.requires)
