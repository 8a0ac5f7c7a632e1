use Rattle.std.proofs.Common.{◌≡◌, [], ◌∷◌, Err, refl, arith, rules}
use Rattle.std.proofs.lemmas.Option.{slice_get_read}
use Rattle.link_names.specs.declared.names_no.NamesNo.TheVariants.{N1}
use Rattle.link_names.specs.Definitions as spec
use Rattle.link_names.proofs.EachLemmas.{added_none, added_more, broken}
use Rattle.link_names.proofs.names.Names.add_outside.Goals as goal

pub loop-number-init : goal.loop-number-init
loop-number-init c = added_none (λ number item. spec.outside_entry number item ∷ []) c.args.outside.now c.args.self.now

pub loop-number-preserved : goal.loop-number-preserved
loop-number-preserved c =
    let number = c.loop-number.number in
    let here = slice_get_read c.args.outside.now _ number c.index-outside-number.result refl (omega arith) c.index-outside-number.is in
    added_more (λ number item. spec.outside_entry number item ∷ []) c.args.outside.now c.args.self.now number c.index-outside-number.result c.loop-number.self c.add_outside_name.new.self here c.loop-number.invariant
    c.in_ok-add_outside_name.ensures.adds

pub returns-in_err-add_outside_name-clause-twice : goal.returns-in_err-add_outside_name-clause-twice
returns-in_err-add_outside_name-clause-twice c = λ name same.
    let number = c.loop-number.number in
    let here = slice_get_read c.args.outside.now _ number c.index-outside-number.result refl (omega arith) c.index-outside-number.is in
    let told = rw same at c.from_residual.ensures.1 in
    let err : Err c.in_err-add_outside_name.field-0.0 ≡ Err (N1 name) = search rules in
    broken (λ number item. spec.outside_entry number item ∷ []) c.args.outside.now c.args.self.now number c.index-outside-number.result c.loop-number.self name here c.loop-number.invariant
    (c.in_err-add_outside_name.ensures.twice name err)
