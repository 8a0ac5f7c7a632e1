use Rattle.std.proofs.Common.{◌≡◌, Err, refl, sym, subst, arith, rules}
use Rattle.std.proofs.lemmas.List.Elements.{All-get_or}
use Rattle.std.proofs.lemmas.Option.{slice_get_read}
use Rattle.link_names.specs.declared.symbol_no.SymbolNo.TheVariants.{N2}
use Rattle.link_names.proofs.EachLemmas.{none_made, none_more, first_made}
use Rattle.link_functions.specs.Code.{IsValidCode}
use Rattle.link_functions.specs.References.{code_undefined}
use Rattle.link_functions.proofs.references.judge_references.Goals as goal

pub loop-number-init : goal.loop-number-init
loop-number-init g c = none_made (code_undefined c.args.names.now) c.args.code.now

pub loop-number-preserved : goal.loop-number-preserved
loop-number-preserved g c =
    let number = c.loop-number.number in
    let here = slice_get_read c.args.code.now _ number c.index-code-number.result refl (omega arith) c.index-code-number.is in
    none_more (code_undefined c.args.names.now) c.args.code.now number c.index-code-number.result here c.loop-number.invariant
    c.in_ok-judge_unit.ensures.defined

pub returns-in_err-judge_unit-clause-first : goal.returns-in_err-judge_unit-clause-first
returns-in_err-judge_unit-clause-first g c = λ name same.
    let number = c.loop-number.number in
    let here = slice_get_read c.args.code.now _ number c.index-code-number.result refl (omega arith) c.index-code-number.is in
    let told = rw same at c.from_residual.ensures.1 in
    let err : Err c.in_err-judge_unit.field-0.0 ≡ Err (N2 name) = search rules in
    first_made (code_undefined c.args.names.now) c.args.code.now number c.index-code-number.result name here c.loop-number.invariant
    (c.in_err-judge_unit.ensures.first name err)

pub judge_unit-requires-clause-valid : goal.judge_unit-requires-clause-valid
judge_unit-requires-clause-valid g c =
    subst IsValidCode (sym c.index-code-number.is)
    (All-get_or IsValidCode c.args.code.now c.loop-number.number c.index-code-number.result (omega arith) c.requires.valid)
