use Rattle.std.proofs.Common.{◌≡◌, [], ◌∷◌, get_or, Err, arith, rules}
use Rattle.std.proofs.lemmas.Option.{slice_get-get_or}
use Rattle.asm_parse.specs.declared.unit.GlobalPart.{GlobalPart}
use Rattle.link_names.specs.declared.names_no.NamesNo.TheVariants.{N1}
use Rattle.link_names.specs.Definitions as spec
use Rattle.link_names.proofs.EachLemmas.{added_none, added_more, broken}
use Rattle.link_names.proofs.names.Names.add_globals.Goals as goal

-- what is read of no place
nothing : GlobalPart
nothing = record { sym = 0; flags = 0; size = 0; pos = record { file = 0; line = 0 } }

pub loop-number-init : goal.loop-number-init
loop-number-init c = added_none (λ number item. spec.value_entry c.args.unit c.args.symbols.now number item ∷ []) c.args.globals.now c.args.self.now

pub loop-number-preserved : goal.loop-number-preserved
unfolding nothing
loop-number-preserved c =
    let number = c.loop-number.number in
    let item : GlobalPart = get_or c.args.globals.now number nothing in
    added_more (λ number item. spec.value_entry c.args.unit c.args.symbols.now number item ∷ []) c.args.globals.now c.args.self.now number
    item c.loop-number.self c.add_global.new.self (slice_get-get_or c.args.globals.now number nothing (omega arith)) c.loop-number.invariant
    c.in_ok-add_global.ensures.adds

pub returns-in_err-add_global-clause-twice : goal.returns-in_err-add_global-clause-twice
unfolding nothing
returns-in_err-add_global-clause-twice c = λ name same.
    let number = c.loop-number.number in
    let item : GlobalPart = get_or c.args.globals.now number nothing in
    let told = rw same at c.from_residual.ensures.1 in
    let err : Err c.in_err-add_global.field-0.0 ≡ Err (N1 name) = search rules in
    broken (λ number item. spec.value_entry c.args.unit c.args.symbols.now number item ∷ []) c.args.globals.now c.args.self.now number
    item c.loop-number.self name (slice_get-get_or c.args.globals.now number nothing (omega arith)) c.loop-number.invariant
    (c.in_err-add_global.ensures.twice name err)
