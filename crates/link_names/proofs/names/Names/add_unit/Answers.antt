use Rattle.std.proofs.Common.{◌≡◌, Err, rules}
use Rattle.link_names.specs.declared.names_no.NamesNo.TheVariants.{N1}
use Rattle.link_names.specs.Definitions.{function_entries, value_entries}
use Rattle.link_names.proofs.AddingLemmas.{adds_more, breaks_later, breaks_front}
use Rattle.link_names.proofs.names.Names.add_unit.Goals as goal

pub returns-in_err-add_functions-clause-twice : goal.returns-in_err-add_functions-clause-twice
returns-in_err-add_functions-clause-twice c = λ name same.
    let unit = c.args.unit.now in
    let told = rw same at c.from_residual.ensures.1 in
    let err : Err c.in_err-add_functions.field-0.0 ≡ Err (N1 name) = search rules in
    let breaks = rw (c.as_slice-symbols.ensures, c.as_slice.ensures) at c.in_err-add_functions.ensures.twice name err in
    breaks_front c.args.self.now (function_entries c.args.number unit.symbols unit.functions) (value_entries c.args.number unit.symbols unit.globals)
    name breaks

pub returns-in_err-add_globals-clause-twice : goal.returns-in_err-add_globals-clause-twice
returns-in_err-add_globals-clause-twice c = λ name same.
    let unit = c.args.unit.now in
    let told = rw same at c.from_residual-in_err-add_globals.ensures.1 in
    let err : Err c.in_err-add_globals.field-0.0 ≡ Err (N1 name) = search rules in
    let adds = rw (c.as_slice-symbols.ensures, c.as_slice.ensures) at c.in_ok-add_functions.ensures.adds in
    let breaks = rw (c.as_slice-symbols.ensures, c.as_slice-2.ensures) at c.in_err-add_globals.ensures.twice name err in
    breaks_later c.args.self.now (function_entries c.args.number unit.symbols unit.functions) c.add_functions.new.self
    (value_entries c.args.number unit.symbols unit.globals) name adds breaks

pub returns-clause-adds : goal.returns-clause-adds
returns-clause-adds c =
    let unit = c.args.unit.now in
    let one = rw (c.as_slice-symbols.ensures, c.as_slice.ensures) at c.in_ok-add_functions.ensures.adds in
    let other = rw (c.as_slice-symbols.ensures, c.as_slice-2.ensures) at c.in_ok-add_globals.ensures.adds in
    adds_more c.args.self.now (function_entries c.args.number unit.symbols unit.functions) c.add_functions.new.self
    (value_entries c.args.number unit.symbols unit.globals) c.add_globals.new.self one other
