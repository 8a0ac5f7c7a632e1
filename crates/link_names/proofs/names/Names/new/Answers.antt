use Rattle.std.proofs.Common.{◌≡◌, ◌++◌, Err, rules}
use Rattle.link_names.specs.declared.names_no.NamesNo.TheVariants.{N1}
use Rattle.link_names.specs.Definitions.{each, unit_entries, outside_entries}
use Rattle.link_names.proofs.AddingLemmas.{breaks_later, breaks_front, kept_all, twice_all}
use Rattle.link_names.proofs.names.Names.new.Goals as goal

pub returns-in_err-add_units-clause-twice : goal.returns-in_err-add_units-clause-twice
returns-in_err-add_units-clause-twice c = λ name same.
    let units = each unit_entries c.args.units.now in
    let outside = outside_entries c.args.outside.now in
    let told = rw same at c.from_residual.ensures.1 in
    let err : Err c.in_err-add_units.field-0.0 ≡ Err (N1 name) = search rules in
    let breaks = rw c.empty-names.ensures at c.in_err-add_units.ensures.twice name err in
    twice_all (units ++ outside) name (breaks_front _ units outside name breaks)

pub returns-in_err-add_outside-clause-twice : goal.returns-in_err-add_outside-clause-twice
returns-in_err-add_outside-clause-twice c = λ name same.
    let units = each unit_entries c.args.units.now in
    let outside = outside_entries c.args.outside.now in
    let told = rw same at c.from_residual-in_err-add_outside.ensures.1 in
    let err : Err c.in_err-add_outside.field-0.0 ≡ Err (N1 name) = search rules in
    let adds = rw c.empty-names.ensures at c.in_ok-add_units.ensures.adds in
    twice_all (units ++ outside) name
    (breaks_later _ units c.add_units.new.self outside name adds (c.in_err-add_outside.ensures.twice name err))

pub returns-clause-allowed : goal.returns-clause-allowed
returns-clause-allowed c =
    let adds = rw c.empty-names.ensures at c.in_ok-add_units.ensures.adds in
    (kept_all (each unit_entries c.args.units.now) (outside_entries c.args.outside.now) c.add_units.new.self c.add_outside.new.self adds
    c.in_ok-add_outside.ensures.adds).0

pub returns-clause-means : goal.returns-clause-means
returns-clause-means c =
    let adds = rw c.empty-names.ensures at c.in_ok-add_units.ensures.adds in
    (kept_all (each unit_entries c.args.units.now) (outside_entries c.args.outside.now) c.add_units.new.self c.add_outside.new.self adds
    c.in_ok-add_outside.ensures.adds).1
