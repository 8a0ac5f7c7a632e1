use Rattle.std.proofs.Common.{◌≡◌, ◌<◌, length, map, get_or, arith}
use Rattle.std.proofs.lemmas.List.{get_or_default, length-map}
use Rattle.link_values.specs.declared.kept.KeptValue.{KeptValue}
use Rattle.link_parts.specs.Symbols.{value_thing}
use Rattle.link_parts.proofs.DefinedLemmas.{all_made, one_made, thing_here}
use Rattle.link_parts.proofs.defined.defined_values.Goals as goal

-- what is read of no place
nothing : KeptValue
nothing = record { unit = 0; number = 0; size = 0 }

pub loop-number-preserved : goal.loop-number-preserved
unfolding nothing
loop-number-preserved c =
    let kept = c.args.kept.now in
    let units = c.args.units.now in
    let number = c.loop-number.number in
    let value : KeptValue = get_or kept number nothing in
    let many : length (map (value_thing units) kept) ≡ length kept = length-map kept (value_thing units) in
    let inside : number < length kept = omega arith in
    one_made 1 c.args.from (map (value_thing units) kept) c.args.at.now number c.loop-number.defined.items c.push.new.self.items
    c.defined_value.result (value_thing units value) c.loop-number.invariant (omega (arith, many, inside))
    (omega (arith, inside, c.requires.places.as_many))
    (thing_here (value_thing units) kept number value inside (get_or_default kept number nothing value inside))
    c.defined_value.ensures.symbol c.defined_value.ensures.name c.in_ok-push.ensures.items

pub returns-clause-symbols : goal.returns-clause-symbols
returns-clause-symbols c =
    let kept = c.args.kept.now in
    let units = c.args.units.now in
    let many : length (map (value_thing units) kept) ≡ length kept = length-map kept (value_thing units) in
    all_made 1 c.args.from (map (value_thing units) kept) c.args.at.now c.loop-number.number c.loop-number.defined.items
    c.loop-number.defined.items c.loop-number.invariant (omega (arith, many))
