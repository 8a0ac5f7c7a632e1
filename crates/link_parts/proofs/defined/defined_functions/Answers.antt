use Rattle.std.proofs.Common.{◌≡◌, ◌<◌, length, map, sym, subst, arith}
use Rattle.std.proofs.lemmas.List.{length-map}
use Rattle.std.proofs.lemmas.List.Elements.{All-get_or}
use Rattle.link_build.specs.Functions.{seen}
use Rattle.link_parts.specs.Planned.{HasSymbol}
use Rattle.link_parts.specs.Symbols.{function_thing}
use Rattle.link_parts.proofs.DefinedLemmas.{all_made, one_made, seen_here, thing_here}
use Rattle.link_plan.specs.Addresses.{text_address}
use Rattle.link_parts.proofs.defined.defined_functions.Goals as goal

pub defined_function-requires : goal.defined_function-requires
defined_function-requires g c =
    let funcs = c.args.funcs.now in
    let number = c.loop-number.number in
    let func = c.index-funcs-number.result in
    let within : number < length (map seen funcs) = omega (arith, length-map funcs (seen {Instr = g.row.I.Denot})) in
    subst HasSymbol (sym (seen_here seen funcs number func (omega arith) c.index-funcs-number.is))
    (All-get_or HasSymbol (map seen funcs) number (seen func) within c.requires.symbols)

pub loop-number-preserved : goal.loop-number-preserved
loop-number-preserved g c =
    let funcs = c.args.funcs.now in
    let at = c.args.at.now in
    let number = c.loop-number.number in
    let func = c.index-funcs-number.result in
    let all = map seen funcs in
    let many : length all ≡ length funcs = length-map funcs (seen {Instr = g.row.I.Denot}) in
    let things : length (map function_thing all) ≡ length all = length-map all (function_thing {Instr = g.row.I.Denot}) in
    let inside : number < length funcs = omega arith in
    one_made 0 text_address (map function_thing all) at number c.loop-number.defined.items c.push.new.self.items c.defined_function.result
    (function_thing (seen func)) c.loop-number.invariant (omega (arith, things, many, inside)) (omega (arith, inside, c.requires.places.as_many))
    (thing_here function_thing all number (seen func) (omega (arith, many, inside)) (seen_here seen funcs number func inside c.index-funcs-number.is))
    c.defined_function.ensures.symbol c.defined_function.ensures.name c.in_ok-push.ensures.items

pub returns-clause-symbols : goal.returns-clause-symbols
returns-clause-symbols g c =
    let funcs = c.args.funcs.now in
    let all = map seen funcs in
    let many : length all ≡ length funcs = length-map funcs (seen {Instr = g.row.I.Denot}) in
    let things : length (map function_thing all) ≡ length all = length-map all (function_thing {Instr = g.row.I.Denot}) in
    all_made 0 text_address (map function_thing all) c.args.at.now c.loop-number.number c.loop-number.defined.items c.loop-number.defined.items
    c.loop-number.invariant (omega (arith, things, many))
