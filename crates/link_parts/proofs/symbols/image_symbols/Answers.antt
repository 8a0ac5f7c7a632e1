use Rattle.std.proofs.Common.{◌<◌, ◌≤◌, ◌^◌, List, map, sym, subst, ◌∙◌}
use Rattle.elf_image.specs.declared.parts.SymbolPart.{SymbolPart}
use Rattle.elf_image.specs.Layout.{image_length}
use Rattle.link_build.specs.Functions.{seen}
use Rattle.link_parts.specs.Image.{sizes_with}
use Rattle.link_parts.specs.Symbols.{AreSymbols, function_symbols}
use Rattle.link_parts.proofs.LengthLemmas.{over}
use Rattle.link_parts.proofs.SymbolLemmas.{are_of, are_planned, functions_rise, planned_are}
use Rattle.link_parts.proofs.symbols.image_symbols.Goals as goal

pub returns-then-not-is_short-clause-none : goal.returns-then-not-is_short-clause-none
returns-then-not-is_short-clause-none g c =
    let build = c.args.build.now in
    let funcs = map seen c.args.funcs.now in
    let plan = c.args.plan.now in
    let are =
    are_of build funcs plan c.args.values_at c.as_slice-units.result.now c.as_slice-kept.result.now c.as_slice.result.now c.as_slice-2.result.now
    c.in_ok-functions.functions.items c.in_ok-values.values.items c.deref.result.now c.deref-2.result.now c.as_slice-units.ensures
    c.as_slice-kept.ensures.value c.as_slice.ensures c.as_slice-2.ensures c.deref.ensures.value c.deref-2.ensures.value
    c.in_ok-functions.ensures.symbols c.in_ok-values.ensures.symbols in
    subst (λ (symbols : List SymbolPart). 2 ^ 26 < image_length (sizes_with c.args.text c.args.table plan.values.end symbols))
    (planned_are build funcs plan c.args.values_at c.deref.result.now c.deref-2.result.now are c.as_slice-outside.result.now c.as_slice-outside.ensures)
    (over c.is_short.result _ (2 ^ 26) c.if-not-is_short.true c.is_short.ensures.1)

pub symbols_of-requires-clause-rising : goal.symbols_of-requires-clause-rising
symbols_of-requires-clause-rising g c =
    let build = c.args.build.now in
    let funcs = map seen c.args.funcs.now in
    let plan = c.args.plan.now in
    let are =
    are_of build funcs plan c.args.values_at c.as_slice-units.result.now c.as_slice-kept.result.now c.as_slice.result.now c.as_slice-2.result.now
    c.in_ok-functions.functions.items c.in_ok-values.values.items c.deref-3.result.now c.deref-4.result.now c.as_slice-units.ensures
    c.as_slice-kept.ensures.value c.as_slice.ensures c.as_slice-2.ensures c.deref-3.ensures.value c.deref-4.ensures.value
    c.in_ok-functions.ensures.symbols c.in_ok-values.ensures.symbols in
    functions_rise build funcs plan c.args.values_at c.deref-3.result.now c.deref-4.result.now are c.requires.listable

pub returns-clause-listed : goal.returns-clause-listed
returns-clause-listed g c =
    let build = c.args.build.now in
    let funcs = map seen c.args.funcs.now in
    let plan = c.args.plan.now in
    let are =
    are_of build funcs plan c.args.values_at c.as_slice-units.result.now c.as_slice-kept.result.now c.as_slice.result.now c.as_slice-2.result.now
    c.in_ok-functions.functions.items c.in_ok-values.values.items c.deref-3.result.now c.deref-4.result.now c.as_slice-units.ensures
    c.as_slice-kept.ensures.value c.as_slice.ensures c.as_slice-2.ensures c.deref-3.ensures.value c.deref-4.ensures.value
    c.in_ok-functions.ensures.symbols c.in_ok-values.ensures.symbols in
    c.new.ensures ∙ c.in_ok-symbols.ensures.symbols
    ∙ planned_are build funcs plan c.args.values_at c.deref-3.result.now c.deref-4.result.now are c.as_slice-outside.result.now c.as_slice-outside.ensures

pub returns-clause-symbols : goal.returns-clause-symbols
returns-clause-symbols g c =
    let build = c.args.build.now in
    let funcs = map seen c.args.funcs.now in
    let plan = c.args.plan.now in
    let are =
    are_of build funcs plan c.args.values_at c.as_slice-units.result.now c.as_slice-kept.result.now c.as_slice.result.now c.as_slice-2.result.now
    c.in_ok-functions.functions.items c.in_ok-values.values.items c.deref-3.result.now c.deref-4.result.now c.as_slice-units.ensures
    c.as_slice-kept.ensures.value c.as_slice.ensures c.as_slice-2.ensures c.deref-3.ensures.value c.deref-4.ensures.value
    c.in_ok-functions.ensures.symbols c.in_ok-values.ensures.symbols in
    subst (AreSymbols (function_symbols funcs plan.functions.at) build.outside) (sym c.new.ensures)
    (are_planned build funcs plan c.args.values_at c.deref-3.result.now c.deref-4.result.now are c.in_ok-symbols.symbols.items
    c.as_slice-outside.result.now c.as_slice-outside.ensures c.in_ok-symbols.ensures.parts c.in_ok-symbols.ensures.order
    c.in_ok-symbols.ensures.outside c.in_ok-symbols.ensures.entry)

pub returns-clause-short : goal.returns-clause-short
returns-clause-short g c =
    let build = c.args.build.now in
    let funcs = map seen c.args.funcs.now in
    let plan = c.args.plan.now in
    let are =
    are_of build funcs plan c.args.values_at c.as_slice-units.result.now c.as_slice-kept.result.now c.as_slice.result.now c.as_slice-2.result.now
    c.in_ok-functions.functions.items c.in_ok-values.values.items c.deref.result.now c.deref-2.result.now c.as_slice-units.ensures
    c.as_slice-kept.ensures.value c.as_slice.ensures c.as_slice-2.ensures c.deref.ensures.value c.deref-2.ensures.value
    c.in_ok-functions.ensures.symbols c.in_ok-values.ensures.symbols in
    subst (λ (symbols : List SymbolPart). image_length (sizes_with c.args.text c.args.table plan.values.end symbols) ≤ 2 ^ 26)
    (planned_are build funcs plan c.args.values_at c.deref.result.now c.deref-2.result.now are c.as_slice-outside.result.now c.as_slice-outside.ensures)
    (c.is_short.ensures.0 c.if-not-is_short.false)
