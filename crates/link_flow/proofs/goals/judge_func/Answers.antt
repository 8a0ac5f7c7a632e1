use Rattle.std.proofs.Common.{◌≡◌, ◌≢◌, ℕ, List, All, false, sym, subst}
use Rattle.std.specs.List.Sorted.{IsNonDecreasing}
use Rattle.asm_target.specs.declared.body.Placed.{Placed}
use Rattle.link_build.specs.declared.link_no.LinkNo.TheVariants as numbers
use Rattle.link_build.specs.Functions.{seen}
use Rattle.link_code.specs.Astray.{IsFirstAstray, is_astray, range_of}
use Rattle.unit_listing.specs.Kit.{kit_of}
use Rattle.link_flow.specs.Refusals.{IsAstray}
use Rattle.link_flow.proofs.AstrayLemmas.{goes_astray, within}
use Rattle.link_flow.proofs.goals.judge_func.Goals as goal

pub find_astray-requires : goal.find_astray-requires
find_astray-requires g c = subst IsNonDecreasing (sym c.as_slice-symbols.ensures.value) c.requires.ordered.symbols

pub returns-in-None-clause-kept : goal.returns-in-None-clause-kept
returns-in-None-clause-kept g c =
    let kit = kit_of g.T.Processor.instructions g.T.Processor.fits g.T.Processor.MACHINE g.T.Processor.QUANTUM g.T.Processor.SHAPE g.T.Target.selection
    g.T.Target.aiming g.T.Target.entry g.T.Target.check g.T.Target.begins in
    let text = range_of c.args.around.now.text in
    subst (λ (symbols : List ℕ). All (λ one. is_astray kit.set text symbols one ≡ false) c.args.code.now.placed.items)
    c.as_slice-symbols.ensures.value
    (subst (λ (code : List (Placed _)). All (λ one. is_astray kit.set text c.as_slice-symbols.result.now one ≡ false) code)
    c.as_slice.ensures.value c.in-None.ensures.none)

pub astray-requires-clause-within : goal.astray-requires-clause-within
astray-requires-clause-within g c =
    let kit = kit_of g.T.Processor.instructions g.T.Processor.fits g.T.Processor.MACHINE g.T.Processor.QUANTUM g.T.Processor.SHAPE g.T.Target.selection
    g.T.Target.aiming g.T.Target.entry g.T.Target.check g.T.Target.begins in
    let text = range_of c.args.around.now.text in
    let first = subst (λ (symbols : List ℕ). IsFirstAstray kit.set text symbols c.args.code.now.placed.items c.in-Some.number)
    c.as_slice-symbols.ensures.value
    (subst (λ (code : List (Placed _)). IsFirstAstray kit.set text c.as_slice-symbols.result.now code c.in-Some.number)
    c.as_slice.ensures.value c.in-Some.ensures.first) in
    within kit c.args.around.now (seen c.args.func.now) c.args.code.now c.requires.placed c.in-Some.number first

pub returns-in-Some-clause-astray : goal.returns-in-Some-clause-astray
returns-in-Some-clause-astray g c = λ no same real.
    let kit = kit_of g.T.Processor.instructions g.T.Processor.fits g.T.Processor.MACHINE g.T.Processor.QUANTUM g.T.Processor.SHAPE g.T.Target.selection
    g.T.Target.aiming g.T.Target.entry g.T.Target.check g.T.Target.begins in
    let text = range_of c.args.around.now.text in
    let first = subst (λ (symbols : List ℕ). IsFirstAstray kit.set text symbols c.args.code.now.placed.items c.in-Some.number)
    c.as_slice-symbols.ensures.value
    (subst (λ (code : List (Placed _)). IsFirstAstray kit.set text c.as_slice-symbols.result.now code c.in-Some.number)
    c.as_slice.ensures.value c.in-Some.ensures.first) in
    let is : c.astray.result ≡ no = cc in
    subst (IsAstray kit c.args.around.now (seen c.args.func.now) c.args.code.now) is
    (goes_astray kit c.args.around.now (seen c.args.func.now) c.args.code.now c.requires.placed c.in-Some.number c.astray.result first
    (c.astray.ensures (subst (λ refusal. refusal ≢ numbers.Memory) (sym is) real)))
