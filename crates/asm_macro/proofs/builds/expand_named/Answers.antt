use Rattle.asm_macro.proofs.OutcomeLemmas.{ok_then, err_then, outcome_done, outcome_refused}
use Rattle.asm_macro.proofs.PlaceLemmas.{formed_results, placed_results, results_of, refusal_of}
use Rattle.asm_macro.proofs.builds.expand_named.Goals as goal

pub returns-clause-expanded : goal.returns-clause-expanded
returns-clause-expanded c =
    ok_then _ _ c.expand_over.result (λ all is. outcome_done c.args.sources.now c.args.includes.now c.args.defines.now all.items is) c.expand_over.ensures.ok

pub returns-clause-refused : goal.returns-clause-refused
returns-clause-refused c =
    err_then _ _ c.expand_over.result (λ no is fault. outcome_refused c.args.sources.now c.args.includes.now c.args.defines.now no (is fault)) c.expand_over.ensures.err

pub returns-clause-form : goal.returns-clause-form
returns-clause-form c =
    let good = formed_results _ c.args.sources.now c.args.includes.now c.args.defines.now c.requires.sources c.requires.includes c.requires.defines in
    ok_then _ _ c.expand_over.result (λ all is. (results_of _ _ _ all.items good is).forms) c.expand_over.ensures.ok

pub returns-clause-few : goal.returns-clause-few
returns-clause-few c =
    let good = formed_results _ c.args.sources.now c.args.includes.now c.args.defines.now c.requires.sources c.requires.includes c.requires.defines in
    ok_then _ _ c.expand_over.result (λ all is. (results_of _ _ _ all.items good is).count) c.expand_over.ensures.ok

pub returns-clause-places : goal.returns-clause-places
returns-clause-places c = λ placed.
    let good = placed_results _ c.args.sources.now c.args.includes.now c.args.defines.now c.requires.sources c.requires.includes c.requires.defines placed in
    ok_then _ _ c.expand_over.result (λ all is. (results_of _ _ _ all.items good is).places) c.expand_over.ensures.ok

pub returns-clause-place : goal.returns-clause-place
returns-clause-place c = λ placed.
    let good = placed_results _ c.args.sources.now c.args.includes.now c.args.defines.now c.requires.sources c.requires.includes c.requires.defines placed in
    err_then _ _ c.expand_over.result (λ no is. refusal_of _ _ _ no good is) c.expand_over.ensures.err
