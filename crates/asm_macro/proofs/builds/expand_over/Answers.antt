use Rattle.std.proofs.Common.{◌≡◌, ◌+◌, ◌∙◌}
use Rattle.asm_directive.specs.LineNames.{line_names_of}
use Rattle.asm_macro.specs.Builds.{greatest_file, numbered}
use Rattle.asm_directive.specs.Views.{names_of}
use Rattle.asm_macro.proofs.OutcomeLemmas.{ok_then, err_then, context_is, expansion_is}
use Rattle.asm_macro.proofs.builds.expand_over.Goals as goal

numbers : (c : goal.After-drop-given-2)
    → names_of c.in_ok-numbered_files.field-0
    ≡ numbered (greatest_file c.args.sources.now c.args.includes.now c.args.defines.now + 1) (line_names_of c.args.sources.now c.args.includes.now)
numbers c = rw (c.requires.names, c.greatest_of.ensures) at c.in_ok-numbered_files.ensures

pub returns-clause-ok : goal.returns-clause-ok
returns-clause-ok c =
    ok_then _ _ c.expand_sources.result
    (λ all is. expansion_is c.args.limits c.args.sources.now c.args.includes.now c.args.defines.now _ _
    (context_is (record { includes = c.in_ok-included_files.field-0; files = c.in_ok-numbered_files.field-0; built_in = c.args.rows }) c.args.sources.now c.args.includes.now c.args.defines.now c.in_ok-included_files.ensures (numbers c))
    c.in_ok-given.ensures.ok ∙ is)
    c.expand_sources.ensures.ok

pub returns-clause-err : goal.returns-clause-err
returns-clause-err c =
    err_then _ _ c.expand_sources.result
    (λ no is fault. expansion_is c.args.limits c.args.sources.now c.args.includes.now c.args.defines.now _ _
    (context_is (record { includes = c.in_ok-included_files.field-0; files = c.in_ok-numbered_files.field-0; built_in = c.args.rows }) c.args.sources.now c.args.includes.now c.args.defines.now c.in_ok-included_files.ensures (numbers c))
    c.in_ok-given.ensures.ok ∙ is fault)
    c.expand_sources.ensures.err
