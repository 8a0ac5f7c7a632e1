use Rattle.std.proofs.Common.{ap, ◌∙◌}
use Rattle.pclntab.specs.Written.{texts, starts, words, written_over, written}
use Rattle.pclntab.proofs.LengthLemmas.{words_fit, five_short, five_is, funcs_told}
use Rattle.pclntab.proofs.writing.write_bytes.Goals as goal

pub write_funcs-requires-clause-fit : goal.write_funcs-requires-clause-fit
write_funcs-requires-clause-fit c = words_fit c.args.parts.now c.requires

pub join-requires : goal.join-requires
join-requires c =
    let all = funcs_told c.args.parts.now c.in_ok-funcs.funcs.pairs.items c.push_u32.new.bytes.items c.as_slice-2.result.now c.as_slice-7.result.now
    c.in_ok-funcs.ensures.pairs c.in_ok-push_u32.ensures.ok (c.as_slice-2.ensures.value ∙ c.in_ok-funcs.ensures.records)
    (c.as_slice-7.ensures.value ∙ c.in_ok-extend_from_slice.ensures.items) in
    five_short c.args.parts.now c.as_slice-3.result.now c.as_slice-4.result.now c.as_slice-5.result.now c.as_slice-6.result.now c.as_slice-7.result.now c.requires
    (five_is c.args.parts.now c.as_slice-3.result.now c.as_slice-4.result.now c.as_slice-5.result.now c.as_slice-6.result.now c.as_slice-7.result.now
    (c.as_slice-3.ensures.value ∙ c.in_ok-funcs.ensures.names)
    (c.as_slice-4.ensures.value ∙ c.in_ok-files.ensures.units ∙ ap (λ files. words (starts 0 files)) c.as_slice.ensures)
    (c.as_slice-5.ensures.value ∙ c.in_ok-files.ensures.names ∙ ap texts c.as_slice.ensures)
    (c.as_slice-6.ensures.value ∙ c.in_ok-funcs.ensures.pcs) all)

pub returns : goal.returns
unfolding written
returns c =
    let all = funcs_told c.args.parts.now c.in_ok-funcs.funcs.pairs.items c.push_u32.new.bytes.items c.as_slice-2.result.now c.as_slice-7.result.now
    c.in_ok-funcs.ensures.pairs c.in_ok-push_u32.ensures.ok (c.as_slice-2.ensures.value ∙ c.in_ok-funcs.ensures.records)
    (c.as_slice-7.ensures.value ∙ c.in_ok-extend_from_slice.ensures.items) in
    c.in_ok-bytes.ensures
    ∙ ap (written_over c.args.parts.now)
    (five_is c.args.parts.now c.as_slice-3.result.now c.as_slice-4.result.now c.as_slice-5.result.now c.as_slice-6.result.now c.as_slice-7.result.now
    (c.as_slice-3.ensures.value ∙ c.in_ok-funcs.ensures.names)
    (c.as_slice-4.ensures.value ∙ c.in_ok-files.ensures.units ∙ ap (λ files. words (starts 0 files)) c.as_slice.ensures)
    (c.as_slice-5.ensures.value ∙ c.in_ok-files.ensures.names ∙ ap texts c.as_slice.ensures)
    (c.as_slice-6.ensures.value ∙ c.in_ok-funcs.ensures.pcs) all)
