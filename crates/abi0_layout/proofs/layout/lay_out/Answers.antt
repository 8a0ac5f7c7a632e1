use Rattle.std.proofs.Common.{◌≤◌, ◌++◌, [], false, true, List, map, ap, sym, subst, ◌∙◌}
use Rattle.abi0_layout.specs.declared.parts.PartOf.{PartOf}
use Rattle.go_types.specs.Signatures.{parameter_of, signature_of}
use Rattle.go_types.specs.declared.declarations.Param.{Param}
use Rattle.abi0_layout.specs.Layouts.{end_of_list, parts_of_list, most_bytes}
use Rattle.abi0_layout.proofs.OutcomeLemmas.{told_of, is_refused, is_exact, is_allowed}
use Rattle.abi0_layout.proofs.layout.lay_out.Goals as goal

pub returns-then-is_too_large : goal.returns-then-is_too_large
returns-then-is_too_large c =
    let func = c.args.func.now in
    let before = c.room_of-before.result in
    let behind = c.room_of-behind.result in
    let start = c.results_start-start.result in
    let told = told_of func c.as_slice-params.result.now c.as_slice-results.result.now before.end start behind.end before.components behind.components c.is_too_large.result
    c.as_slice-params.ensures c.as_slice-results.ensures c.room_of-before.ensures.end c.results_start-start.ensures c.room_of-behind.ensures.end
    c.room_of-before.ensures.components c.room_of-behind.ensures.components c.is_too_large.ensures in
    record { exact = λ _. is_refused (signature_of func) before.end start behind.end before.components behind.components c.is_too_large.result told c.if-is_too_large.true }

pub push_list-requires-clause-room : goal.push_list-requires-clause-room
push_list-requires-clause-room c =
    let func = c.args.func.now in
    let before = c.room_of-before.result in
    let behind = c.room_of-behind.result in
    let start = c.results_start-start.result in
    let told = told_of func c.as_slice-params.result.now c.as_slice-results.result.now before.end start behind.end before.components behind.components c.is_too_large.result
    c.as_slice-params.ensures c.as_slice-results.ensures c.room_of-before.ensures.end c.results_start-start.ensures c.room_of-behind.ensures.end
    c.room_of-before.ensures.components c.room_of-behind.ensures.components c.is_too_large.ensures in
    let exact = is_exact (signature_of func) before.end start behind.end before.components behind.components c.is_too_large.result told c.if-is_too_large.false in
    subst (λ (ys : List Param). end_of_list 0 (map parameter_of ys) ≤ most_bytes) (sym c.as_slice-params.ensures) exact.params_is

pub returns : goal.returns
returns c =
    let func = c.args.func.now in
    let before = c.room_of-before.result in
    let behind = c.room_of-behind.result in
    let start = c.results_start-start.result in
    let told = told_of func c.as_slice-params.result.now c.as_slice-results.result.now before.end start behind.end before.components behind.components c.is_too_large.result
    c.as_slice-params.ensures c.as_slice-results.ensures c.room_of-before.ensures.end c.results_start-start.ensures c.room_of-behind.ensures.end
    c.room_of-before.ensures.components c.room_of-behind.ensures.components c.is_too_large.ensures in
    record {
      exact = is_allowed (signature_of func) before.end start behind.end before.components behind.components c.is_too_large.result c.push_list.new.to.items c.new.result told c.if-is_too_large.false
          (c.in_ok-push_list.ensures ∙ ap (λ (xs : List PartOf). xs ++ parts_of_list false 0 0 (map parameter_of c.as_slice-params.result.now)) c.new-parts.ensures.items
          ∙ ap (λ (ys : List Param). [] ++ parts_of_list false 0 0 (map parameter_of ys)) c.as_slice-params.ensures)
          (c.new.ensures ∙ c.in_ok-push_list-2.ensures ∙ ap (λ (ys : List Param). c.push_list.new.to.items ++ parts_of_list true 0 start (map parameter_of ys)) c.as_slice-results.ensures);
    }
