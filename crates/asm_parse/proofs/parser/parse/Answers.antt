use Rattle.std.proofs.Common.{◌≡◌, ◌≤◌, Err, length, sym, subst, ap, ◌∙◌, arith}
use Rattle.std.specs.Prelude.{All, sum_by}
use Rattle.std.proofs.lemmas.Result.{err_from_is_err_and}
use Rattle.asm_parse.specs.Ahead.{seen}
use Rattle.asm_parse.specs.Parse.{statements_of}
use Rattle.asm_parse.specs.Placed.{TokenIn}
use Rattle.asm_parse.proofs.FirstNames.{judged, is_first, none_refused}
use Rattle.asm_parse.proofs.KnownLemmas.{known_more}
use Rattle.asm_parse.proofs.PlacedLemmas.{statements_in}
use Rattle.asm_parse.proofs.TotalLemmas.{total_within}
use Rattle.asm_parse.proofs.ReadLemmas.{parsed_stops, parsed_on}
use Rattle.asm_parse.proofs.parser.parse.Goals as goal

pub returns-in_err-progress-clause-exact : goal.returns-in_err-progress-clause-exact
returns-in_err-progress-clause-exact g c =
    let p = err_from_is_err_and c.from_residual-in_err-progress.result c.from_residual-in_err-progress.ensures.1 in
    let cut : seen c.as_slice-2.result.now ≡ statements_of c.args.tokens.now.list = ap seen c.as_slice-2.ensures.value ∙ c.in_ok-statements.ensures ∙ ap statements_of c.as_slice.ensures in
    rw (p.1, p.2) (λ word tells kept. parsed_stops word c.args.tokens.now.list (seen c.as_slice-2.result.now) c.in_err-progress.field-0.0 cut (c.in_err-progress.ensures.exact word tells kept))

pub returns-clause-exact : goal.returns-clause-exact
returns-clause-exact g c =
    let cut : seen c.as_slice-2.result.now ≡ statements_of c.args.tokens.now.list = ap seen c.as_slice-2.ensures.value ∙ c.in_ok-statements.ensures ∙ ap statements_of c.as_slice.ensures in
    λ word tells. rw (parsed_on word c.args.tokens.now.list (seen c.as_slice-2.result.now) c.in_ok-progress.progress cut (c.in_ok-progress.ensures.exact word tells)) (c.resolved.ensures.exact word tells)

pub resolved-requires-clause-known : goal.resolved-requires-clause-known
resolved-requires-clause-known g c =
    let total = sum_by length (seen c.as_slice-2.result.now) in
    let cut : seen c.as_slice-2.result.now ≡ statements_of c.args.tokens.now.list = ap seen c.as_slice-2.ensures.value ∙ c.in_ok-statements.ensures ∙ ap statements_of c.as_slice.ensures in
    let few : total ≤ 4_000_000 = rw cut (omega (arith, total_within c.args.tokens.now.list, c.requires.few)) in
    known_more total 4_000_000 c.in_ok-progress.progress few c.in_ok-progress.ensures.known

pub returns-in_err-progress-clause-refused : goal.returns-in_err-progress-clause-refused
returns-in_err-progress-clause-refused g c =
    let p = err_from_is_err_and c.from_residual-in_err-progress.result c.from_residual-in_err-progress.ensures.1 in
    let cut : seen c.as_slice-2.result.now ≡ statements_of c.args.tokens.now.list = ap seen c.as_slice-2.ensures.value ∙ c.in_ok-statements.ensures ∙ ap statements_of c.as_slice.ensures in
    rw (p.1, p.2) (λ word tells. judged word c.args.tokens.now.list (Err c.in_err-progress.field-0.0) (λ kept. parsed_stops word c.args.tokens.now.list (seen c.as_slice-2.result.now) c.in_err-progress.field-0.0 cut (c.in_err-progress.ensures.exact word tells kept)))

pub returns-in_err-progress-clause-first : goal.returns-in_err-progress-clause-first
returns-in_err-progress-clause-first g c =
    let p = err_from_is_err_and c.from_residual-in_err-progress.result c.from_residual-in_err-progress.ensures.1 in
    let cut : seen c.as_slice-2.result.now ≡ statements_of c.args.tokens.now.list = ap seen c.as_slice-2.ensures.value ∙ c.in_ok-statements.ensures ∙ ap statements_of c.as_slice.ensures in
    rw (p.1, p.2) (λ word tells. is_first word c.args.tokens.now.list (Err c.in_err-progress.field-0.0) (judged word c.args.tokens.now.list (Err c.in_err-progress.field-0.0) (λ kept. parsed_stops word c.args.tokens.now.list (seen c.as_slice-2.result.now) c.in_err-progress.field-0.0 cut (c.in_err-progress.ensures.exact word tells kept))))

pub returns-clause-refused : goal.returns-clause-refused
returns-clause-refused g c =
    let cut : seen c.as_slice-2.result.now ≡ statements_of c.args.tokens.now.list = ap seen c.as_slice-2.ensures.value ∙ c.in_ok-statements.ensures ∙ ap statements_of c.as_slice.ensures in
    λ word tells. judged word c.args.tokens.now.list c.resolved.result (rw (parsed_on word c.args.tokens.now.list (seen c.as_slice-2.result.now) c.in_ok-progress.progress cut (c.in_ok-progress.ensures.exact word tells)) (c.resolved.ensures.exact word tells))

pub returns-clause-first : goal.returns-clause-first
returns-clause-first g c =
    let cut : seen c.as_slice-2.result.now ≡ statements_of c.args.tokens.now.list = ap seen c.as_slice-2.ensures.value ∙ c.in_ok-statements.ensures ∙ ap statements_of c.as_slice.ensures in
    λ word tells. is_first word c.args.tokens.now.list c.resolved.result (judged word c.args.tokens.now.list c.resolved.result (rw (parsed_on word c.args.tokens.now.list (seen c.as_slice-2.result.now) c.in_ok-progress.progress cut (c.in_ok-progress.ensures.exact word tells)) (c.resolved.ensures.exact word tells)))

pub returns-clause-none : goal.returns-clause-none
returns-clause-none g c =
    let cut : seen c.as_slice-2.result.now ≡ statements_of c.args.tokens.now.list = ap seen c.as_slice-2.ensures.value ∙ c.in_ok-statements.ensures ∙ ap statements_of c.as_slice.ensures in
    λ word tells. none_refused word c.args.tokens.now.list c.resolved.result (judged word c.args.tokens.now.list c.resolved.result (rw (parsed_on word c.args.tokens.now.list (seen c.as_slice-2.result.now) c.in_ok-progress.progress cut (c.in_ok-progress.ensures.exact word tells)) (c.resolved.ensures.exact word tells)))

pub returns-in_err-progress-clause-placed : goal.returns-in_err-progress-clause-placed
returns-in_err-progress-clause-placed g c =
    let p = err_from_is_err_and c.from_residual-in_err-progress.result c.from_residual-in_err-progress.ensures.1 in
    let cut : seen c.as_slice-2.result.now ≡ statements_of c.args.tokens.now.list = ap seen c.as_slice-2.ensures.value ∙ c.in_ok-statements.ensures ∙ ap statements_of c.as_slice.ensures in
    rw (p.1, p.2) (λ count all. c.in_err-progress.ensures.placed count (subst (All (All (TokenIn count))) (sym cut) (statements_in count c.args.tokens.now.list all)))

pub returns-clause-placed : goal.returns-clause-placed
returns-clause-placed g c = λ count all.
    let cut : seen c.as_slice-2.result.now ≡ statements_of c.args.tokens.now.list = ap seen c.as_slice-2.ensures.value ∙ c.in_ok-statements.ensures ∙ ap statements_of c.as_slice.ensures in
    c.resolved.ensures.placed count (c.in_ok-progress.ensures.placed count (subst (All (All (TokenIn count))) (sym cut) (statements_in count c.args.tokens.now.list all)))
