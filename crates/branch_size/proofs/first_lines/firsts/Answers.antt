use Rattle.std.proofs.Common.{◌≡◌, ◌+◌, Some, vec_len, arith, refl, sym, subst}
use Rattle.std.specs.List.{slice_get}
use Rattle.std.proofs.lemmas.Option.{slice_get_read}
use Rattle.branch_size.proofs.FirstLemmas.{FirstsSoFar, first_some, first_none, all_firsts}
use Rattle.branch_size.proofs.first_lines.firsts.Goals as goal
use Rattle.branch_size.proofs.first_lines.firsts.Goals.{in-Some+in_ok-fill, in_default}

pub loop-line-preserved : goal.loop-line-preserved
loop-line-preserved g c =
    let code = c.args.code.now in
    let here : slice_get code c.loop-line.line ≡ Some c.index-code-line.result
    = slice_get_read code _ c.loop-line.line c.index-code-line.result refl (omega arith) c.index-code-line.is in
    elim c.match-item.branch [
      | in-Some+in_ok-fill w ↦ subst (λ v. FirstsSoFar code v.items (vec_len v) (c.loop-line.line + 1)) (sym w.firsts-is)
          (first_some code c.loop-line.firsts.items w.fill.new.firsts.items (vec_len c.loop-line.firsts) (vec_len w.fill.new.firsts)
          c.loop-line.line c.index-code-line.result w.in-Some.stmt c.loop-line.invariant here w.in-Some.is
          w.in_ok-fill.ensures.len w.in_ok-fill.ensures.kept w.in_ok-fill.ensures.filled)
      | in_default w ↦ subst (λ v. FirstsSoFar code v.items (vec_len v) (c.loop-line.line + 1)) (sym w.firsts-is)
          (first_none code c.loop-line.firsts.items (vec_len c.loop-line.firsts) c.loop-line.line c.index-code-line.result
          c.loop-line.invariant here w.in_default.is)
    ]

pub returns : goal.returns
returns g c =
    all_firsts c.args.code.now c.loop-line.firsts.items (vec_len c.loop-line.firsts) c.loop-line.line (omega arith) c.loop-line.firsts.ok.0
    c.loop-line.invariant
