use Rattle.std.specs.Prelude.{map}
use Rattle.std.proofs.Common.{◌≡◌, false, List, Option, sym, ◌∙◌, ap, subst}
use Rattle.goasm_base.specs.declared.statement.Operand.{Operand}
use Rattle.asm_target.specs.declared.refer.Refer.{Refer}
use Rattle.amd64_select.specs.Operands.{taken}
use Rattle.amd64_select.specs.Selecting.{Picks, code_of, refers}
use Rattle.amd64_select.specs.SelectLaws.{single}
use Rattle.amd64_select.proofs.SelectLemmas.{becomes_one, unselected}
use Rattle.amd64_select.proofs.selecting.select.Goals as goal

pub refusal-requires-in-None : goal.refusal-requires-in-None
refusal-requires-in-None c =
    let s = c.in-Some.spoken in
    let stmt = c.args.stmt.now in
    let site = c.args.site in
    record {
      plain = c.in-Some.ensures.found.0;
      says = c.in-Some.ensures.found.1;
      unselected = unselected s stmt site c.in-Some.ensures.found.1
          (λ i picks.
          let none = c.in-None.ensures.only i
          (subst (λ (ops : List Operand). Picks s stmt.lock site (map (taken false site) ops) i) (sym c.as_slice.ensures) picks) in
          absurd (cc none))
          (λ nothing. absurd (c.in_default-spoken.not-Nothing nothing));
    }

pub returns-in_ok-code_of-in-Some-picked : goal.returns-in_ok-code_of-in-Some-picked
returns-in_ok-code_of-in-Some-picked c =
    let s = c.in-Some.spoken in
    let stmt = c.args.stmt.now in
    let site = c.args.site in
    let i = c.in-Some-picked.instr in
    let code = c.in_ok-code_of-in-Some-picked.field-0.items in
    let picks = subst (λ (ops : List Operand). Picks s stmt.lock site (map (taken false site) ops) i) c.as_slice.ensures c.in-Some-picked.ensures.found in
    let refer = c.refers.ensures ∙ ap refers c.as_slice-in-Some-picked.ensures in
    let is = c.in_ok-code_of-in-Some-picked.ensures ∙ ap (λ (refer : Option Refer). code_of i refer site.frame) refer in
    let becomes = becomes_one s stmt site i code c.in-Some.ensures.found.0 c.in-Some.ensures.found.1 picks is in
    record {
      picked = becomes;
      only = λ other is. single stmt site code other becomes is;
      refused = tt;
    }

pub returns-in-None : goal.returns-in-None
returns-in-None c =
    let s = c.in-Some.spoken in
    let stmt = c.args.stmt.now in
    let site = c.args.site in
    let never = unselected s stmt site c.in-Some.ensures.found.1
    (λ i picks.
    let none = c.in-None.ensures.only i
    (subst (λ (ops : List Operand). Picks s stmt.lock site (map (taken false site) ops) i) (sym c.as_slice.ensures) picks) in
    absurd (cc none))
    (λ nothing. absurd (c.in_default-spoken.not-Nothing nothing)) in
    record {
      picked = tt;
      only = λ code becomes. absurd (never (code, becomes));
      refused = c.refusal-in-None.ensures;
    }
