use Rattle.std.specs.Prelude.{map}
use Rattle.std.proofs.Common.{◌≡◌, true, List, Some, None, refl, sym, subst}
use Rattle.goasm_base.specs.declared.statement.Operand.{Operand}
use Rattle.amd64_select.specs.Operands.{taken}
use Rattle.amd64_select.specs.Selecting.{Picks}
use Rattle.amd64_select.proofs.EasedLemmas.{could_by, could_only}
use Rattle.amd64_select.proofs.selecting.could_be.Goals as goal

-- the statement becomes something with other numbers exactly where it does with eased ones

pub returns-in-Some : goal.returns-in-Some
returns-in-Some c =
    let s = c.args.spoken in
    let stmt = c.args.stmt.now in
    let site = c.args.site in (
      λ _. could_by s stmt site c.in-Some.field-0 c.requires.plain c.requires.says
          (subst (λ (ops : List Operand). Picks s stmt.lock site (map (taken true site) ops) c.in-Some.field-0) c.as_slice.ensures c.in-Some.ensures.found),
      λ _. refl,
    )

pub returns-in-None : goal.returns-in-None
returns-in-None c =
    let s = c.args.spoken in
    let stmt = c.args.stmt.now in
    let site = c.args.site in (
      λ no. absurd (cc),
      λ could.
          let p = could_only s stmt site c.requires.plain c.requires.says c.requires.unselected could in
          let none = c.in-None.ensures.only p.0
          (subst (λ (ops : List Operand). Picks s stmt.lock site (map (taken true site) ops) p.0) (sym c.as_slice.ensures) p.1) in
          absurd (cc none),
    )
