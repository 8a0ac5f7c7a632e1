use Rattle.std.proofs.Common.{◌≡◌, List, ℕ, ap, ◌∙◌}
use Rattle.asm_parse.specs.Numbering.{place_of}
use Rattle.asm_parse.specs.Progress.{unprefixed}
use Rattle.asm_parse.proofs.progress.Progress.name.Goals as goal

pub returns-clause-number : goal.returns-clause-number
returns-clause-number c =
    let name : c.unprefixed-name.result.now ≡ unprefixed c.args.symbol.now.name = c.unprefixed-name.ensures ∙ ap unprefixed c.as_slice.ensures in
    rw (← c.self.view_is) (c.in_ok-added.ensures.number ∙ ap (λ (n : List ℕ). place_of c.self.inside.symbols (n, c.args.symbol.now.fixed)) name)
