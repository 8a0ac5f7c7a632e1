use Rattle.std.proofs.Common.{◌≡◌, [], ◌∷◌, true, false, sym, subst, ◌∙◌}
use Rattle.link_names.specs.Definitions.{Entry}
use Rattle.link_names.specs.Adding.{Adds, Breaks, is_allowed}
use Rattle.link_names.proofs.AddingLemmas.{adds_one, breaks_one}
use Rattle.link_names.proofs.names.Names.define.Goals as goal

pub returns-then-branch-clause-adds : goal.returns-then-branch-clause-adds
returns-then-branch-clause-adds c =
    let entry : Entry = ((c.args.name.now, c.args.unit), c.args.definition) in
    let allowed : is_allowed c.args.self.now entry ≡ true = sym c.in_ok-add.ensures.allowed ∙ c.if-branch.true in
    subst (Adds c.args.self.now (entry ∷ [])) (sym c.in_ok-add.ensures.adds) (adds_one c.args.self.now entry allowed)

pub returns-else-branch-clause-twice : goal.returns-else-branch-clause-twice
returns-else-branch-clause-twice c = λ twice same.
    let entry : Entry = ((c.args.name.now, c.args.unit), c.args.definition) in
    let refused : is_allowed c.args.self.now entry ≡ false = sym c.in_ok-add.ensures.allowed ∙ c.if-branch.false in
    let named : twice ≡ c.args.name.now = c.twice.ensures twice cc in
    subst (Breaks c.args.self.now (entry ∷ [])) (sym named) (breaks_one c.args.self.now entry refused)
