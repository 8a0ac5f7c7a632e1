use Rattle.std.proofs.Common.{◌≡◌, Err, List, [], ◌∷◌, ℕ, length, refl, ap, subst, rules}
use Rattle.std.specs.Prelude.{Bool, if◌then◌else◌}
use Rattle.goasm_base.specs.declared.statement.Function.{Function}
use Rattle.unit_listing.specs.Kit.{kit_of}
use Rattle.link_functions.specs.Code.{Adds, IsFirstUnlaid}
use Rattle.link_functions.proofs.PartLemmas.{adds_none, adds_one, first_alone}
use Rattle.link_functions.proofs.laying.push_part.Goals as goal

-- where the function counts it's the one to be added, and else there is none
abbrev chosen : ℕ → Function → Bool → List (ℕ × Function)
chosen number function kept = if kept then (number, function) ∷ [] else []

pub returns-in_err-laid-clause-refused : goal.returns-in_err-laid-clause-refused
returns-in_err-laid-clause-refused g c = λ no same real.
    let kit = kit_of g.T.Processor.instructions g.T.Processor.fits g.T.Processor.MACHINE g.T.Processor.QUANTUM g.T.Processor.SHAPE g.T.Target.selection
    g.T.Target.aiming g.T.Target.entry g.T.Target.check g.T.Target.begins in
    let told = rw same at c.from_residual.ensures.1 in
    let err : Err c.in_err-laid.field-0.0 ≡ Err no = search rules in
    subst (λ functions. IsFirstUnlaid kit functions no)
    (ap (chosen c.args.number c.args.function.now) c.if-is_kept.ensures)
    (first_alone kit (c.args.number, c.args.function.now) no (c.in_err-laid.ensures.refused no err real))

pub returns-in_ok-push-clause-adds : goal.returns-in_ok-push-clause-adds
returns-in_ok-push-clause-adds g c =
    let kit = kit_of g.T.Processor.instructions g.T.Processor.fits g.T.Processor.MACHINE g.T.Processor.QUANTUM g.T.Processor.SHAPE g.T.Target.selection
    g.T.Target.aiming g.T.Target.entry g.T.Target.check g.T.Target.begins in
    let symbols = length c.args.symbols.now in
    let sound = c.in_ok-laid.ensures.laid in
    subst (λ functions. Adds kit symbols c.args.parts.now.items functions c.push.new.items.items)
    (ap (chosen c.args.number c.args.function.now) c.if-is_kept.ensures)
    (adds_one kit symbols c.args.parts.now.items c.push.new.items.items (c.args.number, c.args.function.now) _ c.in_ok-push.ensures
    (record { number = refl; function = refl; laid = sound.laid_is }) sound.within)

pub returns-else-is_kept-clause-adds : goal.returns-else-is_kept-clause-adds
returns-else-is_kept-clause-adds g c =
    let kit = kit_of g.T.Processor.instructions g.T.Processor.fits g.T.Processor.MACHINE g.T.Processor.QUANTUM g.T.Processor.SHAPE g.T.Target.selection
    g.T.Target.aiming g.T.Target.entry g.T.Target.check g.T.Target.begins in
    let symbols = length c.args.symbols.now in
    subst (λ functions. Adds kit symbols c.args.parts.now.items functions c.args.parts.now.items)
    (ap (chosen c.args.number c.args.function.now) c.if-is_kept.ensures)
    (adds_none kit symbols c.args.parts.now.items)
