use Rattle.std.proofs.Common.{◌≡◌, ℕ, ℤ, Option, IfSome, sym, ◌∙◌, ap, subst, rules, FitsSigned, w64}
use Rattle.std.proofs.lemmas.Int.{to_z-of_z}
use Rattle.machine_effect.specs.Numbers.{moved_by}
use Rattle.asm_target.specs.declared.refer.Part.{Part}
use Rattle.asm_target.specs.Aiming as aim
use Rattle.amd64_table.specs.declared.instr.Instr.{Instr}
use Rattle.amd64_code.specs.InstructionSet.{amd64, Fits, end_of}
use Rattle.amd64_forms.specs.Aiming.{aimed}
use Rattle.amd64_select.specs.Aims.{aiming}
use Rattle.amd64_select.specs.AimLaws.{aim_found, aim_only, aimed_listed}
use Rattle.amd64_select.proofs.aiming.aim.Goals as goal

pub chosen-requires : goal.chosen-requires
chosen-requires c =
    let d : ℤ = c.distance-distance.result in
    let fit : FitsSigned w64 d = search rules in
    let told = c.aimed.ensures in
    aimed_listed c.instr-in-Whole.result.now d c.aimed.result c.instr-in-Whole.ensures.fits (rw (to_z-of_z w64 d fit) at told)

pub returns-in-Whole-clause-found : goal.returns-in-Whole-clause-found
returns-in-Whole-clause-found c =
    let i : Instr = c.args.instr.now in
    let place : ℕ = c.args.place in
    let d : ℤ = c.distance-distance.result in
    let fit : FitsSigned w64 d = search rules in
    let told = c.aimed.ensures in
    let is = (rw (to_z-of_z w64 d fit) at told) ∙ ap (λ (i : Instr). aimed i d) c.instr-in-Whole.ensures.same in
    let end = ap (λ (i : Instr). end_of i place) (sym c.instr.ensures.same) ∙ sym c.end_of.ensures in
    let to = ap (λ (end : ℕ). moved_by end d) end ∙ c.distance-distance.ensures.reaches in
    let listed = subst Fits c.instr.ensures.same c.instr.ensures.fits in
    subst (λ (x : Option Instr). IfSome x (λ j. aim.Aims amd64 Fits aiming i c.args.part place c.args.goal j)) (sym c.chosen.ensures)
    (subst (λ (part : Part). IfSome c.aimed.result (λ j. aim.Aims amd64 Fits aiming i part place c.args.goal j)) (sym c.in-Whole.is)
    (aim_found i place c.args.goal d c.aimed.result listed is to))

pub returns-in-Whole-clause-only : goal.returns-in-Whole-clause-only
returns-in-Whole-clause-only c = λ j aims.
    let i : Instr = c.args.instr.now in
    let place : ℕ = c.args.place in
    let d : ℤ = c.distance-distance.result in
    let fit : FitsSigned w64 d = search rules in
    let told = c.aimed.ensures in
    let is = (rw (to_z-of_z w64 d fit) at told) ∙ ap (λ (i : Instr). aimed i d) c.instr-in-Whole.ensures.same in
    let end = c.end_of.ensures ∙ ap (λ (i : Instr). end_of i place) c.instr.ensures.same in
    c.chosen.ensures
    ∙ aim_only i place c.args.goal d c.aimed.result is
    (λ e fits led. c.distance-distance.ensures.sole e fits (ap (λ (end : ℕ). moved_by end e) end ∙ led)) j
    (subst (λ (part : Part). aim.Aims amd64 Fits aiming i part place c.args.goal j) c.in-Whole.is aims)
