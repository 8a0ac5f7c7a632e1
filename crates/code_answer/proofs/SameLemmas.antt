-- What is said of a function that is laid out is said of one that differs in its table of goals alone.
use Rattle.std.proofs.Common.{◌≡◌, ℕ, zero, suc, ◌+◌, ◌-◌, List, length, take, Option, Some, None, slice_index, refl, sym, ap, ◌∙◌, subst}
use Rattle.std.specs.List.{slice_get}
use Rattle.asm_target.specs.declared.body.Body.{Body}
use Rattle.asm_target.specs.declared.body.Line.{Line}
use Rattle.asm_target.specs.declared.refer.To.{To}
use Rattle.asm_target.specs.Aiming.{Aims, bytes_of}
use Rattle.least_forms.specs.declared.sizes.Sizes.{Sizes}
use Rattle.unit_listing.specs.declared.laid.Laid.{Laid}
use Rattle.unit_listing.specs.Kit.{Kit}
use Rattle.unit_listing.specs.Laid.{IsSameLaid}
use Rattle.unit_listing.specs.Lines.{place_to, seen_from}
use Rattle.link_code.specs.declared.site.Site.{Site}
use Rattle.link_code.specs.Code.{AreParts, IsLine, IsTooFar}
use Rattle.link_code.specs.Goals.{goal_with}
use Rattle.link_code.specs.Positions.{count_before, count_of}

module _ {Instr : Type 0} (kit : Kit Instr) where
  -- how many instructions a line has
  same_count_of : (laid other : Laid Instr) → IsSameLaid laid other → (number : ℕ) (found : Option (Line Instr))
      → count_of kit laid number found ≡ count_of kit other number found
  same_count_of laid other same number None = refl
  same_count_of laid other same number (Some line) =
      ap (λ (sizes : Sizes). length (kit.aiming.forms line.instr (slice_index sizes.forms number))) same.sizes

  pub same_count : (laid other : Laid Instr) → IsSameLaid laid other → (number : ℕ) → count_before kit laid number ≡ count_before kit other number
  same_count laid other same zero = refl
  same_count laid other same (suc number) =
      let found = ap (λ (body : Body Instr). count_of kit laid number (slice_get body.code number)) same.body in
      ap (λ count. count + count_of kit laid number (slice_get laid.body.code number)) (same_count laid other same number)
      ∙ ap (λ count. count_before kit other number + count) (found ∙ same_count_of laid other same number (slice_get other.body.code number))

  module _ (site : Site) where
    abbrev goals_by : Body Instr → Sizes → To → Option ℕ
    goals_by body sizes goal = goal_with site (place_to (kit.check body.frame) body.code sizes.places) goal

    abbrev address_by : Sizes → ℕ → ℕ
    address_by sizes number = site.entry + slice_index sizes.places number

    abbrev form_by : Sizes → ℕ → Line Instr → List Instr
    form_by sizes number line = kit.aiming.forms line.instr (slice_index sizes.forms number)

    abbrev PartsBy : ℕ → Line Instr → List Instr → Body Instr → Sizes → Type 0
    PartsBy number line code body sizes =
        AreParts kit (goals_by body sizes) line.refer (address_by sizes (number - 1)) (address_by sizes number) (form_by sizes number line) code

    pub same_line : (laid other : Laid Instr) → IsSameLaid laid other → (number : ℕ) (code : List Instr) → IsLine kit site other number code
        → IsLine kit site laid number code
    same_line laid other same number code is = record {
      line = is.line;
      here = subst (λ (body : Body Instr). slice_get body.code number ≡ Some is.line) (sym same.body) is.here;
      parts = subst (λ (body : Body Instr). PartsBy number is.line code body laid.sizes) (sym same.body)
          (subst (λ (sizes : Sizes). PartsBy number is.line code other.body sizes) (sym same.sizes) is.parts);
    }

    pub same_far : (laid other : Laid Instr) → IsSameLaid laid other → (number : ℕ) → IsTooFar kit site other number
        → IsTooFar kit site laid number
    same_far laid other same number is = record {
      line = is.line;
      here = subst (λ (body : Body Instr). slice_get body.code number ≡ Some is.line) (sym same.body) is.here;
      refer = is.refer;
      refers = is.refers;
      goal = is.goal;
      leads = subst (λ (body : Body Instr). goals_by body laid.sizes is.refer.to ≡ Some is.goal) (sym same.body)
          (subst (λ (sizes : Sizes). goals_by other.body sizes is.refer.to ≡ Some is.goal) (sym same.sizes) is.leads);
      beyond = subst (λ (sizes : Sizes). (i j : Instr)
          → slice_get (form_by sizes number is.line) (length (form_by sizes number is.line) - 1) ≡ Some i
          → ¬ Aims kit.set kit.fits kit.aiming i is.refer.part
          (seen_from is.refer.part (address_by sizes (number - 1))
          (address_by sizes number + bytes_of kit.set (take (length (form_by sizes number is.line) - 1) (form_by sizes number is.line)))) is.goal j)
          (sym same.sizes) is.beyond;
    }
