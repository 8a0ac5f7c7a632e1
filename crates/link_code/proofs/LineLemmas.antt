-- The lines of a function.
use Rattle.std.proofs.Common.{◌≡◌, ℕ, zero, suc, ◌+◌, ◌-◌, ◌<◌, ◌≤◌, List, ◌++◌, length, take, Option, Some, None, slice_index, refl, sym, ap, ◌∙◌, subst, arith}
use Rattle.std.specs.List.{slice_get}
use Rattle.std.specs.Option.{option_map}
use Rattle.std.proofs.lemmas.Option.{slice_get-map}
use Rattle.asm_target.specs.declared.body.Line.{Line}
use Rattle.asm_target.specs.declared.body.Placed.{Placed}
use Rattle.asm_target.specs.declared.frame.Guard.{Guard}
use Rattle.asm_target.proofs.PlaceLemmas.{fit_at, item_at}
use Rattle.asm_target.specs.declared.refer.Refer.{Refer}
use Rattle.asm_target.specs.Aiming.{Aiming, HaveForms, bytes_of}
use Rattle.asm_target.specs.InstructionSet.{InstructionSet}
use Rattle.least_forms.specs.Problem.{at}
use Rattle.least_forms.proofs.PlaceLemmas.{place_next}
use Rattle.branch_size.specs.Rows.{problem_of, row_of, rows_of, width_in}
use Rattle.branch_size.specs.Sizing.{branches_of}
use Rattle.branch_size.proofs.SizeLemmas.{count_is}
use Rattle.image_rules.specs.Functions.{placed_from}
use Rattle.unit_listing.specs.declared.laid.Laid.{Laid}
use Rattle.unit_listing.specs.Kit.{Kit}
use Rattle.link_code.specs.declared.site.Site.{Site}
use Rattle.link_code.specs.Code.{AreParts, IsAimed, IsBeyond, IsLine, IsReady, IsTooFar, begins_at, form_in, lines_in}
use Rattle.link_code.specs.Goals.{goal_of, line_address}
use Rattle.link_code.specs.Placed.{AreAdded}
use Rattle.link_code.proofs.WholeLemmas.{form_some}

module _ {Instr : Type 0} (set : InstructionSet Instr) (fits : Instr → Type 0) (aiming : Aiming Instr) (quantum : ℕ) (guard : Guard Instr)
    (code : List (Line Instr)) where
  by_form : (line : Line Instr) (form : ℕ) → form ≤ 1
      → width_in (Some (row_of set aiming guard code line)) form ≡ bytes_of set (aiming.forms line.instr form)
  by_form line zero most = refl
  by_form line (suc zero) most = refl
  by_form line (suc (suc form)) most = absurd (omega arith)

  -- a line has as many bytes as its form
  line_width : (number form : ℕ) (line : Line Instr) → slice_get code number ≡ Some line → form ≤ 1
      → (branches_of set fits aiming quantum guard code).width number form ≡ bytes_of set (aiming.forms line.instr form)
  unfolding problem_of
  line_width number form line here most =
      let row : slice_get (rows_of set aiming guard code) number ≡ Some (row_of set aiming guard code line) =
      slice_get-map (row_of set aiming guard code) code number ∙ ap (option_map (row_of set aiming guard code)) here in
      ap (λ found. width_in found form) row ∙ by_form line form most

module _ {Instr : Type 0} (kit : Kit Instr) (site : Site) (laid : Laid Instr) (ready : IsReady kit site laid) where
  -- where a line begins
  pub line_begins : (number : ℕ) → number < length laid.body.code → line_address site laid number ≡ begins_at kit site laid number
  line_begins number within =
      let count = count_is kit.set kit.fits kit.aiming kit.quantum (kit.check laid.body.frame) laid.body.code in
      ap (λ n. site.entry + n) (ready.sized.each number (omega (arith, count, within)))

  -- and where it ends
  pub line_ends : (number : ℕ) (line : Line Instr) → slice_get laid.body.code number ≡ Some line
      → begins_at kit site laid (number + 1) ≡ begins_at kit site laid number + bytes_of kit.set (form_in kit laid number line)
  line_ends number line here =
      let next = place_next (lines_in kit laid) (at laid.sizes.forms) number in
      let width = line_width kit.set kit.fits kit.aiming kit.quantum (kit.check laid.body.frame) laid.body.code number
      (slice_index laid.sizes.forms number) line here (ready.told.form number) in
      omega (arith, next, width)

  -- a line whose instructions were added
  pub line_added : (number : ℕ) (line : Line Instr) (back start : ℕ) (form : List Instr) (before after : List (Placed Instr))
      → number < length laid.body.code → slice_get laid.body.code number ≡ Some line → back ≡ line_address site laid (number - 1)
      → start ≡ line_address site laid number → form ≡ form_in kit laid number line
      → AreAdded kit.set kit.fits (AreParts kit (goal_of kit site laid) line.refer back start form) start (start + bytes_of kit.set form) before after
      → AreAdded kit.set kit.fits (IsLine kit site laid number) (begins_at kit site laid number) (begins_at kit site laid (number + 1)) before after
  line_added number line back start form before after within here behind there formed added =
      let begins : start ≡ begins_at kit site laid number = there ∙ line_begins number within in
      let ends : begins_at kit site laid (number + 1) ≡ start + bytes_of kit.set form
      = line_ends number line here ∙ ap (λ n. n + bytes_of kit.set (form_in kit laid number line)) (sym begins)
      ∙ ap (λ form. start + bytes_of kit.set form) (sym formed) in
      let Parts : ℕ → ℕ → List Instr → Type 0 = λ back start form. AreParts kit (goal_of kit site laid) line.refer back start form added.code in
      record {
        code = added.code;
        are = record {
          line = line;
          here = here;
          parts = subst (λ form. Parts (line_address site laid (number - 1)) (line_address site laid number) form) formed
              (subst (λ start. Parts (line_address site laid (number - 1)) start form) there
              (subst (λ back. Parts back start form) behind added.are));
        };
        fit = added.fit;
        long = ends ∙ added.long ∙ ap (λ n. n + bytes_of kit.set added.code) begins;
        behind = added.behind ∙ ap (λ n. before ++ placed_from kit.set n added.code) begins;
      }

  -- j stands for i, the last instruction of a form of the line of this number
  abbrev AimedLast : ℕ → List Instr → Option Refer → Instr → Instr → Type 0
  AimedLast number form refer i j = IsAimed kit (goal_of kit site laid) refer (line_address site laid (number - 1))
      (line_address site laid number + bytes_of kit.set (take (length form - 1) form)) i j

  far_by : HaveForms kit.set kit.fits kit.aiming → (number : ℕ) (line : Line Instr) → slice_get laid.body.code number ≡ Some line
      → ((i j : Instr) → slice_get (form_in kit laid number line) (length (form_in kit laid number line) - 1) ≡ Some i
      → ¬ AimedLast number (form_in kit laid number line) line.refer i j)
      → (refer : Option Refer) → line.refer ≡ refer → IsTooFar kit site laid number
  far_by formed number line here none None is =
      let form = form_in kit laid number line in
      let fit = fit_at (λ (line : Line Instr). kit.fits line.instr) laid.body.code number line ready.fit here in
      let some = form_some kit formed line.instr (slice_index laid.sizes.forms number) fit (ready.told.form number) in
      let last = item_at form (length form - 1) (omega (arith, some)) in
      absurd (none last.0 last.0 last.1 (subst (λ refer. AimedLast number form refer last.0 last.0) (sym is) refl))
  far_by formed number line here none (Some refer) is =
      let form = form_in kit laid number line in
      let lead = ready.leads number line refer here is in
      record {
        line = line;
        here = here;
        refer = refer;
        refers = is;
        goal = lead.0;
        leads = lead.1;
        beyond = λ i j at aims. none i j at (subst (λ refer. AimedLast number form refer i j) (sym is) (lead.0, lead.1, aims));
      }

  -- a line that can't hold what it refers to
  pub line_far : HaveForms kit.set kit.fits kit.aiming → (number : ℕ) (line : Line Instr) (back start : ℕ) (form : List Instr)
      → slice_get laid.body.code number ≡ Some line → back ≡ line_address site laid (number - 1)
      → start ≡ line_address site laid number → form ≡ form_in kit laid number line
      → IsBeyond kit (goal_of kit site laid) line.refer back start form → IsTooFar kit site laid number
  line_far formed number line back start form here behind there shaped beyond =
      let before = line_address site laid (number - 1) in
      let Beyond : ℕ → ℕ → List Instr → Type 0 = λ back start form. IsBeyond kit (goal_of kit site laid) line.refer back start form in
      far_by formed number line here
      (subst (λ form. Beyond before (line_address site laid number) form) shaped
      (subst (λ start. Beyond before start form) there
      (subst (λ back. Beyond back start form) behind beyond))) line.refer refl
