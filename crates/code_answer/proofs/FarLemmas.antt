-- A function that has instructions at an address has no line there that can't hold what it refers to; else there is one first such line.
use Rattle.std.proofs.Common.{◌≡◌, ℕ, ◌+◌, ◌-◌, ◌<◌, Bool, List, length, take, Option, Some, None, slice_index, sym, ap, ◌∙◌, subst, inl, inr, arith, if◌then◌else◌}
use Rattle.std.proofs.lemmas.Bool.{cases_lt, eq-eqb}
use Rattle.std.proofs.lemmas.Option.{same_Some, slice_get_within}
use Rattle.std.specs.List.{slice_get}
use Rattle.asm_target.specs.declared.body.Line.{Line}
use Rattle.asm_target.specs.declared.body.Placed.{Placed}
use Rattle.asm_target.specs.declared.refer.Refer.{Refer}
use Rattle.asm_target.specs.declared.refer.To.{To}
use Rattle.asm_target.proofs.PlaceLemmas.{fit_at}
use Rattle.asm_target.specs.Aiming.{Aims, bytes_of}
use Rattle.asm_target.specs.Frames.{IsFrame}
use Rattle.asm_target.specs.Goals.{IsBody}
use Rattle.obj_rewrite.proofs.BodyLemmas.{is_body}
use Rattle.unit_listing.specs.declared.laid.Laid.{Laid}
use Rattle.unit_listing.specs.Kit.{Kit, frame_of, guard_of, rules_for}
use Rattle.unit_listing.specs.Laid.{IsSameLaid}
use Rattle.unit_listing.specs.Lines.{refer_in, seen_from}
use Rattle.unit_listing.proofs.FrameLemmas.{frame_fits}
use Rattle.unit_listing.proofs.FunctionLemmas.{KitLaws}
use Rattle.unit_listing.proofs.LaidLemmas.{told}
use Rattle.link_code.specs.declared.site.Site.{Site}
use Rattle.link_code.specs.Code.{AreParts, IsAimed, IsCode, IsLine, IsOfUnit, IsPart, IsTooFar, IsUnreached, form_in}
use Rattle.link_code.specs.Goals.{goal_of, line_address}
use Rattle.link_code.proofs.WholeLemmas.{form_some}
use Rattle.code_answer.proofs.JoinedLemmas.{one_of}
use Rattle.code_answer.proofs.SameLemmas.{same_far, same_line}

-- two numbers that aren't apart are one
pub not_apart : (one other : ℕ) → (one < other → ⊥) → (other < one → ⊥) → one ≡ other
not_apart one other before behind = elim (cases_lt one other) [
  | inl less ↦ absurd (before less)
  | inr least ↦ elim (cases_lt other one) [
    | inl less ↦ absurd (behind less)
    | inr most ↦ omega arith
  ]
]

module _ {Instr : Type 0} (kit : Kit Instr) (laws : KitLaws kit) (symbols : ℕ) (laid : Laid Instr) where
  -- the last instruction of a form holds what its line refers to
  last_holds : (form : List Instr) (refer : Option Refer) → 0 < length form → refer_in form (length form - 1) refer ≡ refer
  last_holds form refer some =
      ap (λ (equal : Bool). if equal then refer else None) (eq-eqb (length form - 1 + 1) (length form) (omega (arith, some)))

  -- an instruction that stands for the last one of a form
  not_beyond : (goals : To → Option ℕ) (back start : ℕ) (form code : List Instr) (refer : Option Refer) (its : Refer) (goal : ℕ)
      → refer ≡ Some its → goals its.to ≡ Some goal → 0 < length form
      → IsPart kit goals refer back start form (length form - 1) code
      → ((i j : Instr) → slice_get form (length form - 1) ≡ Some i
      → ¬ Aims kit.set kit.fits kit.aiming i its.part
      (seen_from its.part back (start + bytes_of kit.set (take (length form - 1) form))) goal j) → ⊥
  not_beyond goals back start form code refer its goal refers leads some (i, here, j, aimed, only, one) beyond =
      let place = start + bytes_of kit.set (take (length form - 1) form) in
      let holds : IsAimed kit goals (Some its) back place i j
      = subst (λ found. IsAimed kit goals found back place i j) (last_holds form refer some ∙ refers) aimed in
      let same : holds.0 ≡ goal = same_Some holds.0 goal (sym holds.1 ∙ leads) in
      beyond i j here (subst (λ goal. Aims kit.set kit.fits kit.aiming i its.part (seen_from its.part back place) goal j) same holds.2)

  module _ (of : IsOfUnit kit symbols laid) where
    -- each line has an instruction
    some_in : (number : ℕ) (line : Line Instr) → slice_get laid.body.code number ≡ Some line → 0 < length (form_in kit laid number line)
    some_in number line here =
        let function = of.0 in
        let valid = of.1 in
        let is = of.2 in
        let frame = frame_of kit function in
        let fine : IsFrame kit.machine frame = frame_fits kit.machine symbols function valid is.rewritten.most in
        let body : IsBody kit.fits kit.aiming (guard_of kit function) laid.body.code
        = is_body kit.set kit.fits kit.aiming (rules_for kit function) function frame (guard_of kit function) (kit.entry frame)
        (laws.picks frame fine) (laws.frames frame fine) symbols valid laid.body.code is.rewritten.lines in
        let within = slice_get_within laid.body.code number line here in
        let fit : kit.fits line.instr = fit_at (λ (line : Line Instr). kit.fits line.instr) laid.body.code number line
        (λ k d less. (body.pickable k d less).fit) here in
        form_some kit laws.target.formed line.instr (slice_index laid.sizes.forms number) fit ((told kit function laid is).form number)

    module _ (site : Site) where
      -- what stands in a line holds what the line refers to
      never_line : (number : ℕ) (code : List Instr) → IsLine kit site laid number code → IsTooFar kit site laid number → ⊥
      never_line number code is far =
          let equal : is.line ≡ far.line = same_Some is.line far.line (sym is.here ∙ far.here) in
          let goals = goal_of kit site laid in
          let back = line_address site laid (number - 1) in
          let start = line_address site laid number in
          let form = form_in kit laid number far.line in
          let some = some_in number far.line far.here in
          let parts : AreParts kit goals far.line.refer back start form code
          = subst (λ (line : Line Instr). AreParts kit goals line.refer back start (form_in kit laid number line) code) equal is.parts in
          let last = one_of (IsPart kit goals far.line.refer back start form) (length form) code parts (length form - 1) (omega (arith, some)) in
          not_beyond goals back start form last.0 far.line.refer far.refer far.goal far.refers far.leads some last.1 far.beyond

      pub never_code : (other : Laid Instr) → IsSameLaid laid other → (code : List (Placed Instr)) (number : ℕ) → IsCode kit site laid code
          → IsUnreached kit site other number → ⊥
      never_code other same code number is unreached =
          let far = same_far kit site laid other same number unreached.far in
          let within = slice_get_within laid.body.code number far.line far.here in
          let line = one_of (IsLine kit site laid) (length laid.body.code) is.code is.lines number within in
          never_line number line.0 line.1 far

      pub first_far : (other : Laid Instr) → IsSameLaid laid other → (line number : ℕ) → IsUnreached kit site laid line
          → IsUnreached kit site other number → line ≡ number
      first_far other same line number one two = not_apart line number
          (λ less.
          let found = one_of (IsLine kit site other) number two.before.0 two.before.1 line less in
          never_line line found.0 (same_line kit site laid other same line found.0 found.1) one.far)
          (λ less.
          let found = one_of (IsLine kit site laid) line one.before.0 one.before.1 number less in
          never_line number found.0 found.1 (same_far kit site laid other same number two.far))
