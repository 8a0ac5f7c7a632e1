-- A function has one list of instructions, and each of them one depth.
use Rattle.std.proofs.Common.{◌≡◌, ℕ, ◌+◌, ◌-◌, List, [], ◌∷◌, length, take, replicate, Option, Some, slice_index, sym, ap, ◌∙◌, subst}
use Rattle.std.proofs.lemmas.Option.{same_Some}
use Rattle.std.specs.List.{slice_get}
use Rattle.asm_target.specs.declared.body.Body.{Body}
use Rattle.asm_target.specs.declared.body.Line.{Line}
use Rattle.asm_target.specs.declared.body.Placed.{Placed}
use Rattle.asm_target.specs.declared.refer.Refer.{Refer}
use Rattle.asm_target.specs.declared.refer.To.{To}
use Rattle.asm_target.specs.Aiming.{bytes_of}
use Rattle.least_forms.specs.declared.sizes.Sizes.{Sizes}
use Rattle.image_rules.specs.Functions.{placed_from}
use Rattle.unit_listing.specs.declared.laid.Laid.{Laid}
use Rattle.unit_listing.specs.Joined.{AreJoined}
use Rattle.unit_listing.specs.Kit.{Kit}
use Rattle.unit_listing.specs.Laid.{IsSameLaid}
use Rattle.unit_listing.specs.Lines.{refer_in}
use Rattle.link_code.specs.declared.site.Site.{Site}
use Rattle.link_code.specs.Code.{AreParts, HasDepth, HaveDepths, IsAimed, IsCode, IsLine, IsPart, form_in}
use Rattle.link_code.specs.Goals.{goal_of, line_address}
use Rattle.code_answer.proofs.JoinedLemmas.{one_joined}
use Rattle.code_answer.proofs.SameLemmas.{same_line}

module _ {Instr : Type 0} (kit : Kit Instr) where
  -- no other instruction stands in a form
  one_part : (goals : To → Option ℕ) (refer : Option Refer) (back start : ℕ) (form : List Instr) (number : ℕ) (code other : List Instr)
      → IsPart kit goals refer back start form number code → IsPart kit goals refer back start form number other → code ≡ other
  one_part goals refer back start form number code other (i, here, j, aimed, only, one) (i', here', j', aimed', only', one') =
      let place = start + bytes_of kit.set (take number form) in
      let found = refer_in form number refer in
      let same : i' ≡ i = same_Some i' i (sym here' ∙ here) in
      let equal : j' ≡ j = only j' (subst (λ k. IsAimed kit goals found back place k j') same aimed') in
      one ∙ ap (λ k. k ∷ []) (sym equal) ∙ sym one'

  module _ (site : Site) (laid other : Laid Instr) (same : IsSameLaid laid other) where
    one_line : (number : ℕ) (code again : List Instr) → IsLine kit site laid number code → IsLine kit site other number again → code ≡ again
    one_line number code again one it =
        let two = same_line kit site laid other same number again it in
        let equal : two.line ≡ one.line = same_Some two.line one.line (sym two.here ∙ one.here) in
        let goals = goal_of kit site laid in
        let back = line_address site laid (number - 1) in
        let start = line_address site laid number in
        let form = form_in kit laid number one.line in
        let parts : AreParts kit goals one.line.refer back start form again
        = subst (λ (line : Line Instr). AreParts kit goals line.refer back start (form_in kit laid number line) again) equal two.parts in
        one_joined (IsPart kit goals one.line.refer back start form) (IsPart kit goals one.line.refer back start form)
        (one_part goals one.line.refer back start form) (length form) code again one.parts parts

    pub one_code : (code again : List (Placed Instr)) → IsCode kit site laid code → IsCode kit site other again → code ≡ again
    one_code code again one two =
        let lines : AreJoined (IsLine kit site other) (length laid.body.code) two.code
        = subst (λ (body : Body Instr). AreJoined (IsLine kit site other) (length body.code) two.code) (sym same.body) two.lines in
        let equal : one.code ≡ two.code = one_joined (IsLine kit site laid) (IsLine kit site other) one_line (length laid.body.code)
        one.code two.code one.lines lines in
        one.placed ∙ ap (placed_from kit.set site.entry) equal ∙ sym two.placed

  module _ (laid other : Laid Instr) (same : IsSameLaid laid other) where
    one_depth : (number : ℕ) (depths again : List ℕ) → HasDepth kit laid number depths → HasDepth kit other number again → depths ≡ again
    one_depth number depths again one two =
        let there : slice_get laid.body.code number ≡ Some two.line
        = subst (λ (body : Body Instr). slice_get body.code number ≡ Some two.line) (sym same.body) two.here in
        let equal : one.line ≡ two.line = same_Some one.line two.line (sym one.here ∙ there) in
        one.each ∙ ap (λ (line : Line Instr). replicate (length (form_in kit laid number line)) line.depth) equal
        ∙ ap (λ (sizes : Sizes). replicate (length (kit.aiming.forms two.line.instr (slice_index sizes.forms number))) two.line.depth) same.sizes
        ∙ sym two.each

    pub one_depths : (depths again : List ℕ) → HaveDepths kit laid depths → HaveDepths kit other again → depths ≡ again
    one_depths depths again one two =
        let two' : AreJoined (HasDepth kit other) (length laid.body.code) again
        = subst (λ (body : Body Instr). AreJoined (HasDepth kit other) (length body.code) again) (sym same.body) two in
        one_joined (HasDepth kit laid) (HasDepth kit other) one_depth (length laid.body.code) depths again one two'
