-- All lines of a function.
use Rattle.std.proofs.Common.{◌≡◌, ℕ, zero, suc, ◌+◌, ◌<◌, ◌≤◌, List, [], ◌∷◌, length, Option, Some, slice_index, sym, ap, ◌∙◌, subst, arith, length-append}
use Rattle.std.proofs.lemmas.List.{length-replicate}
use Rattle.asm_target.specs.declared.body.Line.{Line}
use Rattle.asm_target.specs.declared.body.Placed.{Placed}
use Rattle.asm_target.specs.declared.refer.Refer.{Refer}
use Rattle.asm_target.specs.declared.refer.To.{To}
use Rattle.asm_target.proofs.PlaceLemmas.{fit_at}
use Rattle.asm_target.specs.Aiming.{HaveForms}
use Rattle.least_forms.specs.Problem.{at, place}
use Rattle.least_forms.proofs.PlaceLemmas.{place_first}
use Rattle.branch_size.proofs.SizeLemmas.{count_is}
use Rattle.unit_listing.specs.declared.laid.Laid.{Laid}
use Rattle.unit_listing.specs.Joined.{AreJoined}
use Rattle.unit_listing.specs.Kit.{Kit}
use Rattle.link_code.specs.declared.site.Site.{Site}
use Rattle.link_code.specs.Code.{HasDepth, HaveDepths, IsCode, IsLine, IsPart, IsReady, IsTooFar, IsUnreached, begins_at, form_in, lines_in}
use Rattle.link_code.specs.Placed.{AreAdded}
use Rattle.link_code.proofs.AddedLemmas.{length_placed, none_added}

some_same : {X : Type 0} {x y : X} → Some x ≡ Some y → x ≡ y
some_same h = cc

module _ {Instr : Type 0} (kit : Kit Instr) where
  -- there is one instruction for each of a form
  parts_long : (goals : To → Option ℕ) (refer : Option Refer) (back start : ℕ) (form : List Instr) (n : ℕ) (code : List Instr)
      → AreJoined (IsPart kit goals refer back start form) n code → length code ≡ n
  parts_long goals refer back start form zero code none = ap length none
  parts_long goals refer back start form (suc n) code (before, last, are, (i, here, j, aimed, only, one), whole) =
      let rest = parts_long goals refer back start form n before are in
      let single : length last ≡ 1 = ap length one in
      ap length whole ∙ length-append before last ∙ omega (arith, rest, single)

  -- a form has an instruction
  pub form_some : HaveForms kit.set kit.fits kit.aiming → (i : Instr) (form : ℕ) → kit.fits i → form ≤ 1 → 0 < length (kit.aiming.forms i form)
  form_some formed i zero fit most =
      let is = (formed i fit).short in
      let long : length (kit.aiming.forms i 0) ≡ 1 = ap length is.1 in
      omega (arith, long)
  form_some formed i (suc zero) fit most =
      let is = (formed i fit).long in
      let long : length (kit.aiming.forms i 1) ≡ length is.0 + 1 = ap length is.2 ∙ length-append is.0 (is.1 ∷ []) in
      omega (arith, long)
  form_some formed i (suc (suc form)) fit most = absurd (omega arith)

  module _ (site : Site) (laid : Laid Instr) where
    pub line_long : (number : ℕ) (code : List Instr) (is : IsLine kit site laid number code) → length code ≡ length (form_in kit laid number is.line)
    line_long number code is =
        parts_long _ is.line.refer _ _ (form_in kit laid number is.line) (length (form_in kit laid number is.line)) code is.parts

    -- nothing is placed yet
    pub no_lines : (items : List (Placed Instr)) → items ≡ []
        → AreAdded kit.set kit.fits (AreJoined (IsLine kit site laid) 0) site.entry (begins_at kit site laid 0) [] items
    no_lines items none =
        let first : site.entry ≡ begins_at kit site laid 0 =
        let start = place_first (lines_in kit laid) (at laid.sizes.forms) in omega (arith, start) in
        subst (λ (past : ℕ). AreAdded kit.set kit.fits (AreJoined (IsLine kit site laid) 0) site.entry past [] items) first
        (subst (λ (items : List (Placed Instr)). AreAdded kit.set kit.fits (AreJoined (IsLine kit site laid) 0) site.entry site.entry [] items)
        (sym none) (none_added kit.set kit.fits (IsLine kit site laid) site.entry []))

    -- the first line that can't hold what it refers to
    pub first_far : (number here : ℕ) (items : List (Placed Instr)) → number ≡ here → IsTooFar kit site laid here
        → AreAdded kit.set kit.fits (AreJoined (IsLine kit site laid) here) site.entry (begins_at kit site laid here) [] items
        → IsUnreached kit site laid number
    first_far number here items same far added = record {
      far = subst (IsTooFar kit site laid) (sym same) far;
      before = subst (λ (n : ℕ). (code : List Instr) × AreJoined (IsLine kit site laid) n code) (sym same) (added.code, added.are);
    }

    -- each line has an instruction
    some_code : IsReady kit site laid → HaveForms kit.set kit.fits kit.aiming → (number : ℕ) (code : List Instr) → 0 < number
        → AreJoined (IsLine kit site laid) number code → 0 < length code
    some_code ready formed zero code some are = absurd (omega arith)
    some_code ready formed (suc number) code some (before, last, are, is, whole) =
        let fit : kit.fits is.line.instr
        = fit_at (λ (line : Line Instr). kit.fits line.instr) laid.body.code number is.line ready.fit is.here in
        let more = form_some formed is.line.instr (slice_index laid.sizes.forms number) fit (ready.told.form number) in
        let long = line_long number last is in
        let both : length code ≡ length before + length last = ap length whole ∙ length-append before last in
        omega (arith, more, long, both)

    -- with all its lines a function is placed
    pub whole : IsReady kit site laid → HaveForms kit.set kit.fits kit.aiming → (number : ℕ) (items : List (Placed Instr))
        → number ≡ length laid.body.code
        → AreAdded kit.set kit.fits (AreJoined (IsLine kit site laid) number) site.entry (begins_at kit site laid number) [] items
        → IsCode kit site laid items
    whole ready formed number items count added =
        let some = ready.some in
        let lines = count_is kit.set kit.fits kit.aiming kit.quantum (kit.check laid.body.frame) laid.body.code in
        let length_is : laid.sizes.length ≡ place (lines_in kit laid) (at laid.sizes.forms) number
        = ready.sized.whole ∙ ap (place (lines_in kit laid) (at laid.sizes.forms)) (lines ∙ sym count) in
        record {
          code = added.code;
          lines = subst (λ (n : ℕ). AreJoined (IsLine kit site laid) n added.code) count added.are;
          placed = added.behind;
          fit = added.fit;
          some = some_code ready formed number added.code (omega (arith, count, some)) added.are;
          long = omega (arith, added.long, length_is);
        }

    -- each line has as many depths as instructions
    depths_long : (number : ℕ) (code : List Instr) (depths : List ℕ) → AreJoined (IsLine kit site laid) number code
        → AreJoined (HasDepth kit laid) number depths → length depths ≡ length code
    depths_long zero code depths none none' = ap length none' ∙ sym (ap length none)
    depths_long (suc number) code depths (before, last, are, is, whole) (before', last', are', has, whole') =
        let rest = depths_long number before before' are are' in
        let same : has.line ≡ is.line = some_same (sym has.here ∙ is.here) in
        let one : length last' ≡ length (form_in kit laid number has.line)
        = ap length has.each ∙ length-replicate (length (form_in kit laid number has.line)) has.line.depth in
        let other : length last ≡ length (form_in kit laid number has.line)
        = line_long number last is ∙ ap (λ (line : Line Instr). length (form_in kit laid number line)) (sym same) in
        ap length whole' ∙ length-append before' last' ∙ omega (arith, rest, one, other) ∙ sym (ap length whole ∙ length-append before last)

    pub as_many : (items : List (Placed Instr)) (depths : List ℕ) → IsCode kit site laid items → HaveDepths kit laid depths
        → length depths ≡ length items
    as_many items depths is have =
        depths_long (length laid.body.code) is.code depths is.lines have
        ∙ sym (ap length is.placed ∙ length_placed kit.set site.entry is.code)
