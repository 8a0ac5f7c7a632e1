-- The lines of a laid function stand one behind the other, at whole quanta.
use Rattle.std.proofs.Common.{◌≡◌, ◌<◌, ◌≤◌, ◌+◌, ◌%◌, ◌^◌, ℕ, suc, get_or, length, List, [], ◌∷◌, All, sym, ap, ◌∙◌, subst, refl, arith, length-append}
use Rattle.std.specs.Prelude.{replicate, slice_index}
use Rattle.std.specs.List.{flat_map}
use Rattle.std.proofs.lemmas.List.{get_or_default, length-replicate}
use Rattle.std.proofs.lemmas.List.Elements.{All-head}
use Rattle.goasm_base.specs.declared.statement.Function.{Function}
use Rattle.goasm_base.specs.Statements.{IsValidFunction}
use Rattle.asm_target.specs.declared.frame.FrameShape.{FrameShape}
use Rattle.asm_target.specs.Aiming.{bytes_of}
use Rattle.asm_target.specs.Frames.{IsFrame}
use Rattle.asm_target.specs.Goals.{IsBody}
use Rattle.asm_target.specs.Laws.{HasLengths}
use Rattle.asm_target.proofs.PlaceLemmas.{fit_at, item_at}
use Rattle.least_forms.specs.Laws.{IsLawful}
use Rattle.least_forms.specs.Problem.{HasRoom, at, place}
use Rattle.least_forms.proofs.PlaceLemmas.{place_small, place_whole}
use Rattle.branch_size.specs.Lawful.{lawful_rows}
use Rattle.branch_size.specs.Rows.{problem_of, rows_of}
use Rattle.branch_size.specs.Sizing.{branches_of}
use Rattle.branch_size.proofs.RoomLemmas.{has_room}
use Rattle.branch_size.proofs.RowLemmas.{rows_right}
use Rattle.branch_size.proofs.SizeLemmas.{count_is}
use Rattle.obj_rewrite.proofs.BodyLemmas.{has_room as few_bytes, is_body}
use Rattle.unit_listing.specs.declared.laid.Laid.{Laid}
use Rattle.unit_listing.specs.Kit.{Kit, frame_of, guard_of, rules_for}
use Rattle.unit_listing.specs.Laid.{IsLaid}
use Rattle.unit_listing.proofs.FrameLemmas.{frame_fits}
use Rattle.unit_listing.proofs.FunctionLemmas.{KitLaws}
use Rattle.link_code.specs.declared.site.Site.{Site}
use Rattle.link_code.specs.Code.{IsReady, begins_at, form_in, lines_in}
use Rattle.link_code.proofs.LineLemmas.{line_ends}
use Rattle.link_code.proofs.ReadyLemmas.{ready}
use Rattle.link_code.proofs.WholeLemmas.{form_some}
use Rattle.link_tables.specs.Rows.{HaveBytes, end_before}

module _ (f : ℕ → ℕ) where
  pub end_is : (places : List ℕ) (from end : ℕ) → ((k : ℕ) → k < length places → get_or places k 0 ≡ f (from + k))
      → end ≡ f (from + length places) → end_before places end ≡ f from
  end_is [] from end each last = (let same : from + 0 ≡ from = omega arith in last ∙ ap f same)
  end_is (place ∷ places) from end each last = (let same : from + 0 ≡ from = omega arith in each 0 (omega arith) ∙ ap f same)

  -- places that rise are those of lines which have bytes
  pub have_bytes : (places : List ℕ) (from end : ℕ) → ((k : ℕ) → k < length places → get_or places k 0 ≡ f (from + k))
      → end ≡ f (from + length places) → ((k : ℕ) → k < length places → f (from + k) < f (from + k + 1)) → HaveBytes places end
  have_bytes [] from end each last rises = tt
  have_bytes (place ∷ places) from end each last rises =
      let next : (k : ℕ) → f (from + suc k) ≡ f (from + 1 + k) = λ k. (let same : from + suc k ≡ from + 1 + k = omega arith in ap f same) in
      let each' : (k : ℕ) → k < length places → get_or places k 0 ≡ f (from + 1 + k)
      = λ k below. each (suc k) (omega (arith, below)) ∙ next k in
      let last' : end ≡ f (from + 1 + length places) = last ∙ next (length places) in
      let rises' : (k : ℕ) → k < length places → f (from + 1 + k) < f (from + 1 + k + 1)
      = λ k below.
      (let step = rises (suc k) (omega (arith, below)) in
      let after : f (from + suc k + 1) ≡ f (from + 1 + k + 1) = (let same : from + suc k + 1 ≡ from + 1 + k + 1 = omega arith in ap f same) in
      omega (arith, step, next k, after)) in
      let here : place ≡ f (from + 0) = each 0 (omega arith) in
      let step : f (from + 0) < f (from + 0 + 1) = rises 0 (omega arith) in
      let same : f (from + 0 + 1) ≡ f (from + 1) = (let n : from + 0 + 1 ≡ from + 1 = omega arith in ap f n) in
      let ends = end_is places (from + 1) end each' last' in
      (omega (arith, here, step, same, ends), have_bytes places (from + 1) end each' last' rises')

module _ {Instr : Type 0} (kit : Kit Instr) where
  bytes_some : HasLengths kit.set kit.fits kit.quantum → (code : List Instr) → All kit.fits code → 0 < length code → 0 < bytes_of kit.set code
  bytes_some lengths [] fit some = absurd (omega arith)
  bytes_some lengths (i ∷ code) fit some =
      omega (arith, length-append (kit.set.spelling i) (flat_map kit.set.spelling code), (lengths i (All-head kit.fits i code fit)).least)

  -- a site whose unit has so many symbols
  abbrev site_with : ℕ → Site
  site_with symbols = record { entry = 0; addresses = record { ref_ptr = (0, 0); now = replicate symbols 0 }; growth = 0 }

  quantum_is : (laid : Laid Instr) → (lines_in kit laid).quantum ≡ kit.quantum
  unfolding problem_of
  quantum_is laid = refl

  module _ (laws : KitLaws kit) (symbols : ℕ) (function : Function) (valid : IsValidFunction symbols function) (laid : Laid Instr)
      (is : IsLaid kit function laid) where
    abbrev site : Site
    site = site_with symbols

    known : IsReady kit site laid
    known =
        ready kit laws site laid
        (function, subst (λ n. IsValidFunction n function) (sym (length-replicate symbols 0)) valid, is)

    fine : IsFrame kit.machine (frame_of kit function)
    fine = frame_fits kit.machine symbols function valid is.rewritten.most

    body : IsBody kit.fits kit.aiming (guard_of kit function) laid.body.code
    body =
        is_body kit.set kit.fits kit.aiming (rules_for kit function) function (frame_of kit function) (guard_of kit function)
        (kit.entry (frame_of kit function)) (laws.picks (frame_of kit function) fine) (laws.frames (frame_of kit function) fine) symbols valid
        laid.body.code is.rewritten.lines

    lawful : IsLawful (lines_in kit laid)
    lawful =
        subst (λ (frame : FrameShape). IsLawful (branches_of kit.set kit.fits kit.aiming kit.quantum (kit.check frame) laid.body.code))
        (sym is.rewritten.same)
        (lawful_rows kit.set kit.fits kit.aiming kit.quantum laws.target (rows_of kit.set kit.aiming (guard_of kit function) laid.body.code)
        (rows_right (guard_of kit function) laid.body.code kit.set kit.fits kit.aiming body))

    room : HasRoom (lines_in kit laid)
    room =
        has_room kit.set kit.fits kit.aiming kit.quantum (kit.check laid.body.frame) laid.body.code
        (few_bytes kit.set kit.fits kit.aiming (rules_for kit function) function (frame_of kit function) (guard_of kit function)
        (kit.entry (frame_of kit function)) (laws.picks (frame_of kit function) fine) (laws.frames (frame_of kit function) fine) symbols kit.quantum
        laws.target.formed laws.target.lengths valid laid.body.code is.rewritten.lines)

    -- where the line of this number begins
    abbrev pub begins : ℕ → ℕ
    begins number = place (lines_in kit laid) (at laid.sizes.forms) number

    count : (lines_in kit laid).count ≡ length laid.body.code
    count = count_is kit.set kit.fits kit.aiming kit.quantum (kit.check laid.body.frame) laid.body.code

    pub some_lines : 0 < length laid.body.code
    some_lines = known.some

    pub as_many : length laid.sizes.places ≡ length laid.body.code
    as_many = known.told.places

    pub each_place : (number : ℕ) → number < length laid.sizes.places → get_or laid.sizes.places number 0 ≡ begins (0 + number)
    each_place number below =
        let same : number ≡ 0 + number = omega arith in
        known.sized.each number (omega (arith, below, as_many, count)) ∙ ap begins same

    pub whole_length : laid.sizes.length ≡ begins (0 + length laid.sizes.places)
    whole_length =
        let same : (lines_in kit laid).count ≡ 0 + length laid.sizes.places = omega (arith, as_many, count) in
        known.sized.whole ∙ ap begins same

    -- each line has a byte
    line_rises : (number : ℕ) → number < length laid.sizes.places → begins (0 + number) < begins (0 + number + 1)
    line_rises number below =
        let found = item_at laid.body.code number (omega (arith, below, as_many)) in
        let line = found.0 in
        let form = form_in kit laid number line in
        let most : slice_index laid.sizes.forms number ≤ 1 = known.told.form number in
        let fit = fit_at (λ line. kit.fits line.instr) laid.body.code number line known.fit found.1 in
        let some = form_some kit laws.target.formed line.instr (slice_index laid.sizes.forms number) fit most in
        let bytes = bytes_some laws.target.lengths form ((laws.target.formed line.instr fit).fit (slice_index laid.sizes.forms number) most) some in
        let next : begins_at kit site laid (number + 1) ≡ begins_at kit site laid number + bytes_of kit.set form
        = line_ends kit site laid known number line found.1 in
        let one : begins (0 + number) ≡ begins number = (let n : 0 + number ≡ number = omega arith in ap begins n) in
        let two : begins (0 + number + 1) ≡ begins (number + 1) = (let n : 0 + number + 1 ≡ number + 1 = omega arith in ap begins n) in
        omega (arith, next, bytes, one, two)

    pub lines_have_bytes : HaveBytes laid.sizes.places laid.sizes.length
    lines_have_bytes = have_bytes begins laid.sizes.places 0 laid.sizes.length each_place whole_length line_rises

    pub short : laid.sizes.length < 2 ^ 32
    short =
        let small = place_small (lines_in kit laid) lawful room (at laid.sizes.forms) known.told.form (lines_in kit laid).count (omega arith) in
        omega (arith, known.sized.whole, small)

    begins_whole : (number : ℕ) → begins number % kit.quantum ≡ 0
    begins_whole number =
        subst (λ (quantum : ℕ). begins number % quantum ≡ 0) (quantum_is laid)
        (place_whole (lines_in kit laid) lawful (at laid.sizes.forms) known.told.form number)

    pub whole_places : All (λ place. place % kit.quantum ≡ 0) laid.sizes.places
    whole_places = λ number d below.
        subst (λ (place : ℕ). place % kit.quantum ≡ 0) (sym (get_or_default laid.sizes.places number d 0 below ∙ each_place number below))
        (begins_whole (0 + number))

    pub whole_end : laid.sizes.length % kit.quantum ≡ 0
    whole_end = subst (λ (place : ℕ). place % kit.quantum ≡ 0) (sym whole_length) (begins_whole (0 + length laid.sizes.places))
