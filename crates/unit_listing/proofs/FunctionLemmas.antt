-- A function has one text, or one refusal.
use Rattle.std.proofs.Common.{◌≡◌, ℕ, ◌<◌, ◌≤◌, List, ◌++◌, length, Some, refl, sym, ap, ◌∙◌, subst, inl, inr, arith}
use Rattle.std.specs.Prelude.{All}
use Rattle.std.specs.List.{slice_get}
use Rattle.std.proofs.lemmas.List.{ext_get_or}
use Rattle.goasm_base.specs.declared.pos.Pos.{Pos}
use Rattle.goasm_base.specs.declared.statement.Function.{Function}
use Rattle.goasm_base.specs.Statements.{IsValidFunction}
use Rattle.asm_target.specs.declared.body.Body.{Body}
use Rattle.asm_target.specs.declared.body.Line.{Line}
use Rattle.asm_target.specs.declared.frame.FrameShape.{FrameShape}
use Rattle.asm_target.specs.declared.select_no.SelectNo.{SelectNo}
use Rattle.asm_target.specs.Frames.{IsFrame, greatest_total}
use Rattle.asm_target.specs.Goals.{IsBody}
use Rattle.asm_parse.specs.declared.unit.Symbol.{Symbol}
use Rattle.asm_parse.specs.declared.unit.Unit.{Unit as Said}
use Rattle.asm_parse.specs.Valid.{IsValidUnit}
use Rattle.least_forms.specs.declared.sizes.Sizes.{Sizes}
use Rattle.least_forms.specs.Laws.{IsLawful}
use Rattle.least_forms.specs.Problem.{Problem, at, place}
use Rattle.least_forms.proofs.LeastLemmas.{not_both, one_least, one_lost}
use Rattle.stack_split.specs.FrameSizes.{total_of}
use Rattle.branch_size.specs.Lawful.{TargetLaws, lawful_rows}
use Rattle.branch_size.specs.Rows.{rows_of}
use Rattle.branch_size.specs.Sizing.{IsOutOfReach, IsSized}
use Rattle.branch_size.proofs.RowLemmas.{rows_right}
use Rattle.obj_rewrite.specs.Laws.{IsSettled}
use Rattle.obj_rewrite.specs.Rewriting.{rules_of}
use Rattle.obj_rewrite.proofs.BodyLemmas.{FrameLaws, PickLaws, is_body}
use Rattle.obj_rewrite.proofs.SettledLemmas.{never_refused_at, one_body, one_refusal}
use Rattle.unit_listing.specs.declared.laid.Laid.{Laid}
use Rattle.unit_listing.specs.declared.listing_no.ListingNo.{ListingNo}
use Rattle.unit_listing.specs.declared.listing_no.ListingNo.TheVariants.{RW1, Select, B1, Memory}
use Rattle.unit_listing.specs.Joined.{AreJoined}
use Rattle.unit_listing.specs.Kit.{Kit, IsRewritten, branches, frame_of, guard_of, rules_for}
use Rattle.unit_listing.specs.Laid.{IsLaid, IsSameLaid}
use Rattle.unit_listing.specs.Lines.{IsLine}
use Rattle.unit_listing.specs.Listing.{IsFirstRefusal, IsFunctionText, IsRefused, IsText, IsUnitRefused, IsUnitText, header}
use Rattle.unit_listing.proofs.FrameLemmas.{frame_fits}
use Rattle.unit_listing.proofs.OneLemmas.{never_text, one_first, one_joined, one_text, same_item}
use Rattle.unit_listing.proofs.SaidLemmas.{one_line}

-- what is used of a target's laws
pub record KitLaws {Instr : Type 0} (kit : Kit Instr) : Type 0 where
  pub target : TargetLaws kit.set kit.fits kit.aiming kit.quantum
  pub settled : (frame : FrameShape) → IsSettled (rules_of kit.set kit.shape kit.begins kit.selection frame)
  pub picks : (frame : FrameShape) → IsFrame kit.machine frame
      → PickLaws kit.set kit.fits kit.aiming (rules_of kit.set kit.shape kit.begins kit.selection frame)
  pub frames : (frame : FrameShape) → IsFrame kit.machine frame → FrameLaws kit.fits kit.aiming (kit.check frame) (kit.entry frame)

abbrev sizes_with : List ℕ → List ℕ → ℕ → Sizes
sizes_with forms places count = record { forms = forms; places = places; length = count }

same_sizes : (forms places forms' places' : List ℕ) (count count' : ℕ) → forms ≡ forms' → places ≡ places' → count ≡ count'
    → sizes_with forms places count ≡ sizes_with forms' places' count'
same_sizes forms places forms' places' count count' one two three = cc

one_sizes : (p : Problem) (one other : Sizes) → IsSized p one → IsSized p other → one ≡ other
one_sizes p one other a b =
    let forms : one.forms ≡ other.forms = ext_get_or 0 one.forms other.forms (a.forms ∙ sym b.forms)
    (λ i below. one_least p (at one.forms) (at other.forms) a.least b.least i (omega (arith, a.forms, below))) in
    let places : one.places ≡ other.places = ext_get_or 0 one.places other.places (a.places ∙ sym b.places)
    (λ i below.
    let within : i < p.count = omega (arith, a.places, below) in
    a.each i within ∙ ap (λ forms. place p (at forms) i) forms ∙ sym (b.each i within)) in
    let whole : one.length ≡ other.length = a.whole ∙ ap (λ forms. place p (at forms) p.count) forms ∙ sym b.whole in
    same_sizes one.forms one.places other.forms other.places one.length other.length forms places whole

abbrev body_with : {Instr : Type 0} → FrameShape → List (Line Instr) → Body Instr
body_with frame code = record { frame = frame; code = code }

same_body : {Instr : Type 0} (frame : FrameShape) (code : List (Line Instr)) (frame' : FrameShape) (code' : List (Line Instr))
    → frame ≡ frame' → code ≡ code' → body_with frame code ≡ body_with frame' code'
same_body frame code frame' code' one two = cc

module _ {Instr : Type 0} (kit : Kit Instr) (laws : KitLaws kit) where
  module _ (function : Function) where
    same_parts : (one other : Body Instr) → IsRewritten kit function one → IsRewritten kit function other
        → (one.frame ≡ other.frame) × (one.code ≡ other.code)
    same_parts one other a b =
        one_body (rules_for kit function) (laws.settled (frame_of kit function)) function (frame_of kit function) (guard_of kit function)
        (kit.entry (frame_of kit function)) one other a b

    one_code : (one other : Body Instr) → IsRewritten kit function one → IsRewritten kit function other → one.code ≡ other.code
    one_code one other a b = (same_parts one other a b).1

    pub one_function : (symbols : List Symbol) (text other : List ℕ) → IsFunctionText kit symbols function text
        → IsFunctionText kit symbols function other → text ≡ other
    one_function symbols text other a b =
        let guard = guard_of kit function in
        let code : b.body.code ≡ a.body.code = one_code b.body a.body b.rewritten a.rewritten in
        let sized = subst (λ (code : List (Line Instr)). IsSized (branches kit function code) b.sizes) code b.sized in
        let sizes : b.sizes ≡ a.sizes = one_sizes (branches kit function a.body.code) b.sizes a.sizes sized a.sized in
        let joined = subst (λ (sizes : Sizes). AreJoined (IsLine kit symbols function.flags guard a.body.code sizes) (length a.body.code) b.lines)
        sizes (subst (λ (code : List (Line Instr)). AreJoined (IsLine kit symbols function.flags guard code b.sizes) (length code) b.lines) code b.joined) in
        let lines : a.lines ≡ b.lines = one_joined (IsLine kit symbols function.flags guard a.body.code a.sizes)
        (one_line kit symbols function.flags guard a.body.code a.sizes) (length a.body.code) a.lines b.lines a.joined joined in
        a.whole ∙ ap (λ lines. header symbols function ++ lines) lines ∙ sym b.whole

    pub one_answer : (laid other : Laid Instr) → IsLaid kit function laid → IsLaid kit function other → IsSameLaid laid other
    one_answer laid other a b =
        let parts = same_parts laid.body other.body a.rewritten b.rewritten in
        let sized = subst (λ (code : List (Line Instr)). IsSized (branches kit function code) other.sizes) (sym parts.1) b.sized in
        record {
          flags = a.flags ∙ sym b.flags;
          body = same_body laid.body.frame laid.body.code other.body.frame other.body.code parts.0 parts.1;
          sizes = one_sizes (branches kit function laid.body.code) laid.sizes other.sizes a.sized sized;
        }

    module _ (symbols : ℕ) (valid : IsValidFunction symbols function) where
      lawful : (body : Body Instr) → IsRewritten kit function body → IsLawful (branches kit function body.code)
      lawful body rewritten =
          let frame = frame_of kit function in
          let guard = guard_of kit function in
          let fine : IsFrame kit.machine frame = frame_fits kit.machine symbols function valid rewritten.most in
          let is : IsBody kit.fits kit.aiming guard body.code = is_body kit.set kit.fits kit.aiming (rules_for kit function) function frame guard
          (kit.entry frame) (laws.picks frame fine) (laws.frames frame fine) symbols valid body.code rewritten.lines in
          lawful_rows kit.set kit.fits kit.aiming kit.quantum laws.target (rows_of kit.set kit.aiming guard body.code)
          (rows_right guard body.code kit.set kit.fits kit.aiming is)

      -- a branch out of reach is one of the same instructions
      out_in : (one other : Body Instr) (pos : Pos) (distance : ℕ) → IsRewritten kit function one → IsRewritten kit function other
          → IsOutOfReach (branches kit function other.code) other.code pos distance
          → IsOutOfReach (branches kit function one.code) one.code pos distance
      out_in one other pos distance a b out =
          subst (λ (code : List (Line Instr)). IsOutOfReach (branches kit function code) code pos distance) (one_code other one b a) out

      not_larger : (total : ℕ) → total ≡ total_of kit.machine function → greatest_total < total
          → (frame_of kit function).total ≤ greatest_total → ⊥
      not_larger total is large most =
          let small : total_of kit.machine function ≤ greatest_total = most in
          omega (arith, is, large, small)

      never_select : (body : Body Instr) (pos : Pos) (why : SelectNo) → IsRewritten kit function body
          → IsRefused kit function (Select pos why) → ⊥
      never_select body pos why rewritten refused =
          never_refused_at (rules_for kit function) (laws.settled (frame_of kit function)) function (frame_of kit function)
          (guard_of kit function) (kit.entry (frame_of kit function)) body pos why rewritten refused

      never_lost : (body other : Body Instr) (sizes : Sizes) (pos : Pos) (distance : ℕ) → IsRewritten kit function body
          → IsSized (branches kit function body.code) sizes → IsRewritten kit function other
          → IsOutOfReach (branches kit function other.code) other.code pos distance → ⊥
      never_lost body other sizes pos distance rewritten sized again out =
          let lost = out_in body other pos distance rewritten again out in
          not_both (branches kit function body.code) (lawful body rewritten) (at sizes.forms) lost.form sized.least
          lost.least sized.reaches lost.line distance lost.lost

      pub never_function : (names : List Symbol) (text : List ℕ) (refusal : ListingNo) → IsFunctionText kit names function text
          → IsRefused kit function refusal → ⊥
      never_function names text (RW1 pos total) has refused = not_larger total refused.1 refused.2 has.rewritten.most
      never_function names text (Select pos why) has refused = never_select has.body pos why has.rewritten refused
      never_function names text (B1 pos distance) has (body, rewritten, out) =
          never_lost has.body body has.sizes pos distance has.rewritten has.sized rewritten out
      never_function names text Memory has refused = refused

      -- a function that is laid out isn't refused
      pub never_answer : (laid : Laid Instr) (refusal : ListingNo) → IsLaid kit function laid → IsRefused kit function refusal → ⊥
      never_answer laid (RW1 pos total) is refused = not_larger total refused.1 refused.2 is.rewritten.most
      never_answer laid (Select pos why) is refused = never_select laid.body pos why is.rewritten refused
      never_answer laid (B1 pos distance) is (body, rewritten, out) = never_lost laid.body body laid.sizes pos distance is.rewritten is.sized rewritten out
      never_answer laid Memory is refused = refused

      same_select : (pos pos' : Pos) (why why' : SelectNo) → pos ≡ pos' → why ≡ why' → Select pos why ≡ Select pos' why'
      same_select pos pos' why why' one two = cc

      same_reach : (pos pos' : Pos) (far far' : ℕ) → pos ≡ pos' → far ≡ far' → B1 pos far ≡ B1 pos' far'
      same_reach pos pos' far far' one two = cc

      same_large : (pos pos' : Pos) (total total' : ℕ) → pos ≡ pos' → total ≡ total' → RW1 pos total ≡ RW1 pos' total'
      same_large pos pos' total total' one two = cc

      pub one_refused : (refusal other : ListingNo) → IsRefused kit function refusal → IsRefused kit function other → refusal ≡ other
      one_refused Memory other none b = absurd none
      one_refused (RW1 pos total) Memory a none = absurd none
      one_refused (Select pos why) Memory a none = absurd none
      one_refused (B1 pos far) Memory a none = absurd none
      one_refused (RW1 pos total) (RW1 pos' total') a b = same_large pos pos' total total' (a.0 ∙ sym b.0) (a.1 ∙ sym b.1)
      one_refused (RW1 pos total) (Select pos' why) a b = absurd (not_larger total a.1 a.2 b.0)
      one_refused (RW1 pos total) (B1 pos' far) a (body, rewritten, out) = absurd (not_larger total a.1 a.2 rewritten.most)
      one_refused (Select pos why) (RW1 pos' total) a b = absurd (not_larger total b.1 b.2 a.0)
      one_refused (Select pos why) (Select pos' why') a b =
          let same = one_refusal (rules_for kit function) (laws.settled (frame_of kit function)) function (frame_of kit function)
          (guard_of kit function) (kit.entry (frame_of kit function)) pos pos' why why' a b in
          same_select pos pos' why why' same.0 same.1
      one_refused (Select pos why) (B1 pos' far) a (body, rewritten, out) = absurd (never_select body pos why rewritten a)
      one_refused (B1 pos far) (RW1 pos' total) (body, rewritten, out) b = absurd (not_larger total b.1 b.2 rewritten.most)
      one_refused (B1 pos far) (Select pos' why) (body, rewritten, out) b = absurd (never_select body pos' why rewritten b)
      one_refused (B1 pos far) (B1 pos' far') (body, rewritten, out) (body', rewritten', out') =
          let lost = out_in body body' pos' far' rewritten rewritten' out' in
          let same = one_lost (branches kit function body.code) (lawful body rewritten) out.form lost.form out.line far lost.line far'
          out.least lost.least out.lost lost.lost in
          let item : out.item ≡ lost.item = same_item (sym out.here ∙ ap (slice_get body.code) same.0 ∙ lost.here) in
          same_reach pos pos' far far' (sym out.at ∙ ap (λ (line : Line Instr). line.pos) item ∙ lost.at) same.1

  pub one_laid : (function : Function) (laid other : Laid Instr) → IsLaid kit function laid → IsLaid kit function other
      → IsSameLaid laid other
  one_laid function = one_answer function

  pub never_laid : (symbols : ℕ) (function : Function) (laid : Laid Instr) (refusal : ListingNo) → IsValidFunction symbols function
      → IsLaid kit function laid → IsRefused kit function refusal → ⊥
  never_laid symbols function laid refusal valid = never_answer function symbols valid laid refusal

  pub first_laid : (symbols : ℕ) (function : Function) (refusal other : ListingNo) → IsValidFunction symbols function
      → IsRefused kit function refusal → IsRefused kit function other → refusal ≡ other
  first_laid symbols function refusal other valid = one_refused function symbols valid refusal other

  -- Units

  one_unit : (unit : Said) (text other : List ℕ) → IsUnitText kit unit text → IsUnitText kit unit other → text ≡ other
  one_unit unit = one_text (IsFunctionText kit unit.symbols) (λ function. one_function function unit.symbols) unit.functions

  never_unit : (unit : Said) (text : List ℕ) (refusal : ListingNo) → IsValidUnit unit → IsUnitText kit unit text
      → IsUnitRefused kit unit refusal → ⊥
  never_unit unit text refusal valid =
      never_text (IsFunctionText kit unit.symbols) (IsRefused kit) (IsValidFunction (length unit.symbols))
      (λ function text refusal fine. never_function function (length unit.symbols) fine unit.symbols text refusal)
      unit.functions text refusal valid.functions

  one_unit_refused : (unit : Said) (refusal other : ListingNo) → IsValidUnit unit → IsUnitRefused kit unit refusal
      → IsUnitRefused kit unit other → refusal ≡ other
  one_unit_refused unit refusal other valid =
      one_first (IsFunctionText kit unit.symbols) (IsRefused kit) (IsValidFunction (length unit.symbols))
      (λ function text refusal fine. never_function function (length unit.symbols) fine unit.symbols text refusal)
      (λ function refusal other fine. one_refused function (length unit.symbols) fine refusal other)
      unit.functions refusal other valid.functions

  pub one_listing : (units : List Said) (text other : List ℕ) → IsText kit units text → IsText kit units other → text ≡ other
  one_listing units = one_text (IsUnitText kit) one_unit units

  pub never_listing : (units : List Said) (text : List ℕ) (refusal : ListingNo) → All IsValidUnit units → IsText kit units text
      → IsFirstRefusal kit units refusal → ⊥
  never_listing units text refusal valid = never_text (IsUnitText kit) (IsUnitRefused kit) IsValidUnit never_unit units text refusal valid

  pub first_listing : (units : List Said) (refusal other : ListingNo) → All IsValidUnit units → IsFirstRefusal kit units refusal
      → IsFirstRefusal kit units other → refusal ≡ other
  first_listing units refusal other valid =
      one_first (IsUnitText kit) (IsUnitRefused kit) IsValidUnit never_unit one_unit_refused units refusal other valid
