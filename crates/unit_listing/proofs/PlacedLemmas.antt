-- The places of a laid function's lines, and of a refusal, are those of functions and statements.
use Rattle.std.proofs.Common.{◌≡◌, ◌<◌, ◌+◌, ℕ, ℤ, ◌||◌, length, Bool, true, false, List, [], ◌∷◌, ◌++◌, map, Option, Some, None, Err, sym, subst, refl, inl, inr, arith, if◌then◌else◌}
use Rattle.std.specs.Prelude.{◌≢◌, All}
use Rattle.std.specs.List.{slice_get}
use Rattle.std.proofs.lemmas.List.Elements.{All-append, All-cons, All-get_or, All-head, All-nil, All-push, All-tail}
use Rattle.std.proofs.lemmas.Option.{slice_get_within, get_or_from_slice_get}
use Rattle.goasm_base.specs.declared.pos.Pos.{Pos}
use Rattle.goasm_base.specs.declared.statement.Function.{Function}
use Rattle.goasm_base.specs.declared.statement.Stmt.{Stmt}
use Rattle.asm_target.specs.declared.body.Body.{Body}
use Rattle.asm_target.specs.declared.body.Line.{Line}
use Rattle.asm_target.specs.declared.refer.Picked.{Picked}
use Rattle.asm_target.specs.declared.select_no.SelectNo.{SelectNo}
use Rattle.asm_parse.specs.declared.unit.Unit.{Unit as Said}
use Rattle.asm_parse.specs.Placed.{FunctionIn, IsIn, StatementIn, UnitIn}
use Rattle.stack_split.specs.FrameSizes.{is_checked}
use Rattle.stack_split.specs.Opening.{opening}
use Rattle.obj_rewrite.specs.Rewriting.{Code, Refuses, Rewrites, Rules, added, all_added, code_of, line_of}
use Rattle.obj_rewrite.specs.Rewritten.{IsUnwritten, appended, closing, opened, self_jump}
use Rattle.obj_rewrite.specs.Words.{is_goal, is_return, runs_on}
use Rattle.unit_listing.specs.declared.listing_no.ListingNo.{ListingNo}
use Rattle.unit_listing.specs.declared.listing_no.ListingNo.TheVariants.{RW1, Select, B1, Memory}
use Rattle.unit_listing.specs.Kit.{Kit, IsRewritten, frame_of, guard_of, rules_for}
use Rattle.unit_listing.specs.Listing.{IsFirstRefusal, IsRefused, NoIn}

-- what holds of all items holds of one
pub of_item : {X : Type 0} (P : X → Type 0) (items : List X) (number : ℕ) (item : X) → All P items → slice_get items number ≡ Some item → P item
of_item P items number item all here =
    subst P (get_or_from_slice_get items number item item here)
    (All-get_or P items number item (slice_get_within items number item here) all)

-- what is appended stands at the function's place
jump_in : (count : ℕ) (function : Function) (b : Bool) → IsIn count function.pos
    → All (StatementIn count) (if b then self_jump function ∷ [] else [])
jump_in count function true here = All-cons (StatementIn count) (self_jump function) [] here (All-nil (StatementIn count))
jump_in count function false here = All-nil (StatementIn count)

module _ {Instr : Type 0} (count : ℕ) where
  abbrev pub LineIn : Line Instr → Type 0
  LineIn line = IsIn count line.pos

  abbrev CodeIn : Code Instr → Type 0
  CodeIn code = All LineIn code.lines

  either : (b : Bool) (one other : Code Instr) → CodeIn one → CodeIn other → CodeIn (if b then one else other)
  either true one other a b = a
  either false one other a b = b

  module _ (change : List Instr → List ℕ → List Bool → ℤ) where
    added_in : (code : Code Instr) (pick : Picked Instr) (place : Pos) (stmt : Option ℕ) → CodeIn code → IsIn count place
        → CodeIn (added change code pick place stmt)
    unfolding added
    added_in code pick place stmt all here = All-push LineIn code.lines (line_of pick place code.depth stmt) all here

    all_added_in : (picks : List (Picked Instr)) (code : Code Instr) (place : Pos) (stmt : Option ℕ) → CodeIn code → IsIn count place
        → CodeIn (all_added change code picks place stmt)
    all_added_in [] code place stmt all here = all
    all_added_in (pick ∷ picks) code place stmt all here =
        all_added_in picks (added change code pick place stmt) place stmt (added_in code pick place stmt all here) here

  module _ (rules : Rules Instr) (goals : ℕ → Bool) where
    rewrites_in : (stmts : List Stmt) (number : ℕ) (before after : Code Instr) → All (StatementIn count) stmts → CodeIn before
        → Rewrites rules goals stmts number before after → CodeIn after
    rewrites_in [] number before after places all same = subst CodeIn (sym same) all
    rewrites_in (stmt ∷ stmts) number before after places all (between, (picks, becomes, same), rest) =
        let here : IsIn count stmt.pos = All-head (StatementIn count) stmt stmts places in
        let code = all_added rules.change (record before { awaited = before.awaited || goals number }) picks stmt.pos (Some number) in
        let inside : CodeIn code = all_added_in rules.change picks (record before { awaited = before.awaited || goals number }) stmt.pos (Some number) all here in
        rewrites_in stmts (number + 1) between after (All-tail (StatementIn count) stmt stmts places)
        (subst CodeIn (sym same) (either (is_return stmt) (record code { depth = before.depth }) code inside inside)) rest

    refuses_in : (stmts : List Stmt) (number : ℕ) (before : Code Instr) (place : Pos) (why : SelectNo) → All (StatementIn count) stmts
        → Refuses rules goals stmts number before place why → place.file < count
    refuses_in [] number before place why places none = absurd none
    refuses_in (stmt ∷ stmts) number before place why places (inl here) =
        subst (λ (place : Pos). place.file < count) (sym here.1) (All-head (StatementIn count) stmt stmts places).file
    refuses_in (stmt ∷ stmts) number before place why places (inr (between, step, rest)) =
        refuses_in stmts (number + 1) between place why (All-tail (StatementIn count) stmt stmts places) rest

  block_in : (place : Pos) (picks : List (Picked Instr)) → IsIn count place → All LineIn (map (λ pick. line_of pick place 0 None) picks)
  block_in place [] here = All-nil LineIn
  block_in place (pick ∷ picks) here =
      All-cons LineIn (line_of pick place 0 None) (map (λ pick. line_of pick place 0 None) picks) here (block_in place picks here)

module _ {Instr : Type 0} (kit : Kit Instr) (count : ℕ) (function : Function) (places : FunctionIn count function) where
  -- where its instructions come from
  opened_in : CodeIn count (opened (rules_for kit function) function (frame_of kit function) (guard_of kit function) (kit.entry (frame_of kit function)))
  opened_in =
      all_added_in count (rules_for kit function).change
      (opening (guard_of kit function) (kit.entry (frame_of kit function)) (is_checked function (frame_of kit function)))
      (code_of [] [] 0 false) function.pos None (All-nil (LineIn count)) places.pos

  -- each line of its body stands in one of the files, on a line that a source can have
  pub body_in : (body : Body Instr) → IsRewritten kit function body → All (LineIn count) body.code
  body_in body rewritten =
      let rules = rules_for kit function in
      let written = rewritten.lines.written in
      let before = rewrites_in count rules (is_goal function.stmts) function.stmts 0
      (opened rules function (frame_of kit function) (guard_of kit function) (kit.entry (frame_of kit function))) written.before
      places.stmts opened_in written.statements in
      let code = rewrites_in count rules (λ number. false) (appended function) (length function.stmts) written.before rewritten.lines.code
      (jump_in count function (runs_on function.stmts) places.pos) before written.jump in
      let block = closing (is_checked function (frame_of kit function)) (guard_of kit function) in
      subst (All (LineIn count)) (sym rewritten.lines.whole)
      (All-append (LineIn count) rewritten.lines.code.lines (map (λ pick. line_of pick function.pos 0 None) block) code
      (block_in count function.pos block places.pos))

  unwritten_in : (place : Pos) (why : SelectNo)
      → IsUnwritten (rules_for kit function) function (opened (rules_for kit function) function (frame_of kit function) (guard_of kit function)
      (kit.entry (frame_of kit function))) place why → place.file < count
  unwritten_in place why (inl refused) =
      refuses_in count (rules_for kit function) (is_goal function.stmts) function.stmts 0
      (opened (rules_for kit function) function (frame_of kit function) (guard_of kit function) (kit.entry (frame_of kit function)))
      place why places.stmts refused
  unwritten_in place why (inr (before, statements, refused)) =
      refuses_in count (rules_for kit function) (λ number. false) (appended function) (length function.stmts) before place why
      (jump_in count function (runs_on function.stmts) places.pos) refused

  refused_in : (refusal : ListingNo) → IsRefused kit function refusal → NoIn count refusal
  refused_in (RW1 place total) refused = subst (λ (place : Pos). place.file < count) (sym refused.0) places.pos.file
  refused_in (Select place why) refused = unwritten_in place why refused.1
  refused_in (B1 place distance) (body, rewritten, out) =
      subst (λ (place : Pos). place.file < count) out.at
      (of_item (LineIn count) body.code out.line out.item (body_in body rewritten) out.here).file
  refused_in Memory refused = tt

module _ {Instr : Type 0} (kit : Kit Instr) (count : ℕ) (units : List Said) where
  first_in : (refusal : ListingNo) → All (UnitIn count) units → IsFirstRefusal kit units refusal → NoIn count refusal
  first_in refusal all first =
      let unit = of_item (UnitIn count) units first.number first.item all first.here in
      let within = first.refused in
      let function = of_item (FunctionIn count) first.item.functions within.number within.item unit.functions within.here in
      refused_in kit count within.item function refusal within.refused

  -- want of memory has no place
  pub placed : (refusal : ListingNo) → All (UnitIn count) units → (refusal ≢ Memory → IsFirstRefusal kit units refusal) → NoIn count refusal
  placed (RW1 place total) all first = first_in (RW1 place total) all (first (λ same. cc))
  placed (Select place why) all first = first_in (Select place why) all (first (λ same. cc))
  placed (B1 place distance) all first = first_in (B1 place distance) all (first (λ same. cc))
  placed Memory all first = tt
