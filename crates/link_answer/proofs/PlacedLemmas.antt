-- What refuses a build stands in one of its files, and is never want of memory.
use Rattle.std.proofs.Common.{◌<◌, ◌+◌, ℕ, Bool, true, false, List, [], ◌∷◌, length, refl, sym, subst, inl, inr}
use Rattle.std.specs.Prelude.{◌≢◌, All, if◌then◌else◌}
use Rattle.std.proofs.lemmas.List.Elements.{All-cons, All-nil}
use Rattle.goasm_base.specs.declared.pos.Pos.{Pos}
use Rattle.goasm_base.specs.declared.statement.Function.{Function}
use Rattle.goasm_base.specs.declared.statement.Stmt.{Stmt}
use Rattle.asm_parse.specs.Placed.{DataIn, FunctionIn, GlobalIn, UnitIn}
use Rattle.asm_parse.specs.declared.unit.Unit.{Unit as Said}
use Rattle.asm_target.specs.declared.select_no.SelectNo.{SelectNo}
use Rattle.asm_target.specs.declared.select_no.SelectNo.TheVariants as selection
use Rattle.branch_size.specs.declared.size_no.SizeNo.TheVariants as sizing
use Rattle.flow_rules.specs.declared.flow_no.FlowNo.{FlowNo}
use Rattle.obj_rewrite.specs.Rewriting.{Code, Refuses, Rules}
use Rattle.obj_rewrite.specs.Rewritten.{IsRefusedAt, appended, opened}
use Rattle.obj_rewrite.specs.Words.{is_goal}
use Rattle.obj_rewrite.specs.declared.rewrite_no.RewriteNo.TheVariants as rewriting
use Rattle.unit_listing.specs.declared.listing_no.ListingNo.{ListingNo}
use Rattle.unit_listing.specs.declared.listing_no.ListingNo.TheVariants as listing
use Rattle.unit_listing.specs.Kit.{Kit, frame_of, guard_of, rules_for}
use Rattle.unit_listing.specs.Listing.{IsFirstRefusal as IsFirstUnlisted, IsRefused, NoIn}
use Rattle.unit_listing.proofs.PlacedLemmas.{LineIn, body_in, placed}
use Rattle.link_names.specs.Definitions.{Entry}
use Rattle.link_functions.specs.Kept.{is_kept, kept, kept_in, kept_of}
use Rattle.link_functions.specs.declared.code.UnitCode.{UnitCode}
use Rattle.link_build.specs.declared.build.Build.{Build}
use Rattle.link_build.specs.declared.link_no.LinkNo.{LinkNo}
use Rattle.link_build.specs.declared.link_no.LinkNo.TheVariants as cause
use Rattle.link_build.specs.Functions.{IsSound, functions_in}
use Rattle.link_build.specs.Refusals.{IsUnlaid}
use Rattle.link_build.specs.Resolved.{IsResolved, IsValidBuild}
use Rattle.link_build.proofs.PlaceLemmas.{all_each, all_got}
use Rattle.build_answer.proofs.ListLemmas.{all_between}
use Rattle.image_link.specs.Refusals.{BreaksRules, IsFirstRefusal}
use Rattle.link_answer.specs.Placed.{IsPlacedIn}

-- a function stands in one of so many files, and so do its statements
abbrev StandsIn : ℕ → ℕ × Function → Type 0
StandsIn count one = FunctionIn count one.1

-- the functions of the units that count
kept_stand : (count : ℕ) (names : List Entry) (units : List Said) → All (UnitIn count) units → All (StandsIn count) (kept_of names units)
kept_stand count names units within =
    all_each (kept_in names) (StandsIn count) units (λ unit said there.
    let inside = all_got (UnitIn count) units unit said within there in
    all_each (kept names unit said.symbols) (StandsIn count) said.functions (λ number function here.
    if_kept (is_kept names unit said.symbols number function) number function
    (all_got (FunctionIn count) said.functions number function inside.functions here)))
  where
    if_kept : (is : Bool) (number : ℕ) (function : Function) → FunctionIn count function
        → All (StandsIn count) (if is then (number, function) ∷ [] else [])
    if_kept true number function inside = All-cons (StandsIn count) (number, function) [] inside (All-nil (StandsIn count))
    if_kept false number function inside = All-nil (StandsIn count)

-- a statement is refused for a reason
refuses_real : {Instr : Type 0} (rules_of : Rules Instr)
    → ((stmt : Stmt) (depth : ℕ) (why : SelectNo) → rules_of.refuses stmt depth why → why ≢ selection.Memory)
    → (goals : ℕ → Bool) (stmts : List Stmt) (number : ℕ) (before : Code Instr) (place : Pos) (why : SelectNo)
    → Refuses rules_of goals stmts number before place why → why ≢ selection.Memory
refuses_real rules_of real goals [] number before place why refused = absurd refused
refuses_real rules_of real goals (stmt ∷ stmts) number before place why (inl (refused, at)) = real stmt before.depth why refused
refuses_real rules_of real goals (stmt ∷ stmts) number before place why (inr (between, step, later)) =
    refuses_real rules_of real goals stmts (number + 1) between place why later

module _ {Instr : Type 0} (kit : Kit Instr) where
  -- a function that is refused is the first of a unit that has no other
  refused_in : (count : ℕ) (function : Function) → FunctionIn count function → (refusal : ListingNo) → IsRefused kit function refusal
      → NoIn count refusal
  refused_in count function inside refusal refused =
      let alone : Said = record { symbols = []; functions = function ∷ []; values = []; globals = [] } in
      let within : UnitIn count alone = record {
        functions = All-cons (FunctionIn count) function [] inside (All-nil (FunctionIn count));
        values = All-nil (DataIn count);
        globals = All-nil (GlobalIn count);
      } in
      let first : IsFirstUnlisted kit (alone ∷ []) refusal = record {
        number = 0;
        item = alone;
        here = refl;
        before = ([], refl);
        refused = record { number = 0; item = function; here = refl; before = ([], refl); refused = refused };
      } in
      placed kit count (alone ∷ []) refusal (All-cons (UnitIn count) alone [] within (All-nil (UnitIn count))) (λ real. first)

  refused_really : (function : Function) (place : Pos) (why : SelectNo)
      → IsRefusedAt (rules_for kit function) function (frame_of kit function) (guard_of kit function) (kit.entry (frame_of kit function))
      place why → why ≢ selection.Memory
  refused_really function place why refused =
      let rules_of = rules_for kit function in
      let real : (stmt : Stmt) (depth : ℕ) (why : SelectNo) → rules_of.refuses stmt depth why → why ≢ selection.Memory
      = λ stmt depth why refused. refused.1 in
      let begun = opened rules_of function (frame_of kit function) (guard_of kit function) (kit.entry (frame_of kit function)) in
      elim refused.1 [
        | inl first ↦ refuses_real rules_of real (is_goal function.stmts) function.stmts 0 begun place why first
        | inr later ↦
            refuses_real rules_of real (λ number. false) (appended function) (length function.stmts) later.0 place why later.2
      ]

  module _ (build : Build) (valid : IsValidBuild build)
      (sound : (names : List Entry) (code : List (UnitCode Instr)) → IsResolved kit build names code
      → All (IsSound kit build) (functions_in code)) where
    abbrev files : ℕ
    files = length build.files

    unlaid_inside : (refusal : ListingNo) (bad : IsUnlaid kit build refusal) → FunctionIn files bad.first.kept.1
    unlaid_inside refusal bad =
        all_between (StandsIn files) bad.first.before bad.first.kept bad.first.behind
        (subst (All (StandsIn files)) bad.first.whole (kept_stand files bad.names build.units valid.placed))

    unlaid_in : (refusal : ListingNo) → IsUnlaid kit build refusal → NoIn files refusal
    unlaid_in refusal bad = refused_in files bad.first.kept.1 (unlaid_inside refusal bad) refusal bad.first.refused

    breach_in : (pos : Pos) (refusal : FlowNo) → BreaksRules kit build (cause.Flow pos refusal) → pos.file < files
    breach_in pos refusal bad =
        let first = bad.first in
        let is = all_got (IsSound kit build) (functions_in bad.code) first.number first.func (sound bad.names bad.code bad.placed.fit.resolved)
        first.here in
        let from = first.broken.at in
        let body = first.func.part.laid.body in
        let lines = body_in kit files first.func.part.function.now is.placed body is.laid.rewritten in
        let line = all_got (LineIn files) body.code from.line from.item lines from.said in
        subst (λ (pos : Pos). pos.file < files) (sym from.at) line.file

    pub placed_in : (refusal : LinkNo) → IsFirstRefusal kit build refusal → IsPlacedIn files refusal
    placed_in (cause.Rewrite (rewriting.RW1 place total)) bad = unlaid_in (listing.RW1 place total) bad
    placed_in (cause.Rewrite (rewriting.Select place why)) bad =
        (unlaid_in (listing.Select place why) bad, refused_really bad.first.kept.1 place why bad.first.refused)
    placed_in (cause.Rewrite rewriting.Memory) bad = bad.first.refused
    placed_in (cause.Size (sizing.B1 place distance)) bad = unlaid_in (listing.B1 place distance) bad
    placed_in (cause.Size sizing.Memory) bad = bad.first.refused
    placed_in (cause.Flow pos refusal) bad = breach_in pos refusal bad
    placed_in cause.Memory bad = bad
    placed_in (cause.N1 name) bad = tt
    placed_in (cause.N6 name) bad = tt
    placed_in (cause.N2 name) bad = tt
    placed_in cause.N5 bad = tt
    placed_in (cause.N3 name) bad = tt
    placed_in (cause.N7 name) bad = tt
