-- A function of a unit that is laid out is ready to be placed.
use Rattle.std.proofs.Common.{◌≡◌, ℕ, ◌+◌, ◌-◌, ◌<◌, Bool, true, false, not, List, [], ◌∷◌, get_or, length, Some, refl, sym, ap, ◌∙◌, subst, arith, length-append, if◌then◌else◌}
use Rattle.std.specs.Prelude.{All}
use Rattle.std.specs.List.{slice_get}
use Rattle.std.specs.Option.{option_and_then, option_map}
use Rattle.std.proofs.lemmas.Option.{slice_get-get_or}
use Rattle.goasm_base.specs.declared.statement.Function.{Function}
use Rattle.goasm_base.specs.declared.statement.Stmt.{Stmt}
use Rattle.goasm_base.specs.Statements.{IsValidFunction}
use Rattle.asm_target.specs.declared.frame.FrameShape.{FrameShape}
use Rattle.asm_target.specs.declared.body.Line.{Line}
use Rattle.asm_target.specs.declared.frame.Guard.{Guard}
use Rattle.asm_target.specs.declared.refer.Picked.{Picked}
use Rattle.asm_target.specs.declared.refer.To.{To}
use Rattle.asm_target.specs.declared.refer.To.TheVariants as to
use Rattle.asm_target.proofs.PlaceLemmas.{fit_at}
use Rattle.asm_target.specs.Frames.{IsFrame}
use Rattle.asm_target.specs.Goals.{IsBody, line_of, picked}
use Rattle.asm_target.specs.References.{IsEnd, RefersTo}
use Rattle.machine_effect.specs.Numbers.{moved_by}
use Rattle.branch_size.specs.Sizing.{IsSized, branches_of}
use Rattle.obj_rewrite.specs.Rewriting.{Code, Rewrites, Rules}
use Rattle.obj_rewrite.specs.Rewritten.{IsWritten, self_jump}
use Rattle.obj_rewrite.specs.Words.{is_end, is_goal, runs_on}
use Rattle.obj_rewrite.proofs.BodyLemmas.{Leads, all_lead, is_body}
use Rattle.obj_rewrite.proofs.LineLemmas.{rewrites_last}
use Rattle.unit_listing.specs.declared.laid.Laid.{Laid}
use Rattle.unit_listing.specs.Kit.{Kit, frame_of, guard_of, rules_for}
use Rattle.unit_listing.specs.Laid.{IsLaid, IsTold}
use Rattle.unit_listing.specs.Lines.{place_to}
use Rattle.unit_listing.proofs.FrameLemmas.{frame_fits}
use Rattle.unit_listing.proofs.FunctionLemmas.{KitLaws}
use Rattle.unit_listing.proofs.LaidLemmas.{told}
use Rattle.link_code.specs.declared.site.Site.{Site}
use Rattle.link_code.specs.Code.{IsOfUnit, IsReady}
use Rattle.link_code.specs.Goals.{goal_of}

not_false : (b : Bool) → not b ≡ false → b ≡ true
not_false true is = refl
not_false false is = absurd (cc)

last_counts : (stmts : List Stmt) → is_end (slice_get stmts (length stmts - 1)) ≡ true → length stmts - 1 + 1 ≡ length stmts
last_counts [] end = absurd (cc)
last_counts (stmt ∷ stmts) end = omega arith

module _ {I : Type 0} (rules : Rules I) (function : Function)
    (ends : (stmt : Stmt) (depth : ℕ) (picks : List (Picked I)) → IsEnd stmt.op → rules.becomes stmt depth picks → 0 < length picks) where
  -- a function has a line: its last statement, or the jump to itself behind it, becomes one
  some_lines : (begun code : Code I) → IsWritten rules function begun code → 0 < length code.lines
  some_lines begun code written = by (runs_on function.stmts) refl
    where
      jumps : (on : Bool) → runs_on function.stmts ≡ on
          → Rewrites rules (λ number. false) (if on then self_jump function ∷ [] else []) (length function.stmts) written.before code
      jumps on is =
          subst (λ (stmts : List Stmt). Rewrites rules (λ number. false) stmts (length function.stmts) written.before code)
          (ap (λ (on : Bool). if on then self_jump function ∷ [] else []) is) written.jump

      by : (on : Bool) → runs_on function.stmts ≡ on → 0 < length code.lines
      by true is =
          let found = rewrites_last rules (λ number. false) ends (self_jump function ∷ []) (length function.stmts) 0 written.before code refl refl
          (jumps true is) in
          let more = found.1 in
          omega arith
      by false is =
          let end = not_false (is_end (slice_get function.stmts (length function.stmts - 1))) is in
          let count = last_counts function.stmts end in
          let found = rewrites_last rules (is_goal function.stmts) ends function.stmts 0 (length function.stmts - 1) begun written.before count end
          written.statements in
          let more : length begun.lines < length written.before.lines = found.1 in
          let same : length code.lines ≡ length written.before.lines = ap (λ (x : Code I). length x.lines) (jumps false is) in
          omega (arith, more, same)

module _ {Instr : Type 0} (kit : Kit Instr) (site : Site) (laid : Laid Instr) (told : IsTold kit laid) where
  abbrev guard : Guard Instr
  guard = kit.check laid.body.frame

  -- a line of the function has an address
  line_there : (goal : To) (line : ℕ) → line_of guard laid.body.code goal ≡ Some line → line < length laid.body.code
      → (address : ℕ) × (option_map (λ place. site.entry + place) (place_to guard laid.body.code laid.sizes.places goal) ≡ Some address)
  line_there goal line is within =
      let places = laid.sizes.places in
      let found : slice_get places line ≡ Some (get_or places line 0) = slice_get-get_or places line 0 (omega (arith, within, told.places)) in (
        site.entry + get_or places line 0,
        ap (option_map (λ place. site.entry + place)) (ap (option_and_then (slice_get places)) is ∙ found),
      )

  -- what leads somewhere leads to an address
  goal_there : (goal : To) → Leads guard (length site.addresses.now) laid.body.code goal
      → (address : ℕ) × (goal_of kit site laid goal ≡ Some address)
  goal_there (to.Symbol sym off) below = (
    moved_by (get_or site.addresses.now sym 0) off,
    ap (option_map (λ address. moved_by address off)) (slice_get-get_or site.addresses.now sym 0 below),
  )
  goal_there to.Grow leads = (site.growth, refl)
  goal_there (to.Stmt number) leads = line_there (to.Stmt number) leads.0 leads.1 leads.2
  goal_there to.Entry leads = line_there to.Entry leads.0 leads.1 leads.2
  goal_there to.Block leads = line_there to.Block leads.0 leads.1 leads.2
  goal_there to.Past leads = line_there to.Past leads.0 leads.1 leads.2

module _ {Instr : Type 0} (kit : Kit Instr) (laws : KitLaws kit) (site : Site) (laid : Laid Instr) where
  of_function : (function : Function) → IsValidFunction (length site.addresses.now) function → IsLaid kit function laid
      → IsReady kit site laid
  of_function function valid is =
      let symbols = length site.addresses.now in
      let frame = frame_of kit function in
      let fine : IsFrame kit.machine frame = frame_fits kit.machine symbols function valid is.rewritten.most in
      let picks = laws.picks frame fine in
      let frames = laws.frames frame fine in
      let lines = is.rewritten.lines in
      let body : IsBody kit.fits kit.aiming (guard_of kit function) laid.body.code
      = is_body kit.set kit.fits kit.aiming (rules_for kit function) function frame (guard_of kit function) (kit.entry frame)
      picks frames symbols valid laid.body.code lines in
      let lead : All (λ line. RefersTo (Leads (guard_of kit function) symbols laid.body.code) (picked line)) laid.body.code
      = all_lead kit.set kit.fits kit.aiming (rules_for kit function) function frame (guard_of kit function) (kit.entry frame)
      picks frames symbols valid laid.body.code lines in
      let some = some_lines (rules_for kit function) function picks.ends _ lines.code lines.written in
      let long : length laid.body.code ≡ length lines.code.lines + _ = ap length lines.whole ∙ length-append lines.code.lines _ in
      let known = told kit function laid is in
      record {
        told = known;
        sized = subst (λ (frame : FrameShape). IsSized (branches_of kit.set kit.fits kit.aiming kit.quantum (kit.check frame) laid.body.code) laid.sizes)
            (sym is.rewritten.same) is.sized;
        fit = λ k d less. (body.pickable k d less).fit;
        some = omega (arith, some, long);
        leads = λ number line refer here refers. goal_there kit site laid known refer.to
            (subst (λ (frame : FrameShape). Leads (kit.check frame) symbols laid.body.code refer.to) (sym is.rewritten.same)
            (fit_at (λ (line : Line Instr). RefersTo (Leads (guard_of kit function) symbols laid.body.code) (picked line)) laid.body.code number line
            lead here refer refers));
      }

  pub ready : IsOfUnit kit (length site.addresses.now) laid → IsReady kit site laid
  ready (function, valid, is) = of_function function valid is
