-- The lines that statements become.
use Rattle.std.proofs.Common.{◌≡◌, ℕ, ℤ, zero, suc, ◌+◌, ◌*◌, ◌<◌, ◌≤◌, Bool, true, false, List, [], ◌∷◌, ◌++◌, map, length, Option, Some, refl, sym, ap, ◌∙◌, subst, inl, inr, arith, append_assoc}
use Rattle.std.specs.Prelude.{All, ◌||◌, bytes_eq, codes, if◌then◌else◌}
use Rattle.std.specs.List.{slice_get}
use Rattle.std.proofs.lemmas.List.{append-nil, length-append, length-map, map-append}
use Rattle.std.proofs.lemmas.List.Elements.{All-append, All-head, All-tail}
use Rattle.std.proofs.lemmas.Slice.Eq.{bytes_eq-Decides}
use Rattle.goasm_base.specs.declared.pos.Pos.{Pos}
use Rattle.goasm_base.specs.declared.statement.Stmt.{Stmt}
use Rattle.asm_target.specs.declared.body.Line.{Line}
use Rattle.asm_target.specs.declared.refer.Picked.{Picked}
use Rattle.asm_target.specs.Aiming.{Aiming, most_bytes}
use Rattle.asm_target.specs.Goals.{longest, picked}
use Rattle.asm_target.specs.InstructionSet.{InstructionSet}
use Rattle.asm_target.specs.References.{IsEnd}
use Rattle.asm_target.proofs.LongestLemmas.{most_append}
use Rattle.obj_rewrite.specs.Rewriting.{Code, IsStep, Rewrites, Rules, added, all_added, awaiting, line_of, returned}
use Rattle.obj_rewrite.specs.Words.{is_end, is_return}

-- a line of the statement stands among the lines
pub record HasStmt {I : Type 0} (number : ℕ) (lines : List (Line I)) : Type 0 where
  pub front : List (Line I)
  pub line : Line I
  pub back : List (Line I)
  pub is : lines ≡ front ++ line ∷ back
  pub stands : line.stmt ≡ Some number

-- it stays with more lines behind them
pub has_more : {I : Type 0} (number : ℕ) (lines more : List (Line I)) → HasStmt number lines → HasStmt number (lines ++ more)
has_more number lines more has = record {
  front = has.front;
  line = has.line;
  back = has.back ++ more;
  is = ap (λ list. list ++ more) has.is ∙ append_assoc has.front (has.line ∷ has.back) more;
  stands = has.stands;
}

module _ {I : Type 0} (change : List I → List ℕ → List Bool → ℤ) where
  -- lines more are those of the instructions
  pub added_picks : (code : Code I) (picks : List (Picked I)) (place : Pos) (stmt : Option ℕ)
      → map picked (all_added change code picks place stmt).lines ≡ map picked code.lines ++ picks
  unfolding added
  added_picks code [] place stmt = sym (append-nil (map picked code.lines))
  added_picks code (pick ∷ picks) place stmt =
      added_picks (added change code pick place stmt) picks place stmt
      ∙ ap (λ front. front ++ picks) (map-append picked code.lines (line_of pick place code.depth stmt ∷ []))
      ∙ append_assoc (map picked code.lines) (pick ∷ []) picks

  -- those before stay
  pub added_keeps : (code : Code I) (picks : List (Picked I)) (place : Pos) (stmt : Option ℕ) (number : ℕ)
      → HasStmt number code.lines → HasStmt number (all_added change code picks place stmt).lines
  unfolding added
  added_keeps code [] place stmt number has = has
  added_keeps code (pick ∷ picks) place stmt number has =
      added_keeps (added change code pick place stmt) picks place stmt number
      (has_more number code.lines (line_of pick place code.depth stmt ∷ []) has)

  -- each is of the statement
  pub added_has : (code : Code I) (picks : List (Picked I)) (place : Pos) (number : ℕ) → 0 < length picks
      → HasStmt number (all_added change code picks place (Some number)).lines
  unfolding added
  added_has code [] place number some = absurd (omega arith)
  added_has code (pick ∷ picks) place number some =
      added_keeps (added change code pick place (Some number)) picks place (Some number) number (record {
        front = code.lines;
        line = line_of pick place code.depth (Some number);
        back = [];
        is = refl;
        stands = refl;
      })

-- behind RET the lines are the same
returned_lines : {I : Type 0} (stmt : Stmt) (depth : ℕ) (code : Code I) → (returned stmt depth code).lines ≡ code.lines
returned_lines {I} stmt depth code = by (is_return stmt)
  where
    by : (ret : Bool) → (if ret then record code { depth = depth } else code).lines ≡ code.lines
    by true = refl
    by false = refl

-- RET, JMP and B are told by their bytes
ends_by : (op : List ℕ) → (bytes_eq op (codes "RET") || bytes_eq op (codes "JMP") || bytes_eq op (codes "B")) ≡ true → IsEnd op
ends_by op is = by (bytes_eq op (codes "RET")) (bytes_eq op (codes "JMP")) (bytes_eq op (codes "B")) refl refl refl is
  where
    by : (ret jump branch : Bool) → bytes_eq op (codes "RET") ≡ ret → bytes_eq op (codes "JMP") ≡ jump → bytes_eq op (codes "B") ≡ branch
        → (ret || jump || branch) ≡ true → IsEnd op
    by true jump branch at there beyond is = inl ((bytes_eq-Decides op (codes "RET")).0 at)
    by false true branch at there beyond is = inr (inl ((bytes_eq-Decides op (codes "JMP")).0 there))
    by false false true at there beyond is = inr (inr ((bytes_eq-Decides op (codes "B")).0 beyond))
    by false false false at there beyond is = absurd (cc)

module _ {I : Type 0} (rules : Rules I) where
  step_lines : (goal : Bool) (stmt : Stmt) (number : ℕ) (before after : Code I) (step : IsStep rules goal stmt number before after)
      → after.lines ≡ (all_added rules.change (awaiting before goal) step.0 stmt.pos (Some number)).lines
  step_lines goal stmt number before after (picks, becomes, same) =
      ap (λ (code : Code I). code.lines) same
      ∙ returned_lines stmt before.depth (all_added rules.change (awaiting before goal) picks stmt.pos (Some number))

  step_picks : (goal : Bool) (stmt : Stmt) (number : ℕ) (before after : Code I) (step : IsStep rules goal stmt number before after)
      → map picked after.lines ≡ map picked before.lines ++ step.0
  step_picks goal stmt number before after step =
      ap (map picked) (step_lines goal stmt number before after step)
      ∙ added_picks rules.change (awaiting before goal) step.0 stmt.pos (Some number)

  step_longer : (goal : Bool) (stmt : Stmt) (number : ℕ) (before after : Code I) (step : IsStep rules goal stmt number before after)
      → length after.lines ≡ length before.lines + length step.0
  step_longer goal stmt number before after step =
      sym (length-map after.lines picked) ∙ ap length (step_picks goal stmt number before after step)
      ∙ length-append (map picked before.lines) step.0 ∙ ap (λ n. n + length step.0) (length-map before.lines picked)

  step_keeps : (goal : Bool) (stmt : Stmt) (number other : ℕ) (before after : Code I) → IsStep rules goal stmt number before after
      → HasStmt other before.lines → HasStmt other after.lines
  step_keeps goal stmt number other before after step has =
      subst (HasStmt other) (sym (step_lines goal stmt number before after step))
      (added_keeps rules.change (awaiting before goal) step.0 stmt.pos (Some number) other has)

  module _ (goals : ℕ → Bool) where
    -- what holds of the instructions of each statement holds of all
    pub rewrites_all : (P : Picked I → Type 0) (stmts : List Stmt) (number : ℕ) (before after : Code I)
        → All (λ (stmt : Stmt). (depth : ℕ) (picks : List (Picked I)) → rules.becomes stmt depth picks → All P picks) stmts
        → Rewrites rules goals stmts number before after → All P (map picked before.lines) → All P (map picked after.lines)
    rewrites_all P [] number before after each done old = subst (λ (code : Code I). All P (map picked code.lines)) (sym done) old
    rewrites_all P (stmt ∷ stmts) number before after each (between, step, rest) old =
        let Each : Stmt → Type 0 = λ (stmt : Stmt). (depth : ℕ) (picks : List (Picked I)) → rules.becomes stmt depth picks → All P picks in
        let first : All P step.0 = All-head Each stmt stmts each before.depth step.0 step.1 in
        rewrites_all P stmts (number + 1) between after (All-tail Each stmt stmts each) rest
        (subst (All P) (sym (step_picks (goals number) stmt number before between step))
        (All-append P (map picked before.lines) step.0 old first))

    -- so many bytes of each statement are so many of all
    pub rewrites_most : (set : InstructionSet I) (aiming : Aiming I)
        → ((stmt : Stmt) (depth : ℕ) (picks : List (Picked I)) → rules.becomes stmt depth picks → most_bytes set aiming picks ≤ 64)
        → (stmts : List Stmt) (number : ℕ) (before after : Code I) → Rewrites rules goals stmts number before after
        → longest set aiming after.lines ≤ longest set aiming before.lines + 64 * length stmts
    rewrites_most set aiming few [] number before after done =
        let same : longest set aiming after.lines ≡ longest set aiming before.lines = ap (λ (code : Code I). longest set aiming code.lines) done in
        omega arith
    rewrites_most set aiming few (stmt ∷ stmts) number before after (between, step, rest) =
        let first = few stmt before.depth step.0 step.1 in
        let more : longest set aiming between.lines ≡ longest set aiming before.lines + most_bytes set aiming step.0
        = ap (most_bytes set aiming) (step_picks (goals number) stmt number before between step)
        ∙ most_append set aiming (map picked before.lines) step.0 in
        let others = rewrites_most set aiming few stmts (number + 1) between after rest in
        omega arith

    pub rewrites_keeps : (other : ℕ) (stmts : List Stmt) (number : ℕ) (before after : Code I)
        → Rewrites rules goals stmts number before after → HasStmt other before.lines → HasStmt other after.lines
    rewrites_keeps other [] number before after done has = subst (λ (code : Code I). HasStmt other code.lines) (sym done) has
    rewrites_keeps other (stmt ∷ stmts) number before after (between, step, rest) has =
        rewrites_keeps other stmts (number + 1) between after rest (step_keeps (goals number) stmt number other before between step has)

    pub rewrites_longer : (stmts : List Stmt) (number : ℕ) (before after : Code I) → Rewrites rules goals stmts number before after
        → length before.lines ≤ length after.lines
    rewrites_longer [] number before after done =
        let same : length after.lines ≡ length before.lines = ap (λ (code : Code I). length code.lines) done in
        omega arith
    rewrites_longer (stmt ∷ stmts) number before after (between, step, rest) =
        omega (arith, step_longer (goals number) stmt number before between step, rewrites_longer stmts (number + 1) between after rest)

    -- the last statement, where it ends the function, has a line
    pub rewrites_last : ((stmt : Stmt) (depth : ℕ) (picks : List (Picked I)) → IsEnd stmt.op → rules.becomes stmt depth picks → 0 < length picks)
        → (stmts : List Stmt) (number k : ℕ) (before after : Code I) → k + 1 ≡ length stmts → is_end (slice_get stmts k) ≡ true
        → Rewrites rules goals stmts number before after
        → HasStmt (number + k) after.lines × (length before.lines < length after.lines)
    rewrites_last ends [] number k before after count end done = absurd (omega arith)
    rewrites_last ends (stmt ∷ stmts) number zero before after count end (between, step, rest) =
        let some = ends stmt before.depth step.0 (ends_by stmt.op end) step.1 in
        let here : HasStmt number between.lines =
        subst (HasStmt number) (sym (step_lines (goals number) stmt number before between step))
        (added_has rules.change (awaiting before (goals number)) step.0 stmt.pos number some) in
        let last : HasStmt number after.lines = rewrites_keeps number stmts (number + 1) between after rest here in
        let same : number ≡ number + 0 = omega arith in (
          subst (λ n. HasStmt n after.lines) same last,
          omega (arith, step_longer (goals number) stmt number before between step, rewrites_longer stmts (number + 1) between after rest),
        )
    rewrites_last ends (stmt ∷ stmts) number (suc k) before after count end (between, step, rest) =
        let found = rewrites_last ends stmts (number + 1) k between after (omega arith) end rest in
        let same : number + 1 + k ≡ number + suc k = omega arith in (
          subst (λ n. HasStmt n after.lines) same found.0,
          omega (arith, step_longer (goals number) stmt number before between step, found.1),
        )
