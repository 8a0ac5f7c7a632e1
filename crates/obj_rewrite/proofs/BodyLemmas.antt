-- What holds of the instructions of a whole function.
use Rattle.std.proofs.Common.{◌≡◌, ℕ, ◌+◌, ◌-◌, ◌^◌, ◌<◌, ◌≤◌, Bool, true, false, not, ◌&&◌, nat_le, List, [], ◌∷◌, ◌++◌, map, length, Some, None, refl, sym, ap, ◌∙◌, subst, inl, inr, arith}
use Rattle.std.specs.Prelude.{All, position, if◌then◌else◌}
use Rattle.std.specs.List.{position_or_len, slice_get}
use Rattle.std.proofs.lemmas.Bool.Decides.{nat_tests}
use Rattle.std.proofs.lemmas.List.{length-append, length-map, map-append}
use Rattle.std.proofs.lemmas.List.Elements.{All-append, All-cons, All-head, All-nil, All-tail, All-weaker}
use Rattle.goasm_base.specs.declared.pos.Pos.{Pos}
use Rattle.goasm_base.specs.declared.statement.Function.{Function}
use Rattle.goasm_base.specs.declared.statement.Operand.{Operand}
use Rattle.goasm_base.specs.declared.statement.Operand.TheVariants as operand
use Rattle.goasm_base.specs.declared.statement.Stmt.{Stmt}
use Rattle.goasm_base.specs.Statements.{IsValidFunction, IsValidOperand, IsValidStatement}
use Rattle.machine_effect.specs.declared.flow.Shape.{Shape}
use Rattle.asm_target.specs.declared.body.Line.{Line}
use Rattle.asm_target.specs.declared.frame.FrameShape.{FrameShape}
use Rattle.asm_target.specs.declared.frame.Guard.{Guard}
use Rattle.asm_target.specs.declared.frame.Site.{Site}
use Rattle.asm_target.specs.declared.refer.Part.TheVariants.{Whole}
use Rattle.asm_target.specs.declared.refer.Picked.{Picked}
use Rattle.asm_target.specs.declared.refer.Refer.{Refer}
use Rattle.asm_target.specs.declared.refer.To.{To}
use Rattle.asm_target.specs.declared.refer.To.TheVariants as to
use Rattle.asm_target.specs.declared.sequence.Sequence.{Sequence}
use Rattle.asm_target.specs.Aiming.{Aiming, HaveForms, IsPickable, most_bytes}
use Rattle.asm_target.specs.Frames.{IsFrame}
use Rattle.asm_target.specs.Goals.{HasGoal, IsBody, block_of, is_outside, line_of as line_at, longest, picked, reaches_stmt, stands_from}
use Rattle.asm_target.specs.InstructionSet.{InstructionSet}
use Rattle.asm_target.specs.Laws.{HasLengths}
use Rattle.asm_target.specs.References.{IsAround, IsEnd, IsNamed, Names, RefersTo, StaysAround}
use Rattle.asm_target.specs.Selection.{Selection}
use Rattle.asm_target.proofs.LongestLemmas.{most_append, most_long}
use Rattle.stack_split.specs.FrameSizes.{is_checked}
use Rattle.stack_split.specs.Opening.{check_of, opening, plain}
use Rattle.obj_rewrite.specs.Rewriting.{Code, Rules, Rewrites, code_of, line_of, rules_of, site_of}
use Rattle.obj_rewrite.specs.Rewritten.{AreLines, IsWritten, appended, closing, opened, self_jump}
use Rattle.obj_rewrite.specs.Words.{is_end, is_goal, runs_on}
use Rattle.obj_rewrite.proofs.LineLemmas.{HasStmt, added_picks, has_more, rewrites_all, rewrites_last, rewrites_longer, rewrites_most}

-- What is used of a target's laws: of what statements become, and of what enters a frame and checks that the stack has room
pub record PickLaws {I : Type 0} (set : InstructionSet I) (fits : I → Type 0) (aiming : Aiming I) (rules : Rules I) : Type 0 where
  pub pickable : (stmt : Stmt) (depth : ℕ) (picks : List (Picked I)) → rules.becomes stmt depth picks
      → All (IsPickable fits aiming) picks
  pub few : (stmt : Stmt) (depth : ℕ) (picks : List (Picked I)) → rules.becomes stmt depth picks → most_bytes set aiming picks ≤ 64
  pub refers : (stmt : Stmt) (depth : ℕ) (picks : List (Picked I)) → rules.becomes stmt depth picks
      → All (RefersTo (IsNamed stmt.operands)) picks
  pub ends : (stmt : Stmt) (depth : ℕ) (picks : List (Picked I)) → IsEnd stmt.op → rules.becomes stmt depth picks
      → 0 < length picks

pub record FrameLaws {I : Type 0} (fits : I → Type 0) (aiming : Aiming I) (guard : Guard I) (entry : List I) : Type 0 where
  pub enters : All fits entry
  pub head : All (IsPickable fits aiming) guard.head
  pub block : All (IsPickable fits aiming) guard.block
  pub around : StaysAround guard
  pub few : length guard.head + length guard.block + length entry ≤ 14

-- the laws of a target, in a function with this frame
module _ {I : Type 0} (set : InstructionSet I) (fits : I → Type 0) (aiming : Aiming I) (shape : Shape) (begins : List I → Sequence)
    (selection : Selection I) (machine : ℕ) (frame : FrameShape) (fine : IsFrame machine frame) where
  pub pick_laws : ((stmt : Stmt) (site : Site) (code : List (Picked I)) → IsFrame machine site.frame → selection.becomes stmt site code
      → All (IsPickable fits aiming) code)
      → ((stmt : Stmt) (site : Site) (code : List (Picked I)) → IsFrame machine site.frame → selection.becomes stmt site code
      → most_bytes set aiming code ≤ 64)
      → ((stmt : Stmt) (site : Site) (code : List (Picked I)) → selection.becomes stmt site code
      → All (RefersTo (IsNamed stmt.operands)) code)
      → ((stmt : Stmt) (site : Site) (code : List (Picked I)) → IsEnd stmt.op → selection.becomes stmt site code → 0 < length code)
      → PickLaws set fits aiming (rules_of set shape begins selection frame)
  pick_laws pickable few refers ends = record {
    pickable = λ stmt depth picks becomes. pickable stmt (site_of depth frame) picks fine becomes;
    few = λ stmt depth picks becomes. few stmt (site_of depth frame) picks fine becomes;
    refers = λ stmt depth picks becomes. refers stmt (site_of depth frame) picks becomes;
    ends = λ stmt depth picks end becomes. ends stmt (site_of depth frame) picks end becomes;
  }

  pub frame_laws : (check : FrameShape → Guard I) (entry : FrameShape → List I)
      → ((frame : FrameShape) → IsFrame machine frame → All fits (entry frame))
      → ((frame : FrameShape) → IsFrame machine frame
      → All (IsPickable fits aiming) (check frame).head × All (IsPickable fits aiming) (check frame).block)
      → ((frame : FrameShape) → IsFrame machine frame → StaysAround (check frame))
      → ((frame : FrameShape) → IsFrame machine frame
      → length (check frame).head + length (check frame).block + length (entry frame) ≤ 14)
      → FrameLaws fits aiming (check frame) (entry frame)
  frame_laws check entry enters pickable around few = record {
    enters = enters frame fine;
    head = (pickable frame fine).0;
    block = (pickable frame fine).1;
    around = around frame fine;
    few = few frame fine;
  }

-- the first that passes, where one does
position_within : {X : Type 0} (p : X → Bool) (front back : List X) (x : X) → p x ≡ true
    → (goal : ℕ) × (position p (front ++ x ∷ back) ≡ Some goal) × (goal < length (front ++ x ∷ back))
position_within {X} p front back x passes =
    let inside = below front in
    (position_or_len p (front ++ x ∷ back), grind (arith, nat_tests), inside)
  where
    below : (front : List X) → position_or_len p (front ++ x ∷ back) < length (front ++ x ∷ back)
    below [] = rw passes (omega arith)
    below (y ∷ front) = by (p y) refl (below front)
      where
        by : (passed : Bool) → p y ≡ passed → position_or_len p (front ++ x ∷ back) < length (front ++ x ∷ back)
            → position_or_len p (y ∷ front ++ x ∷ back) < length (y ∷ front ++ x ∷ back)
        by true at rest = rw at (omega arith)
        by false at rest = rw at (omega arith)

all_unmapped : {X Y : Type 0} (P : Y → Type 0) (f : X → Y) (xs : List X) → All P (map f xs) → All (λ x. P (f x)) xs
all_unmapped P f [] all = All-nil (λ x. P (f x))
all_unmapped P f (x ∷ xs) all =
    All-cons (λ x. P (f x)) x xs (All-head P (f x) (map f xs) all) (all_unmapped P f xs (All-tail P (f x) (map f xs) all))

-- the block's lines are its instructions
closing_picks : {I : Type 0} (picks : List (Picked I)) (place : Pos) → map picked (map (λ pick. line_of pick place 0 None) picks) ≡ picks
closing_picks [] place = refl
closing_picks (pick ∷ picks) place = ap (λ rest. pick ∷ rest) (closing_picks picks place)

not_false : (b : Bool) → not b ≡ false → b ≡ true
not_false true is = refl
not_false false is = absurd (cc)

-- the last of the statements ends the function
last_counts : (stmts : List Stmt) → is_end (slice_get stmts (length stmts - 1)) ≡ true → length stmts - 1 + 1 ≡ length stmts
last_counts [] end = absurd (cc)
last_counts (stmt ∷ stmts) end = omega arith

-- a reference leads to one of so many symbols, to the routine that grows the stack, or to a line of the function
abbrev pub Leads : {I : Type 0} → Guard I → ℕ → List (Line I) → To → Type 0
Leads guard symbols lines (to.Symbol symbol off) = symbol < symbols
Leads guard symbols lines to.Grow = Unit {0}
Leads guard symbols lines goal = (line : ℕ) × (line_at guard lines goal ≡ Some line) × (line < length lines)

module _ {I : Type 0} (set : InstructionSet I) (fits : I → Type 0) (aiming : Aiming I) (rules : Rules I) (function : Function)
    (frame : FrameShape) (guard : Guard I) (entry : List I) (statements : PickLaws set fits aiming rules)
    (frames : FrameLaws fits aiming guard entry) where
  -- the jump to itself, where one is appended
  appended_all : (P : Stmt → Type 0) → (runs_on function.stmts ≡ true → P (self_jump function)) → All P (appended function)
  appended_all P jump = by (runs_on function.stmts) refl
    where
      by : (on : Bool) → runs_on function.stmts ≡ on → All P (if on then self_jump function ∷ [] else [])
      by true is = All-cons P (self_jump function) [] (jump is) (All-nil P)
      by false is = All-nil P

  -- The last statement's number, with the jump to itself; it has a line
  record Ended (begun code : Code I) : Type 0 where
    top : ℕ
    last : HasStmt top code.lines
    longer : length begun.lines < length code.lines
    labels : (number : ℕ) → number < length function.stmts → number ≤ top
    jump : runs_on function.stmts ≡ true → length function.stmts ≤ top

  ended : (begun code : Code I) → IsWritten rules function begun code → Ended begun code
  ended begun code written = by (runs_on function.stmts) refl
    where
      by : (on : Bool) → runs_on function.stmts ≡ on → Ended begun code
      by true is =
          let count = length function.stmts in
          let jump : Rewrites rules (λ number. false) (self_jump function ∷ []) count written.before code =
          subst (λ (stmts : List Stmt). Rewrites rules (λ number. false) stmts count written.before code)
          (ap (λ (on : Bool). if on then self_jump function ∷ [] else []) is) written.jump in
          let found = rewrites_last rules (λ number. false) statements.ends (self_jump function ∷ []) count 0 written.before code refl refl jump in
          let same : count + 0 ≡ count = omega arith in
          record {
            top = count;
            last = subst (λ n. HasStmt n code.lines) same found.0;
            longer = omega (
              arith,
              found.1,
              rewrites_longer rules (is_goal function.stmts) function.stmts 0 begun written.before written.statements,
            );
            labels = λ number below. omega arith;
            jump = λ on. omega arith;
          }
      by false is =
          let end = not_false (is_end (slice_get function.stmts (length function.stmts - 1))) is in
          let count = last_counts function.stmts end in
          let found = rewrites_last rules (is_goal function.stmts) statements.ends function.stmts 0 (length function.stmts - 1) begun written.before count end written.statements in
          let jump : Rewrites rules (λ number. false) [] (length function.stmts) written.before code =
          subst (λ (stmts : List Stmt). Rewrites rules (λ number. false) stmts (length function.stmts) written.before code)
          (ap (λ (on : Bool). if on then self_jump function ∷ [] else []) is) written.jump in
          let same : 0 + (length function.stmts - 1) ≡ length function.stmts - 1 = omega arith in
          record {
            top = length function.stmts - 1;
            last = subst (λ (after : Code I). HasStmt (length function.stmts - 1) after.lines) (sym jump)
                (subst (λ n. HasStmt n written.before.lines) same found.0);
            longer = subst (λ (after : Code I). length begun.lines < length after.lines) (sym jump) found.1;
            labels = λ number below. omega arith;
            jump = λ on. absurd (cc);
          }

  abbrev checks : Bool
  checks = is_checked function frame

  abbrev begun : Code I
  begun = opened rules function frame guard entry

  -- what holds of each instruction that stands before the first statement
  opening_all : (P : Picked I → Type 0) → (checks ≡ true → All P guard.head) → (checks ≡ true → All P guard.block)
      → ((i : I) → fits i → P (plain i)) → All P (opening guard entry checks)
  opening_all P head block alone =
      All-append P (if checks then check_of guard else []) (map plain entry) (by checks refl) (entered entry frames.enters)
    where
      placed : (in_place : Bool) → All P guard.block → All P (if in_place then guard.block else [])
      placed true all = all
      placed false all = All-nil P

      by : (check : Bool) → checks ≡ check → All P (if check then check_of guard else [])
      by true is =
          All-append P guard.head (if guard.in_place then guard.block else []) (head is) (placed guard.in_place (block is))
      by false is = All-nil P

      entered : (code : List I) → All fits code → All P (map plain code)
      entered [] fit = All-nil P
      entered (i ∷ code) fit =
          All-cons P (plain i) (map plain code) (alone i (All-head fits i code fit)) (entered code (All-tail fits i code fit))

  closing_all : (P : Picked I → Type 0) → (checks ≡ true → All P guard.block) → All P (closing checks guard)
  closing_all P block = by checks guard.in_place refl
    where
      by : (check in_place : Bool) → checks ≡ check → All P (if check && not in_place then guard.block else [])
      by true true is = All-nil P
      by true false is = block is
      by false in_place is = All-nil P

  begun_picks : map picked begun.lines ≡ opening guard entry checks
  begun_picks = added_picks rules.change (code_of [] [] 0 false) (opening guard entry checks) function.pos None

  lines_picks : (lines : List (Line I)) (are : AreLines rules function frame guard entry lines)
      → map picked lines ≡ map picked are.code.lines ++ closing checks guard
  lines_picks lines are =
      let block : List (Line I) = map (λ pick. line_of pick function.pos 0 None) (closing checks guard) in
      ap (map picked) are.whole ∙ map-append picked are.code.lines block
      ∙ ap (λ rest. map picked are.code.lines ++ rest) (closing_picks (closing checks guard) function.pos)

  abbrev Each : (Picked I → Type 0) → Stmt → Type 0
  Each P stmt = (depth : ℕ) (picks : List (Picked I)) → rules.becomes stmt depth picks → All P picks

  -- what holds of each instruction of the function
  lines_all : (P : Picked I → Type 0) → (checks ≡ true → All P guard.head) → (checks ≡ true → All P guard.block)
      → ((i : I) → fits i → P (plain i)) → All (Each P) function.stmts
      → (runs_on function.stmts ≡ true → Each P (self_jump function)) → (lines : List (Line I))
      → AreLines rules function frame guard entry lines → All P (map picked lines)
  lines_all P head block alone each jump lines are =
      let written = are.written in
      let first = subst (All P) (sym begun_picks) (opening_all P head block alone) in
      let second = rewrites_all rules (is_goal function.stmts) P function.stmts 0 begun written.before each written.statements first in
      let third = rewrites_all rules (λ number. false) P (appended function) (length function.stmts) written.before are.code
      (appended_all (Each P) jump) written.jump second in
      subst (All P) (sym (lines_picks lines are))
      (All-append P (map picked are.code.lines) (closing checks guard) third (closing_all P block))

  -- What lines refer to: so many symbols, statements up to this number, and the places round a check, where there is one
  abbrev IsSeen : ℕ → ℕ → To → Type 0
  IsSeen symbols top (to.Symbol symbol off) = symbol < symbols
  IsSeen symbols top to.Grow = Unit {0}
  IsSeen symbols top (to.Stmt number) = number ≤ top
  IsSeen symbols top to.Entry = Unit {0}
  IsSeen symbols top to.Block = checks ≡ true
  IsSeen symbols top to.Past = (checks ≡ true) × (guard.in_place ≡ true)

  around_seen : (symbols top : ℕ) → checks ≡ true → (goal : To) → IsAround guard.in_place goal → IsSeen symbols top goal
  around_seen symbols top is (to.Symbol symbol off) around = absurd around
  around_seen symbols top is to.Grow around = tt
  around_seen symbols top is (to.Stmt number) around = absurd around
  around_seen symbols top is to.Entry around = tt
  around_seen symbols top is to.Block around = is
  around_seen symbols top is to.Past around = (is, around)

  named_seen : (symbols count top : ℕ) → ((number : ℕ) → number < count → number ≤ top) → (operands : List Operand) (goal : To)
      → All (IsValidOperand symbols count) operands → IsNamed operands goal → IsSeen symbols top goal
  named_seen symbols count top labels [] goal valid named = absurd named
  named_seen symbols count top labels (first ∷ operands) goal valid (inl named) =
      one first (All-head (IsValidOperand symbols count) first operands valid) named
    where
      one : (item : Operand) → IsValidOperand symbols count item → Names item goal → IsSeen symbols top goal
      one (operand.Sym symbol off address) valid named = subst (IsSeen symbols top) (sym named) valid
      one (operand.Label statement) valid named = subst (IsSeen symbols top) (sym named) (labels statement valid)
      one _ valid named = absurd named
  named_seen symbols count top labels (first ∷ operands) goal valid (inr named) =
      named_seen symbols count top labels operands goal (All-tail (IsValidOperand symbols count) first operands valid) named

  jump_seen : (symbols top : ℕ) → length function.stmts ≤ top → (goal : To) → IsNamed (self_jump function).operands goal → IsSeen symbols top goal
  jump_seen symbols top most goal (inl named) = subst (IsSeen symbols top) (sym named) most
  jump_seen symbols top most goal (inr none) = absurd none

  checked_length : checks ≡ true → guard.in_place ≡ true → length guard.head + length guard.block ≤ length (opening guard entry checks)
  checked_length is placed =
      let whole : opening guard entry checks ≡ (guard.head ++ guard.block) ++ map plain entry =
      ap (opening guard entry) is ∙ ap (λ (p : Bool). (guard.head ++ (if p then guard.block else [])) ++ map plain entry) placed in
      omega (arith, ap length whole, length-append (guard.head ++ guard.block) (map plain entry), length-append guard.head guard.block)

  -- each has its line
  goal_seen : (symbols top : ℕ) (lines : List (Line I)) → HasStmt top lines → length (opening guard entry checks) < length lines
      → (goal : To) → IsSeen symbols top goal → is_outside goal ≡ false
      → (line : ℕ) × (line_at guard lines goal ≡ Some line) × (line < length lines)
  goal_seen symbols top lines has longer (to.Symbol symbol off) seen inside = absurd (cc)
  goal_seen symbols top lines has longer to.Grow seen inside = absurd (cc)
  goal_seen symbols top lines has longer (to.Stmt number) seen inside =
      let reach : nat_le number top ≡ true = grind (arith, nat_tests) in
      let passes : stands_from number has.line ≡ true = ap (reaches_stmt number) has.stands ∙ reach in
      subst (λ (code : List (Line I)). (line : ℕ) × (line_at guard code (to.Stmt number) ≡ Some line) × (line < length code)) (sym has.is)
      (position_within (stands_from number) has.front has.back has.line passes)
  goal_seen symbols top lines has longer to.Entry seen inside = (0, refl, omega arith)
  goal_seen symbols top lines has longer to.Block seen inside = by guard.in_place refl
    where
      by : (placed : Bool) → guard.in_place ≡ placed → (line : ℕ) × (Some (block_of guard (length lines)) ≡ Some line) × (line < length lines)
      by true is = (
        length guard.head,
        ap (λ (p : Bool). Some (if p then length guard.head else length lines - length guard.block)) is,
        omega (arith, checked_length seen is),
      )
      by false is = (
        length lines - length guard.block,
        ap (λ (p : Bool). Some (if p then length guard.head else length lines - length guard.block)) is,
        omega (arith, frames.around.some),
      )
  goal_seen symbols top lines has longer to.Past seen inside = (
    length guard.head + length guard.block,
    ap (λ (p : Bool). Some ((if p then length guard.head else length lines - length guard.block) + length guard.block)) seen.1,
    omega (arith, checked_length seen.0 seen.1),
  )

  -- What the lines refer to is seen from them, and each of their places has its line
  record AllSeen (symbols : ℕ) (lines : List (Line I)) : Type 0 where
    top : ℕ
    has : HasStmt top lines
    longer : length (opening guard entry checks) < length lines
    seen : All (λ line. RefersTo (IsSeen symbols top) (picked line)) lines

  all_seen : (symbols : ℕ) → IsValidFunction symbols function → (lines : List (Line I))
      → AreLines rules function frame guard entry lines → AllSeen symbols lines
  all_seen symbols valid lines are =
      let end = ended begun are.code are.written in
      let top : ℕ = end.top in
      let Seen : Picked I → Type 0 = RefersTo (IsSeen symbols top) in
      let block : List (Line I) = map (λ pick. line_of pick function.pos 0 None) (closing checks guard) in
      let count : length begun.lines ≡ length (opening guard entry checks) = sym (length-map begun.lines picked) ∙ ap length begun_picks in
      let around = λ (is : checks ≡ true) (pick : Picked I) (seen : RefersTo (IsAround guard.in_place) pick) (refer : Refer) (at : pick.refer ≡ Some refer).
      around_seen symbols top is refer.to (seen refer at) in
      let seen : All Seen (map picked lines) =
      lines_all Seen
      (λ is. All-weaker (RefersTo (IsAround guard.in_place)) Seen (around is) guard.head frames.around.head)
      (λ is. All-weaker (RefersTo (IsAround guard.in_place)) Seen (around is) guard.block frames.around.block)
      (λ i fit refer none. absurd (cc))
      (All-weaker (IsValidStatement symbols (length function.stmts)) (Each Seen)
      (λ stmt fine depth picks becomes. All-weaker (RefersTo (IsNamed stmt.operands)) Seen
      (λ pick named refer at. named_seen symbols (length function.stmts) top end.labels stmt.operands refer.to fine (named refer at))
      picks (statements.refers stmt depth picks becomes)) function.stmts valid.statements)
      (λ on depth picks becomes. All-weaker (RefersTo (IsNamed (self_jump function).operands)) Seen
      (λ pick named refer at. jump_seen symbols top (end.jump on) refer.to (named refer at))
      picks (statements.refers (self_jump function) depth picks becomes)) lines are in
      record {
        top = top;
        has = subst (HasStmt top) (sym are.whole) (has_more top are.code.lines block end.last);
        longer = omega (arith, end.longer, ap length are.whole, length-append are.code.lines block);
        seen = all_unmapped Seen picked lines seen;
      }

  -- The instructions of a function can hold what they refer to, and that is an instruction of the function, or outside of it
  pub is_body : (symbols : ℕ) → IsValidFunction symbols function → (lines : List (Line I))
      → AreLines rules function frame guard entry lines → IsBody fits aiming guard lines
  is_body symbols valid lines are =
      let all = all_seen symbols valid lines are in
      let Pickable : Picked I → Type 0 = IsPickable fits aiming in
      record {
        pickable = all_unmapped Pickable picked lines (lines_all Pickable (λ is. frames.head) (λ is. frames.block)
            (λ i fit. record { fit = fit; directed = λ to none. absurd (cc) })
            (All-weaker (IsValidStatement symbols (length function.stmts)) (Each Pickable)
            (λ stmt fine. statements.pickable stmt) function.stmts valid.statements)
            (λ on. statements.pickable (self_jump function)) lines are);
        goals = All-weaker (λ line. RefersTo (IsSeen symbols all.top) (picked line)) (HasGoal guard lines)
            (λ line sees goal is inside.
            goal_seen symbols all.top lines all.has all.longer goal (sees (record { to = goal; part = Whole }) is) inside)
            lines all.seen;
      }

  seen_leads : (symbols top : ℕ) (lines : List (Line I)) → HasStmt top lines → length (opening guard entry checks) < length lines
      → (goal : To) → IsSeen symbols top goal → Leads guard symbols lines goal
  seen_leads symbols top lines has longer (to.Symbol symbol off) seen = seen
  seen_leads symbols top lines has longer to.Grow seen = tt
  seen_leads symbols top lines has longer (to.Stmt number) seen = goal_seen symbols top lines has longer (to.Stmt number) seen refl
  seen_leads symbols top lines has longer to.Entry seen = goal_seen symbols top lines has longer to.Entry seen refl
  seen_leads symbols top lines has longer to.Block seen = goal_seen symbols top lines has longer to.Block seen refl
  seen_leads symbols top lines has longer to.Past seen = goal_seen symbols top lines has longer to.Past seen refl

  -- whichever part of an address a line holds, its reference leads somewhere
  pub all_lead : (symbols : ℕ) → IsValidFunction symbols function → (lines : List (Line I))
      → AreLines rules function frame guard entry lines → All (λ line. RefersTo (Leads guard symbols lines) (picked line)) lines
  all_lead symbols valid lines are =
      let all = all_seen symbols valid lines are in
      All-weaker (λ line. RefersTo (IsSeen symbols all.top) (picked line)) (λ line. RefersTo (Leads guard symbols lines) (picked line))
      (λ line sees refer at. seen_leads symbols all.top lines all.has all.longer refer.to (sees refer at)) lines all.seen

  -- a check and its block have, together with what enters the frame, at most 14 instructions
  few_around : length (opening guard entry checks) + length (closing checks guard) ≤ 14
  few_around = by checks guard.in_place
    where
      by : (check in_place : Bool) → length ((if check then guard.head ++ (if in_place then guard.block else []) else []) ++ map plain entry)
          + length (if check && not in_place then guard.block else []) ≤ 14
      by true true = omega (arith, frames.few, length-append (guard.head ++ guard.block) (map plain entry), length-append guard.head guard.block, length-map entry (plain {Instr = I}))
      by true false = omega (arith, frames.few, length-append (guard.head ++ []) (map plain entry), length-append guard.head [], length-map entry (plain {Instr = I}))
      by false in_place = omega (arith, frames.few, length-map entry (plain {Instr = I}))

  -- With every branch in its long form it has fewer than 2^32 bytes
  pub has_room : (symbols quantum : ℕ) → HaveForms set fits aiming → HasLengths set fits quantum → IsValidFunction symbols function
      → (lines : List (Line I)) → AreLines rules function frame guard entry lines → longest set aiming lines < 2 ^ 32
  has_room symbols quantum formed lengths valid lines are =
      let written = are.written in
      let Pickable : Picked I → Type 0 = IsPickable fits aiming in
      let first : longest set aiming begun.lines ≡ most_bytes set aiming (opening guard entry checks) = ap (most_bytes set aiming) begun_picks in
      let whole : longest set aiming lines ≡ longest set aiming are.code.lines + most_bytes set aiming (closing checks guard)
      = ap (most_bytes set aiming) (lines_picks lines are) ∙ most_append set aiming (map picked are.code.lines) (closing checks guard) in
      let opens = most_long set aiming fits quantum formed lengths (opening guard entry checks)
      (opening_all Pickable (λ is. frames.head) (λ is. frames.block) (λ i fit. record { fit = fit; directed = λ to none. absurd (cc) })) in
      let closes = most_long set aiming fits quantum formed lengths (closing checks guard) (closing_all Pickable (λ is. frames.block)) in
      let second = rewrites_most rules (is_goal function.stmts) set aiming statements.few function.stmts 0 begun written.before written.statements in
      let third = rewrites_most rules (λ number. false) set aiming statements.few (appended function) (length function.stmts) written.before are.code written.jump in
      omega (arith, first, whole, opens, closes, second, third, jumps, few_around, valid.count)
    where
      jumps : length (appended function) ≤ 1
      jumps = by (runs_on function.stmts)
        where
          by : (on : Bool) → length (if on then self_jump function ∷ [] else []) ≤ 1
          by true = omega arith
          by false = omega arith
