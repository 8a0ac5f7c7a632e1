-- Each symbol to which the lines of a function refer is one of its unit.
use Rattle.std.proofs.Common.{◌≡◌, ℕ, ◌+◌, Bool, true, false, not, ◌&&◌, List, [], ◌∷◌, ◌++◌, map, length, Option, Some, None, refl, sym, ap, ◌∙◌, subst, inl, inr, arith}
use Rattle.std.specs.Prelude.{All, IfSome, if◌then◌else◌}
use Rattle.std.proofs.lemmas.List.{map-append}
use Rattle.std.proofs.lemmas.List.Elements.{All-append, All-cons, All-head, All-nil, All-tail, All-weaker}
use Rattle.goasm_base.specs.declared.statement.Function.{Function}
use Rattle.goasm_base.specs.declared.statement.Operand.{Operand}
use Rattle.goasm_base.specs.declared.statement.Operand.TheVariants as operand
use Rattle.goasm_base.specs.declared.statement.Stmt.{Stmt}
use Rattle.goasm_base.specs.Statements.{IsValidFunction, IsValidOperand, IsValidStatement}
use Rattle.asm_target.specs.declared.body.Line.{Line}
use Rattle.asm_target.specs.declared.frame.FrameShape.{FrameShape}
use Rattle.asm_target.specs.declared.frame.Guard.{Guard}
use Rattle.asm_target.specs.declared.refer.Picked.{Picked}
use Rattle.asm_target.specs.declared.refer.Refer.{Refer}
use Rattle.asm_target.specs.declared.refer.To.{To}
use Rattle.asm_target.specs.declared.refer.To.TheVariants as to
use Rattle.asm_target.specs.Goals.{picked}
use Rattle.asm_target.specs.References.{IsAround, IsNamed, Names, RefersTo, StaysAround}
use Rattle.stack_split.specs.FrameSizes.{is_checked}
use Rattle.stack_split.specs.Opening.{check_of, opening, plain}
use Rattle.obj_rewrite.specs.Rewriting.{Rules, code_of, line_of}
use Rattle.obj_rewrite.specs.Rewritten.{AreLines, appended, closing, opened, self_jump}
use Rattle.obj_rewrite.specs.Words.{is_goal, runs_on}
use Rattle.obj_rewrite.proofs.LineLemmas.{added_picks, rewrites_all}
use Rattle.link_functions.specs.Code.{IsGoalWithin, IsLineWithin}

around_within : (symbols : ℕ) (in_place : Bool) (goal : To) → IsAround in_place goal → IsGoalWithin symbols goal
around_within symbols in_place (to.Symbol number off) around = absurd around
around_within symbols in_place to.Grow around = tt
around_within symbols in_place (to.Stmt number) around = tt
around_within symbols in_place to.Entry around = tt
around_within symbols in_place to.Block around = tt
around_within symbols in_place to.Past around = tt

named_within : (symbols count : ℕ) (operands : List Operand) (goal : To) → All (IsValidOperand symbols count) operands
    → IsNamed operands goal → IsGoalWithin symbols goal
named_within symbols count [] goal valid named = absurd named
named_within symbols count (first ∷ operands) goal valid (inl named) =
    one first (All-head (IsValidOperand symbols count) first operands valid) named
  where
    one : (item : Operand) → IsValidOperand symbols count item → Names item goal → IsGoalWithin symbols goal
    one (operand.Sym number off address) valid named = subst (IsGoalWithin symbols) (sym named) valid
    one (operand.Label statement) valid named = subst (IsGoalWithin symbols) (sym named) tt
    one _ valid named = absurd named
named_within symbols count (first ∷ operands) goal valid (inr named) =
    named_within symbols count operands goal (All-tail (IsValidOperand symbols count) first operands valid) named

module _ {I : Type 0} (symbols : ℕ) where
  abbrev IsPickWithin : Picked I → Type 0
  IsPickWithin pick = IfSome pick.refer (λ refer. IsGoalWithin symbols refer.to)

  pick_within : (IsGoal : To → Type 0) → ((goal : To) → IsGoal goal → IsGoalWithin symbols goal) → (pick : Picked I)
      → RefersTo IsGoal pick → IsPickWithin pick
  pick_within IsGoal fine pick sees = by pick.refer refl
    where
      by : (refer : Option Refer) → pick.refer ≡ refer → IfSome refer (λ refer. IsGoalWithin symbols refer.to)
      by None is = tt
      by (Some refer) is = fine refer.to (sees refer is)

  unpicked : (lines : List (Line I)) → All IsPickWithin (map picked lines) → All (IsLineWithin symbols) lines
  unpicked [] all = All-nil (IsLineWithin symbols)
  unpicked (line ∷ lines) all =
      All-cons (IsLineWithin symbols) line lines (All-head IsPickWithin (picked line) (map picked lines) all)
      (unpicked lines (All-tail IsPickWithin (picked line) (map picked lines) all))

  plain_within : (code : List I) → All IsPickWithin (map plain code)
  plain_within [] = All-nil IsPickWithin
  plain_within (i ∷ code) = All-cons IsPickWithin (plain i) (map plain code) tt (plain_within code)

  module _ (guard : Guard I) (around : StaysAround guard) where
    kept_around : (picks : List (Picked I)) → All (RefersTo (IsAround guard.in_place)) picks → All IsPickWithin picks
    kept_around picks all =
        All-weaker (RefersTo (IsAround guard.in_place)) IsPickWithin
        (pick_within (IsAround guard.in_place) (around_within symbols guard.in_place)) picks all

    opening_within : (entry : List I) (check : Bool) → All IsPickWithin (opening guard entry check)
    opening_within entry check =
        All-append IsPickWithin (if check then check_of guard else []) (map plain entry) (by check) (plain_within entry)
      where
        placed : (in_place : Bool) → All IsPickWithin (if in_place then guard.block else [])
        placed true = kept_around guard.block around.block
        placed false = All-nil IsPickWithin

        by : (check : Bool) → All IsPickWithin (if check then check_of guard else [])
        by true =
            All-append IsPickWithin guard.head (if guard.in_place then guard.block else []) (kept_around guard.head around.head)
            (placed guard.in_place)
        by false = All-nil IsPickWithin

    closing_within : (check : Bool) → All IsPickWithin (closing check guard)
    closing_within check = by check guard.in_place
      where
        by : (check in_place : Bool) → All IsPickWithin (if check && not in_place then guard.block else [])
        by true true = All-nil IsPickWithin
        by true false = kept_around guard.block around.block
        by false in_place = All-nil IsPickWithin

  closing_lines : (function : Function) (picks : List (Picked I)) → map picked (map (λ pick. line_of pick function.pos 0 None) picks) ≡ picks
  closing_lines function [] = refl
  closing_lines function (pick ∷ picks) = ap (λ rest. pick ∷ rest) (closing_lines function picks)

  module _ (rules : Rules I) (function : Function) (frame : FrameShape) (guard : Guard I) (entry : List I)
      (valid : IsValidFunction symbols function) (around : StaysAround guard)
      (refers : (stmt : Stmt) (depth : ℕ) (picks : List (Picked I)) → rules.becomes stmt depth picks
      → All (RefersTo (IsNamed stmt.operands)) picks) where
    abbrev Each : Stmt → Type 0
    Each stmt = (depth : ℕ) (picks : List (Picked I)) → rules.becomes stmt depth picks → All IsPickWithin picks

    each_within : (count : ℕ) (stmt : Stmt) → IsValidStatement symbols count stmt → Each stmt
    each_within count stmt fine depth picks becomes =
        All-weaker (RefersTo (IsNamed stmt.operands)) IsPickWithin
        (pick_within (IsNamed stmt.operands) (λ goal. named_within symbols count stmt.operands goal fine)) picks (refers stmt depth picks becomes)

    jump_within : Each (self_jump function)
    jump_within =
        let count = length function.stmts in
        let Valid : Operand → Type 0 = IsValidOperand symbols (count + 1) in
        each_within (count + 1) (self_jump function)
        (All-cons Valid (operand.Label count) [] (omega arith) (All-nil Valid))

    appended_within : All Each (appended function)
    appended_within = by (runs_on function.stmts)
      where
        by : (on : Bool) → All Each (if on then self_jump function ∷ [] else [])
        by true = All-cons Each (self_jump function) [] jump_within (All-nil Each)
        by false = All-nil Each

    pub lines_within : (lines : List (Line I)) → AreLines rules function frame guard entry lines → All (IsLineWithin symbols) lines
    lines_within lines are =
        let checks = is_checked function frame in
        let written = are.written in
        let begun = opened rules function frame guard entry in
        let block : List (Line I) = map (λ pick. line_of pick function.pos 0 None) (closing checks guard) in
        let first : All IsPickWithin (map picked begun.lines) =
        subst (All IsPickWithin) (sym (added_picks rules.change (code_of [] [] 0 false) (opening guard entry checks) function.pos None))
        (opening_within guard around entry checks) in
        let each = All-weaker (IsValidStatement symbols (length function.stmts)) Each (each_within (length function.stmts)) function.stmts
        valid.statements in
        let second = rewrites_all rules (is_goal function.stmts) IsPickWithin function.stmts 0 begun written.before each written.statements first in
        let third = rewrites_all rules (λ number. false) IsPickWithin (appended function) (length function.stmts) written.before are.code
        appended_within written.jump second in
        let whole : map picked lines ≡ map picked are.code.lines ++ closing checks guard =
        ap (map picked) are.whole ∙ map-append picked are.code.lines block
        ∙ ap (λ rest. map picked are.code.lines ++ rest) (closing_lines function (closing checks guard)) in
        unpicked lines
        (subst (All IsPickWithin) (sym whole)
        (All-append IsPickWithin (map picked are.code.lines) (closing checks guard) third (closing_within guard around checks)))
