-- The depths of a laid function's lines fit the fields of a table.
use Rattle.std.proofs.Common.{◌≡◌, ◌<◌, ◌≤◌, ◌+◌, ◌-◌, ◌^◌, ◌||◌, ℕ, ℤ, pos, negsuc, length, Bool, true, false, List, [], ◌∷◌, ◌++◌, map, Option, Some, None, sym, subst, refl, arith, length-append, if◌then◌else◌}
use Rattle.std.specs.Prelude.{All, IfSome}
use Rattle.std.specs.List.{slice_get}
use Rattle.std.proofs.Math.Nat.{min-le_right}
use Rattle.std.proofs.lemmas.List.Elements.{All-append, All-cons, All-nil, All-push}
use Rattle.goasm_base.specs.declared.pos.Pos.{Pos}
use Rattle.goasm_base.specs.declared.statement.Function.{Function}
use Rattle.goasm_base.specs.declared.statement.Stmt.{Stmt}
use Rattle.asm_target.specs.declared.body.Body.{Body}
use Rattle.asm_target.specs.declared.body.Line.{Line}
use Rattle.asm_target.specs.declared.refer.Picked.{Picked}
use Rattle.stack_split.specs.FrameSizes.{is_checked}
use Rattle.stack_split.specs.Opening.{opening}
use Rattle.obj_rewrite.specs.Rewriting.{Code, Rewrites, Rules, added, all_added, clamped, code_of, line_of}
use Rattle.obj_rewrite.specs.Rewritten.{appended, closing, opened}
use Rattle.obj_rewrite.specs.Words.{is_goal, is_return}
use Rattle.unit_listing.specs.Kit.{Kit, IsRewritten, frame_of, guard_of, rules_for}

clamped_small : (depth : ℤ) → clamped depth < 2 ^ 31
clamped_small (pos depth) = (let most = min-le_right depth (2 ^ 31 - 1) in omega (arith, most))
clamped_small (negsuc depth) = omega arith

module _ {Instr : Type 0} where
  abbrev IsSmall : Line Instr → Type 0
  IsSmall line = line.depth < 2 ^ 31

  -- the first line has depth 0, and so has what stands behind no line
  abbrev StartsFlat : List (Line Instr) → ℕ → Type 0
  StartsFlat [] depth = depth ≡ 0
  StartsFlat (line ∷ lines) depth = line.depth ≡ 0

  -- the first line of all has depth 0
  abbrev FirstFlat : List (Line Instr) → Type 0
  FirstFlat [] = Unit {0}
  FirstFlat (line ∷ lines) = line.depth ≡ 0

  record IsShallow (code : Code Instr) : Type 0 where
    lines : All IsSmall code.lines
    behind : code.depth < 2 ^ 31
    first : StartsFlat code.lines code.depth

  flat_push : (lines : List (Line Instr)) (line : Line Instr) (depth : ℕ) → StartsFlat lines line.depth → StartsFlat (lines ++ line ∷ []) depth
  flat_push [] line depth flat = flat
  flat_push (first ∷ lines) line depth flat = flat

  flat_other : (lines : List (Line Instr)) (depth other : ℕ) → 0 < length lines → StartsFlat lines depth → StartsFlat lines other
  flat_other [] depth other some flat = absurd (omega arith)
  flat_other (first ∷ lines) depth other some flat = flat

  module _ (change : List Instr → List ℕ → List Bool → ℤ) where
    shallow_added : (code : Code Instr) (pick : Picked Instr) (place : Pos) (stmt : Option ℕ) → IsShallow code
        → IsShallow (added change code pick place stmt)
    unfolding added
    shallow_added code pick place stmt is = record {
      lines = All-push IsSmall code.lines (line_of pick place code.depth stmt) is.lines is.behind;
      behind = clamped_small _;
      first = flat_push code.lines (line_of pick place code.depth stmt) _ is.first;
    }

    longer_added : (code : Code Instr) (pick : Picked Instr) (place : Pos) (stmt : Option ℕ)
        → length (added change code pick place stmt).lines ≡ length code.lines + 1
    unfolding added
    longer_added code pick place stmt = length-append code.lines (line_of pick place code.depth stmt ∷ [])

    shallow_all : (picks : List (Picked Instr)) (code : Code Instr) (place : Pos) (stmt : Option ℕ) → IsShallow code
        → IsShallow (all_added change code picks place stmt)
    shallow_all [] code place stmt is = is
    shallow_all (pick ∷ picks) code place stmt is =
        shallow_all picks (added change code pick place stmt) place stmt (shallow_added code pick place stmt is)

    longer_all : (picks : List (Picked Instr)) (code : Code Instr) (place : Pos) (stmt : Option ℕ)
        → length code.lines ≤ length (all_added change code picks place stmt).lines
    longer_all [] code place stmt = omega arith
    longer_all (pick ∷ picks) code place stmt =
        let more = longer_added code pick place stmt in
        let rest = longer_all picks (added change code pick place stmt) place stmt in
        omega (arith, more, rest)

    -- where code begins at depth 0, so does what stands behind it, if RET takes the depth back to the one before
    starts_all : (picks : List (Picked Instr)) (code : Code Instr) (place : Pos) (stmt : Option ℕ) → IsShallow code
        → StartsFlat (all_added change code picks place stmt).lines code.depth
    starts_all [] code place stmt is = is.first
    starts_all (pick ∷ picks) code place stmt is =
        let next = added change code pick place stmt in
        let more = longer_added code pick place stmt in
        let rest = longer_all picks next place stmt in
        let all = shallow_all picks next place stmt (shallow_added code pick place stmt is) in
        flat_other (all_added change next picks place stmt).lines (all_added change next picks place stmt).depth code.depth
        (omega (arith, more, rest)) all.first

  returned_shallow : (b : Bool) (code : Code Instr) (depth : ℕ) → IsShallow code → depth < 2 ^ 31 → StartsFlat code.lines depth
      → IsShallow (if b then record code { depth = depth } else code)
  returned_shallow true code depth is small flat = record { lines = is.lines; behind = small; first = flat }
  returned_shallow false code depth is small flat = is

  module _ (rules : Rules Instr) (goals : ℕ → Bool) where
    rewrites_shallow : (stmts : List Stmt) (number : ℕ) (before after : Code Instr) → IsShallow before
        → Rewrites rules goals stmts number before after → IsShallow after
    rewrites_shallow [] number before after is same = subst IsShallow (sym same) is
    rewrites_shallow (stmt ∷ stmts) number before after is (between, (picks, becomes, same), rest) =
        let start : Code Instr = record before { awaited = before.awaited || goals number } in
        let begun : IsShallow start = record { lines = is.lines; behind = is.behind; first = is.first } in
        let code = all_added rules.change start picks stmt.pos (Some number) in
        let all : IsShallow code = shallow_all rules.change picks start stmt.pos (Some number) begun in
        let flat : StartsFlat code.lines before.depth = starts_all rules.change picks start stmt.pos (Some number) begun in
        rewrites_shallow stmts (number + 1) between after
        (subst IsShallow (sym same) (returned_shallow (is_return stmt) code before.depth all is.behind flat)) rest

  block_small : (place : Pos) (picks : List (Picked Instr)) → All IsSmall (map (λ pick. line_of pick place 0 None) picks)
  block_small place [] = All-nil IsSmall
  block_small place (pick ∷ picks) =
      All-cons IsSmall (line_of pick place 0 None) (map (λ pick. line_of pick place 0 None) picks) (omega arith) (block_small place picks)

  block_flat : (place : Pos) (picks : List (Picked Instr)) → FirstFlat (map (λ pick. line_of pick place 0 None) picks)
  block_flat place [] = tt
  block_flat place (pick ∷ picks) = refl

  flat_append : (lines more : List (Line Instr)) (depth : ℕ) → StartsFlat lines depth → FirstFlat more → FirstFlat (lines ++ more)
  flat_append [] more depth flat first = first
  flat_append (line ∷ lines) more depth flat first = flat

  flat_small : (lines : List (Line Instr)) → FirstFlat lines → IfSome (slice_get lines 0) (λ line. line.depth ≤ 2 ^ 31 - 2)
  flat_small [] flat = tt
  flat_small (line ∷ lines) flat = omega (arith, flat)

module _ {Instr : Type 0} (kit : Kit Instr) (function : Function) (body : Body Instr) (rewritten : IsRewritten kit function body) where
  abbrev rules : Rules Instr
  rules = rules_for kit function

  abbrev begun : Code Instr
  begun = opened rules function (frame_of kit function) (guard_of kit function) (kit.entry (frame_of kit function))

  abbrev block : List (Picked Instr)
  block = closing (is_checked function (frame_of kit function)) (guard_of kit function)

  shallow : IsShallow rewritten.lines.code
  shallow =
      let written = rewritten.lines.written in
      let none : IsShallow (code_of [] [] 0 false) = record { lines = All-nil IsSmall; behind = omega arith; first = refl } in
      let first : IsShallow begun = shallow_all rules.change
      (opening (guard_of kit function) (kit.entry (frame_of kit function)) (is_checked function (frame_of kit function)))
      (code_of [] [] 0 false) function.pos None none in
      let second = rewrites_shallow rules (is_goal function.stmts) function.stmts 0 begun written.before first written.statements in
      rewrites_shallow rules (λ number. false) (appended function) (length function.stmts) written.before rewritten.lines.code second written.jump

  -- each line's depth fits
  pub depths_small : All IsSmall body.code
  depths_small =
      subst (All IsSmall) (sym rewritten.lines.whole)
      (All-append IsSmall rewritten.lines.code.lines (map (λ pick. line_of pick function.pos 0 None) block) shallow.lines
      (block_small function.pos block))

  -- and the first one's also behind the -1 with which a table begins
  pub first_small : IfSome (slice_get body.code 0) (λ line. line.depth ≤ 2 ^ 31 - 2)
  first_small =
      flat_small body.code
      (subst FirstFlat (sym rewritten.lines.whole)
      (flat_append rewritten.lines.code.lines (map (λ pick. line_of pick function.pos 0 None) block) rewritten.lines.code.depth shallow.first
      (block_flat function.pos block)))
