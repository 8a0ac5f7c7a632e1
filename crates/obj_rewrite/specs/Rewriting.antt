-- The instructions of statements, one statement after the other, with the depth of each.
use Rattle.std.specs.Prelude.{◌≡◌, ◌⊎◌, ℕ, ℤ, pos, negsuc, ◌+ℤ◌, ◌+◌, ◌-◌, ◌^◌, min, List, [], ◌∷◌, ◌++◌, map, length, Bool, false, ◌||◌, Option, Some, if◌then◌else◌}
use Rattle.goasm_base.specs.declared.pos.Pos.{Pos}
use Rattle.goasm_base.specs.declared.statement.Stmt.{Stmt}
use Rattle.machine_effect.specs.declared.flow.Shape.{Shape}
use Rattle.asm_target.specs.declared.body.Line.{Line}
use Rattle.asm_target.specs.declared.frame.FrameShape.{FrameShape}
use Rattle.asm_target.specs.declared.frame.Site.{Site}
use Rattle.asm_target.specs.declared.refer.Picked.{Picked}
use Rattle.asm_target.specs.declared.select_no.SelectNo.{SelectNo}
use Rattle.asm_target.specs.declared.select_no.SelectNo.TheVariants as no
use Rattle.asm_target.specs.declared.sequence.Sequence.{Sequence}
use Rattle.asm_target.specs.DepthChange.{depth_change, depth_view_of}
use Rattle.asm_target.specs.InstructionSet.{InstructionSet}
use Rattle.asm_target.specs.Selection.{Selection, IsRefused}
use Rattle.obj_rewrite.specs.Words.{is_return}

-- The lines so far; whether a jump of the function goes to each of them; the depth behind them; and whether a jump goes to a
-- statement that has no line yet, so that it goes to the next line
pub record Code (I : Type 0) : Type 0 where
  pub lines : List (Line I)
  pub targets : List Bool
  pub depth : ℕ
  pub awaited : Bool

abbrev pub code_of : {I : Type 0} → List (Line I) → List Bool → ℕ → Bool → Code I
code_of lines targets depth awaited = record { lines = lines; targets = targets; depth = depth; awaited = awaited }

-- How instructions of a target change the depth, which instructions a statement becomes at a depth, and why it becomes none
pub record Rules (I : Type 0) : Type 1 where
  pub change : List I → List ℕ → List Bool → ℤ
  pub becomes : Stmt → ℕ → List (Picked I) → Type 0
  pub refuses : Stmt → ℕ → SelectNo → Type 0

-- by how much the last of some instructions changes the depth
abbrev pub last_change : {I : Type 0} → InstructionSet I → Shape → (List I → Sequence) → List I → List ℕ → List Bool → ℤ
last_change set shape begins code depths targets =
    depth_change (depth_view_of set shape begins code depths targets) (length code - 1)

abbrev pub site_of : ℕ → FrameShape → Site
site_of depth frame = record { depth = depth; frame = frame }

-- the rules of a target in a function with this frame; want of memory is no cause
abbrev pub rules_of : {I : Type 0} → InstructionSet I → Shape → (List I → Sequence) → Selection I → FrameShape → Rules I
rules_of set shape begins selection frame = record {
  change = last_change set shape begins;
  becomes = λ stmt depth picks. selection.becomes stmt (site_of depth frame) picks;
  refuses = λ stmt depth why. IsRefused selection stmt (site_of depth frame) why × ¬ (why ≡ no.Memory);
}

-- a depth as a line has it: 0 below 0, and 2^31 - 1 above that
abbrev pub clamped : ℤ → ℕ
clamped (pos depth) = min depth (2 ^ 31 - 1)
clamped (negsuc depth) = 0

abbrev pub line_of : {I : Type 0} → Picked I → Pos → ℕ → Option ℕ → Line I
line_of pick place depth stmt =
    record { instr = pick.instr; refer = pick.refer; pos = place; depth = depth; stmt = stmt }

module _ {I : Type 0} (change : List I → List ℕ → List Bool → ℤ) where
  -- the depth behind the last of these lines, from its own
  abbrev pub depth_behind : List (Line I) → List Bool → ℕ → ℕ
  depth_behind lines targets depth =
      clamped (pos depth +ℤ change (map (λ line. line.instr) lines) (map (λ line. line.depth) lines) targets)

  -- a line more, of this statement
  unfoldable pub added : Code I → Picked I → Pos → Option ℕ → Code I
  added code pick place stmt =
      let lines = code.lines ++ line_of pick place code.depth stmt ∷ [] in
      let targets = code.targets ++ code.awaited ∷ [] in
      code_of lines targets (depth_behind lines targets code.depth) false

  abbrev pub all_added : Code I → List (Picked I) → Pos → Option ℕ → Code I
  all_added code [] place stmt = code
  all_added code (pick ∷ picks) place stmt = all_added (added code pick place stmt) picks place stmt

-- a jump may go to the next statement
abbrev pub awaiting : {I : Type 0} → Code I → Bool → Code I
awaiting code goal = record code { awaited = code.awaited || goal }

-- behind RET the depth is again the one before what leaves the frame
abbrev pub returned : {I : Type 0} → Stmt → ℕ → Code I → Code I
returned stmt depth code = if is_return stmt then record code { depth = depth } else code

module _ {I : Type 0} (rules : Rules I) where
  abbrev pub stmt_added : Bool → Stmt → ℕ → Code I → List (Picked I) → Code I
  stmt_added goal stmt number code picks =
      returned stmt code.depth (all_added rules.change (awaiting code goal) picks stmt.pos (Some number))

  -- the statement of this number, to which a jump goes or not, becomes instructions, which stand behind the code
  abbrev pub IsStep : Bool → Stmt → ℕ → Code I → Code I → Type 0
  IsStep goal stmt number before after =
      (picks : List (Picked I)) × rules.becomes stmt before.depth picks × (after ≡ stmt_added goal stmt number before picks)

  module _ (goals : ℕ → Bool) where
    -- statements, numbered from this number on, become instructions, each at the depth behind those before it
    abbrev pub Rewrites : List Stmt → ℕ → Code I → Code I → Type 0
    Rewrites [] number before after = after ≡ before
    Rewrites (stmt ∷ stmts) number before after =
        (between : Code I) × IsStep (goals number) stmt number before between × Rewrites stmts (number + 1) between after

    -- the first of them that becomes none has this place, and this is why
    abbrev pub Refuses : List Stmt → ℕ → Code I → Pos → SelectNo → Type 0
    Refuses [] number before place why = ⊥
    Refuses (stmt ∷ stmts) number before place why =
        (rules.refuses stmt before.depth why × (place ≡ stmt.pos))
        ⊎ ((between : Code I) × IsStep (goals number) stmt number before between
        × Refuses stmts (number + 1) between place why)
