-- The instructions of a whole function.
use Rattle.std.specs.Prelude.{◌≡◌, ◌⊎◌, ℕ, ◌<◌, ◌≤◌, List, [], ◌∷◌, ◌++◌, map, length, Bool, false, not, ◌&&◌, None, codes, if◌then◌else◌}
use Rattle.goasm_base.specs.declared.pos.Pos.{Pos}
use Rattle.goasm_base.specs.declared.statement.Function.{Function}
use Rattle.goasm_base.specs.declared.statement.Operand.TheVariants.{Label}
use Rattle.goasm_base.specs.declared.statement.Stmt.{Stmt}
use Rattle.asm_target.specs.declared.body.Body.{Body}
use Rattle.asm_target.specs.declared.body.Line.{Line}
use Rattle.asm_target.specs.declared.frame.FrameShape.{FrameShape}
use Rattle.asm_target.specs.declared.frame.Guard.{Guard}
use Rattle.asm_target.specs.declared.refer.Picked.{Picked}
use Rattle.asm_target.specs.declared.select_no.SelectNo.{SelectNo}
use Rattle.asm_target.specs.Frames.{greatest_total}
use Rattle.stack_split.specs.FrameSizes.{is_checked, total_of}
use Rattle.stack_split.specs.Opening.{opening}
use Rattle.obj_rewrite.specs.Rewriting.{Code, Rules, Rewrites, Refuses, all_added, code_of, line_of}
use Rattle.obj_rewrite.specs.Words.{is_goal, runs_on}

-- the block where it ends the function
abbrev pub closing : {I : Type 0} → Bool → Guard I → List (Picked I)
closing checks guard = if checks && not guard.in_place then guard.block else []

-- a jump to itself, as a statement behind the others
abbrev pub self_jump : Function → Stmt
self_jump function = record {
  pos = function.pos;
  lock = false;
  op = codes "JMP";
  suffix = None;
  operands = Label (length function.stmts) ∷ [];
}

abbrev pub appended : Function → List Stmt
appended function = if runs_on function.stmts then self_jump function ∷ [] else []

module _ {I : Type 0} (rules : Rules I) (function : Function) where
  module _ (opened : Code I) where
    -- The function's statements become this code, behind what stands before the first of them. Then the jump to itself, where one
    -- is appended, becomes the rest of it
    pub record IsWritten (code : Code I) : Type 0 where
      pub before : Code I
      pub statements : Rewrites rules (is_goal function.stmts) function.stmts 0 opened before
      pub jump : Rewrites rules (λ number. false) (appended function) (length function.stmts) before code

    -- the first statement that becomes no instructions; the jump to itself stands behind all others, at the place of TEXT
    abbrev pub IsUnwritten : Pos → SelectNo → Type 0
    IsUnwritten place why =
        Refuses rules (is_goal function.stmts) function.stmts 0 opened place why
        ⊎ ((before : Code I) × Rewrites rules (is_goal function.stmts) function.stmts 0 opened before
        × Refuses rules (λ number. false) (appended function) (length function.stmts) before place why)

  module _ (frame : FrameShape) (guard : Guard I) (entry : List I) where
    -- what stands before the first statement: it belongs to none, and has the place of TEXT
    abbrev pub opened : Code I
    opened =
        all_added rules.change (code_of [] [] 0 false) (opening guard entry (is_checked function frame)) function.pos None

    -- the lines of the function: those of the code, and then the block, which has depth 0 and belongs to no statement
    pub record AreLines (lines : List (Line I)) : Type 0 where
      pub code : Code I
      pub written : IsWritten opened code
      pub whole : lines ≡ code.lines ++ map (λ pick. line_of pick function.pos 0 None) (closing (is_checked function frame) guard)

    -- the instructions of a function whose frame isn't too large
    pub record IsRewritten (body : Body I) : Type 0 where
      pub most : frame.total ≤ greatest_total
      pub same : body.frame ≡ frame
      pub lines : AreLines body.code

    -- a statement of it becomes no instructions
    abbrev pub IsRefusedAt : Pos → SelectNo → Type 0
    IsRefusedAt place why = (frame.total ≤ greatest_total) × IsUnwritten opened place why

-- the function's frame is too large: it would have so many bytes
abbrev pub IsTooLarge : ℕ → Function → Pos → ℕ → Type 0
IsTooLarge machine function place total =
    (place ≡ function.pos) × (total ≡ total_of machine function) × (greatest_total < total)
