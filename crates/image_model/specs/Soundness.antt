-- What an image has to be for its calls to be known at each moment of a run.
use Rattle.std.specs.Prelude.{◌≡◌, ℕ, suc, pos, ◌-◌, ◌+ℤ◌, ◌^◌, ◌<◌, true, false, Some}
use Rattle.machine_effect.specs.declared.flow.SpMove.TheVariants.{Keep}
use Rattle.machine_effect.specs.declared.next.Next.TheVariants as next
use Rattle.machine_effect.specs.Applies.{link_of}
use Rattle.asm_target.specs.declared.sequence.Sequence.{Sequence}
use Rattle.asm_target.specs.declared.sequence.Sequence.TheVariants.{Plain, Saving, Restoring, Growth}
use Rattle.asm_target.specs.DepthChange.{is_call, is_return, moved_by}
use Rattle.asm_target.specs.FlowFunction.{is_within, jump_goal}
use Rattle.asm_target.specs.FlowRules.{can_pass, is_indirect_jump, is_other}
use Rattle.asm_target.specs.Sequences.{depth_added_by, span_of}
use Rattle.image_model.specs.Actions.{ActsAs}
use Rattle.image_model.specs.Image.{Image, IsOutside, Line, flow_in, has_link, is_growth_call, is_served, next_of}

-- how many instructions are judged by the line's sequence
abbrev pub span_in : Line → ℕ
span_in line = span_of line.role

-- the other line is the next one of the same sequence
pub record IsNextPart (line other : Line) : Type 0 where
  pub index : other.index ≡ suc line.index
  pub role : other.role ≡ line.role
  pub parts : other.parts ≡ line.parts

-- the other line stands behind this one in its function
pub record Follows (line other : Line) : Type 0 where
  pub entry : other.entry ≡ line.entry
  pub depth : pos other.depth ≡ pos line.depth +ℤ line.change
  pub inside : suc line.index < span_in line → IsNextPart line other
  pub anew : suc line.index ≡ span_in line → other.index ≡ 0

-- a jump leads from this line to the other one of its function
pub record Lands (line other : Line) : Type 0 where
  pub entry : other.entry ≡ line.entry
  pub depth : pos other.depth ≡ pos line.depth +ℤ line.change
  pub index : other.index ≡ 0

module _ (img : Image) where
  -- with a link register, depths change at the last instructions of sequences that make or leave a frame
  pub record ChangesByRole (line : Line) : Type 0 where
    pub within : suc line.index < span_in line → line.change ≡ pos 0
    pub last : suc line.index ≡ span_in line → line.change ≡ depth_added_by line.role

  -- without one, as the stack pointer moves
  pub record ChangesByMove (line : Line) : Type 0 where
    pub change : line.change ≡ moved_by (flow_in img line)
    pub told : is_other (flow_in img line).sp ≡ false

  -- with a link register, a plain instruction leaves the stack pointer, and at depth 0 the link register. A call stands at another
  -- depth, and links through that register
  pub record IsPlainLine (line : Line) : Type 0 where
    pub sp : (flow_in img line).sp ≡ Keep
    pub unwritten : line.depth ≡ 0 → (flow_in img line).writes_link ≡ false
    pub unstored : line.depth ≡ 0 → (flow_in img line).stores_link ≡ false
    pub calls : is_call (next_of line) ≡ true → (0 < line.depth) × (link_of (next_of line) ≡ img.shape.link)

  -- the depth at each instruction of a sequence; one that grows the stack calls the routine for that
  abbrev pub SuitsRole : Sequence → Line → Type 0
  SuitsRole Plain line = has_link img ≡ true → IsPlainLine line
  SuitsRole (Saving count total) line = line.depth ≡ 0
  SuitsRole (Restoring count total) line = line.depth ≡ total
  SuitsRole (Growth count) line =
      (line.depth ≡ 0) × (is_growth_call img.is_growth_routine (line.parts (count - 2)).effect.next ≡ true)

  -- what holds of the instruction at an address
  pub record IsSoundLine (at : ℕ) (line : Line) : Type 0 where
    pub part : line.parts line.index ≡ line.part
    pub inside : line.index < span_in line
    pub acts : ActsAs img.shape line.parts img.shape.link img.growth line.role
    pub suits : SuitsRole line.role line
    pub linked : has_link img ≡ true → ChangesByRole line
    pub unlinked : has_link img ≡ false → ChangesByMove line
    pub still : ¬ (next_of line ≡ next.Fall) → ((flow_in img line).sp ≡ Keep) × (line.change ≡ pos 0)
    pub behind : can_pass (next_of line) ≡ true
        → (other : Line) × (img.line_at line.part.past ≡ Some other) × Follows line other
    pub jumps : (goal : ℕ) → jump_goal (next_of line) ≡ Some goal → is_within img.text goal ≡ true → img.is_entry goal ≡ false
        → (other : Line) × (img.line_at goal ≡ Some other) × Lands line other
    pub enters : (goal : ℕ) → jump_goal (next_of line) ≡ Some goal → img.is_entry goal ≡ true → line.depth ≡ 0
    pub leaves : (goal : ℕ) → jump_goal (next_of line) ≡ Some goal → IsOutside img goal → line.depth ≡ 0
    pub indirect : is_indirect_jump (next_of line) ≡ true → line.depth ≡ 0
    pub returns : is_return (next_of line) ≡ true → line.depth ≡ 0
    pub served : is_served img.is_growth_routine (next_of line) ≡ true → img.after_call line.part.past ≡ Some at

  -- the first instruction of a function
  pub record IsFirstLine (at : ℕ) (line : Line) : Type 0 where
    pub entry : line.entry ≡ at
    pub depth : line.depth ≡ 0
    pub index : line.index ≡ 0

  -- the registers are ones of a machine
  pub record HasRegisters : Type 0 where
    pub sp : img.shape.sp < 33
    pub link : (link : ℕ) → img.shape.link ≡ Some link → (link < 33) × ¬ (link ≡ img.shape.sp)

  -- All lines are sound, lie in the text and belong to a function with an entry; each entry is a function's first line; and what
  -- grows the stack lies outside
  pub record IsSound : Type 0 where
    pub registers : HasRegisters
    pub lines : (at : ℕ) (line : Line) → img.line_at at ≡ Some line → IsSoundLine at line
    pub inside : (at : ℕ) (line : Line) → img.line_at at ≡ Some line → is_within img.text at ≡ true
    pub low : (at : ℕ) (line : Line) → img.line_at at ≡ Some line → at < 2 ^ 64
    pub known : (at : ℕ) (line : Line) → img.line_at at ≡ Some line → img.is_entry line.entry ≡ true
    pub entries : (at : ℕ) → img.is_entry at ≡ true → (line : Line) × (img.line_at at ≡ Some line) × IsFirstLine at line
    pub growth : (at : ℕ) → img.is_growth_routine at ≡ true → IsOutside img at
