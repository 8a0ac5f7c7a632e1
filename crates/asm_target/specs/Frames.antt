-- The frames that functions have.
use Rattle.std.specs.Prelude.{◌≡◌, ◌⊎◌, ℕ, ◌+◌, ◌*◌, ◌/◌, ◌%◌, ◌≤◌, ◌==◌, Bool, false, if◌then◌else◌}
use Rattle.asm_target.specs.declared.frame.FrameShape.{FrameShape}
use Rattle.asm_target.specs.Architecture.{amd64, arm64}

-- the most bytes that a frame has: 1 MiB
abbrev pub greatest_total : ℕ
greatest_total = 1048576

-- a frame's bytes where there is one: the locals and a word above them, for BP on amd64 and for the return address elsewhere. On
-- arm64 the stack pointer stays a multiple of 16
abbrev pub total_for : ℕ → ℕ → ℕ
total_for machine locals = if machine == arm64.machine then (locals + 8 + 15) / 16 * 16 else locals + 8

-- the frame pointer of the caller is saved on amd64 alone
abbrev pub saves_pointer : ℕ → Bool
saves_pointer machine = machine == amd64.machine

-- no frame: the stack pointer stays where it is at the entry
pub record IsFrameless (frame : FrameShape) : Type 0 where
  pub locals : frame.locals ≡ 0
  pub total : frame.total ≡ 0
  pub saves : frame.saves_bp ≡ false

-- a frame round some locals
pub record IsFramed (machine : ℕ) (frame : FrameShape) : Type 0 where
  pub locals : frame.locals % 8 ≡ 0
  pub total : frame.total ≡ total_for machine frame.locals
  pub saves : frame.saves_bp ≡ saves_pointer machine

-- a frame that a function of the machine can have
pub record IsFrame (machine : ℕ) (frame : FrameShape) : Type 0 where
  pub most : frame.total ≤ greatest_total
  pub shape : IsFrameless frame ⊎ IsFramed machine frame
