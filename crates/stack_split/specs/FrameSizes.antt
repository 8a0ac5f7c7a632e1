-- How large a function's frame is, and whether the stack is checked before it's made.
use Rattle.std.specs.Prelude.{ℕ, ◌==◌, ◌&&◌, ◌||◌, Bool, true, false, not, nat_le, bit_and, bytes_eq, codes, Option, Some, None, if◌then◌else◌}
use Rattle.std.specs.List.{list_any}
use Rattle.goasm_base.specs.declared.statement.Function.{Function}
use Rattle.goasm_base.specs.declared.statement.Stmt.{Stmt}
use Rattle.asm_target.specs.declared.frame.FrameShape.{FrameShape}
use Rattle.asm_target.specs.Architecture.{amd64}
use Rattle.asm_target.specs.Frames.{saves_pointer, total_for}

-- the flags NOSPLIT, 4, and NOFRAME, 512, of Go's textflag.h
abbrev pub is_nosplit : Function → Bool
is_nosplit func = not (bit_and func.flags 4 == 0)

abbrev pub is_noframe : Function → Bool
is_noframe func = not (bit_and func.flags 512 == 0)

abbrev pub has_no_suffix : Option ℕ → Bool
has_no_suffix None = true
has_no_suffix (Some letter) = false

-- a suffix belongs to the mnemonic, so with one it's another
abbrev pub is_call : Stmt → Bool
is_call stmt = has_no_suffix stmt.suffix && (bytes_eq stmt.op (codes "CALL") || bytes_eq stmt.op (codes "BL"))

-- some statement of the function is a call
abbrev pub makes_call : Function → Bool
makes_call func = list_any is_call func.stmts

-- the function needs no frame: it has no locals, and no call returns over its return address
abbrev pub is_frameless : ℕ → Function → Bool
is_frameless machine func =
    is_noframe func
    || ((func.locals == 0) && (not (makes_call func) || ((machine == amd64.machine) && is_nosplit func)))

-- the frame's size in bytes
abbrev pub total_of : ℕ → Function → ℕ
total_of machine func = if is_frameless machine func then 0 else total_for machine func.locals

abbrev pub frame_for : ℕ → Function → FrameShape
frame_for machine func = record {
  locals = func.locals;
  total = total_of machine func;
  saves_bp = not (is_frameless machine func) && saves_pointer machine;
}

abbrev pub is_checked : Function → FrameShape → Bool
is_checked func frame = not (is_nosplit func) && (makes_call func || nat_le 128 frame.total)
