-- Where one instruction stands.
use Rattle.std.specs.Prelude.{◌≡◌, ℕ, suc, ◌+◌, ◌^◌, ◌<◌, ◌≤◌, List, Some}
use Rattle.std.specs.List.{slice_get}
use Rattle.asm_target.specs.declared.body.Placed.{Placed}

-- it has bytes, the last of them below 2 ^ 64, and the next instruction stands behind it
pub record StandsRight {Instr : Type 0} (code : List (Placed Instr)) (k : ℕ) : Type 0 where
  pub some : (one : Placed Instr) → slice_get code k ≡ Some one → 0 < one.len
  pub room : (one : Placed Instr) → slice_get code k ≡ Some one → one.at + one.len ≤ 2 ^ 64
  pub follows : (one other : Placed Instr) → slice_get code k ≡ Some one → slice_get code (suc k) ≡ Some other
      → other.at ≡ one.at + one.len
