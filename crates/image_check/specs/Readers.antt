-- What the readers of an accepted image tell of its functions.
use Rattle.std.specs.Prelude.{ℕ, ◌==◌, find, Option}
use Rattle.asm_target.specs.declared.body.Placed.{Placed}
use Rattle.image_check.specs.declared.function.Function.{Function}
use Rattle.image_model.specs.Joined.{some_below}
use Rattle.image_model.specs.Listed.{Listed}

-- the instruction of a function that begins at an address
abbrev pub instr_of : {Instr : Type 0} → ℕ → Listed Instr → Option (Placed Instr)
instr_of address listed = find (λ one. one.at == address) listed.code

-- the instruction of so many functions that begins there
abbrev pub instr_among : {Instr : Type 0} → (ℕ → Listed Instr) → ℕ → ℕ → Option (Placed Instr)
instr_among functions count address = some_below (λ index. instr_of address (functions index)) count

-- a function that was read
abbrev pub listed_of : {Instr : Type 0} → Function Instr → Listed Instr
listed_of function = record { code = function.code.items; depths = function.depths.items }
