-- The forms that the effects of several shapes have in common. `end` is the address just behind the instruction.
use Rattle.std.specs.Prelude.{ℕ, List, [], ◌∷◌, Option, Some, None}
use Rattle.machine_effect.specs.declared.effect.Atom.{Atom}
use Rattle.machine_effect.specs.declared.effect.Access.{Access}
use Rattle.machine_effect.specs.declared.effect.Value.{Value}
use Rattle.machine_effect.specs.declared.effect.WideValue.{WideValue}
use Rattle.machine_effect.specs.declared.effect.Effect.{Effect}
use Rattle.machine_effect.specs.declared.op.Op.{Op}
use Rattle.machine_effect.specs.declared.op.Op.TheVariants as op
use Rattle.machine_effect.specs.declared.flag_rule.FlagRule.{FlagRule}
use Rattle.machine_effect.specs.declared.flag_rule.FlagRule.TheVariants as flags
use Rattle.machine_effect.specs.declared.next.Next.{Next}
use Rattle.machine_effect.specs.declared.next.Next.TheVariants as next
use Rattle.amd64_table.specs.declared.reg.Reg.{Reg}
use Rattle.amd64_table.specs.declared.width.Width.{Width}
use Rattle.amd64_table.specs.declared.memory.Mem.{Mem}
use Rattle.amd64_table.specs.declared.memory.Rm.{Rm}
use Rattle.amd64_table.specs.Registers.{number_of}
use Rattle.amd64_table.specs.Operands.{bytes_of, nothing, access_of, load_of, writes_of, store_of}

-- the values that instructions make
abbrev pub value_of : Op → Atom → Atom → ℕ → Value
value_of op a b width = record { op = op; a = a; b = b; c = nothing; width = width }

abbrev pub copy_of : Atom → ℕ → Value
copy_of a width = value_of op.Copy a nothing width

abbrev pub sum_of : Op → Atom → Atom → Atom → Value
sum_of op a b c = record { op = op; a = a; b = b; c = c; width = 64 }

-- an effect on general registers, memory and flags, after which the machine goes on behind the instruction
abbrev pub computing : List (ℕ × Value) → Option Access → Option (Access × Value) → FlagRule → Effect
computing writes load store flags = record {
  writes = record { items = writes };
  wide = None;
  load = load;
  store = store;
  flags = flags;
  next = next.Fall;
}

-- an effect that goes on elsewhere
abbrev pub going : Option Access → Next → Effect
going load next = record {
  writes = record { items = [] };
  wide = None;
  load = load;
  store = None;
  flags = flags.Keep;
  next = next;
}

-- an effect on an X register
abbrev pub widening : Option Access → ℕ × WideValue → Effect
widening load write = record {
  writes = record { items = [] };
  wide = Some write;
  load = load;
  store = None;
  flags = flags.Keep;
  next = next.Fall;
}

-- an operand that is read becomes a value
unfoldable pub changing : Width → ℕ → Rm → Value → FlagRule → Effect
changing width end rm value flags =
    computing (writes_of rm value) (load_of (bytes_of width) end rm) (store_of (bytes_of width) end rm value) flags

-- an operand that isn't read becomes a value
unfoldable pub setting : ℕ → ℕ → Rm → Value → Effect
setting bytes end rm value = computing (writes_of rm value) None (store_of bytes end rm value) flags.Keep

-- an operand is read, and flags alone are set
unfoldable pub testing : Width → ℕ → Rm → FlagRule → Effect
testing width end rm flags = computing [] (load_of (bytes_of width) end rm) None flags

-- an operand is read, and a register becomes a value
unfoldable pub reading : ℕ → ℕ → Rm → Reg → Value → FlagRule → Effect
reading bytes end rm reg value flags = computing ((number_of reg, value) ∷ []) (load_of bytes end rm) None flags

-- a value goes into memory
unfoldable pub storing : ℕ → ℕ → Mem → Value → Effect
storing bytes end mem value = computing [] None (Some (access_of bytes end mem, value)) flags.Keep

-- a register alone becomes a value
unfoldable pub loading : Reg → Value → Effect
loading reg value = computing ((number_of reg, value) ∷ []) None None flags.Keep

-- a register and memory become values, and both are read
unfoldable pub swapping : Width → ℕ → Mem → ℕ × Value → Value → FlagRule → Effect
swapping width end mem write value flags =
    computing (write ∷ []) (Some (access_of (bytes_of width) end mem)) (Some (access_of (bytes_of width) end mem, value)) flags
