-- Effects and their parts.
use Rattle.std.specs.Prelude.{ℕ, ℤ, negsuc, [], ◌∷◌, ◌+◌, ◌%◌, ◌^◌, Some, None}
use Rattle.std.specs.Int.{w64, cast_unsigned}
use Rattle.machine_effect.specs.declared.effect.Effect.{Effect}
use Rattle.machine_effect.specs.declared.effect.Access.{Access}
use Rattle.machine_effect.specs.declared.effect.Value.{Value}
use Rattle.machine_effect.specs.declared.effect.Atom.TheVariants.{Reg, Const}
use Rattle.machine_effect.specs.declared.op.Op.{Op}
use Rattle.machine_effect.specs.declared.op.Op.TheVariants.{Copy, Add, Subtract}
use Rattle.machine_effect.specs.declared.flag_rule.FlagRule.TheVariants as flags
use Rattle.machine_effect.specs.declared.next.Next.{Next}
use Rattle.machine_effect.specs.declared.next.Next.TheVariants.{Fall}
use Rattle.asm_target_sample.specs.declared.register.Register.{Register}
use Rattle.asm_target_sample.specs.declared.register.Register.TheVariants.{Sp}
use Rattle.asm_target_sample.specs.Register.{number_of}

-- nothing but where the machine goes on
abbrev pub going : Next → Effect
going next = record {
  writes = record { items = [] };
  wide = None;
  load = None;
  store = None;
  flags = flags.Keep;
  next = next;
}

abbrev pub writing : Register → Value → Effect
writing register value = record (going Fall) { writes = record { items = (number_of register, value) ∷ [] } }

abbrev pub copy_of : Register → Value
copy_of from = record { op = Copy; a = Reg (number_of from); b = Const 0; c = Const 0; width = 64 }

-- the stack pointer and a constant under an operation
abbrev pub with_sp : Op → ℕ → Value
with_sp op constant = record { op = op; a = Reg 4; b = Const constant; c = Const 0; width = 64 }

-- the eight bytes below the stack pointer
abbrev pub below_sp : Access
below_sp = record { width = 8; base = Reg 4; index = Const 0; scale = 1; disp = negsuc 7 }

abbrev pub push : Register → Effect
push register = record (writing Sp (with_sp Subtract 8)) { store = Some (below_sp, copy_of register) }

abbrev pub add_to_sp : ℕ → Effect
add_to_sp constant = record (writing Sp (with_sp Add constant)) { flags = flags.Add (Reg 4) (Const constant) 64 }

-- where a jump of five bytes goes
abbrev pub goal_of : ℕ → ℤ → ℕ
goal_of pc distance = (pc + 5 + cast_unsigned w64 distance) % 2 ^ 64
