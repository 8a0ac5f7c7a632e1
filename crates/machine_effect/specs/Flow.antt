-- What an effect does to the stack pointer and the link register, read off its form.
use Rattle.std.specs.Prelude.{ℕ, Bool, true, false, List, [], ◌∷◌, ◌+◌, ◌-◌, ◌*◌, ◌%◌, ◌^◌, ◌==◌, ◌&&◌, ◌||◌, nat_le, not, Option, Some, None, if◌then◌else◌}
use Rattle.std.specs.Option.{option_map, option_and_then, option_or}
use Rattle.std.specs.List.{list_any}
use Rattle.machine_effect.specs.declared.effect.Effect.{Effect}
use Rattle.machine_effect.specs.declared.effect.Access.{Access}
use Rattle.machine_effect.specs.declared.effect.Value.{Value}
use Rattle.machine_effect.specs.declared.effect.Atom.{Atom}
use Rattle.machine_effect.specs.declared.effect.Atom.TheVariants.{Reg, Const}
use Rattle.machine_effect.specs.declared.op.Op.{Op}
use Rattle.machine_effect.specs.declared.op.Op.TheVariants.{Copy, Add, Subtract}
use Rattle.machine_effect.specs.declared.flow.Shape.{Shape}
use Rattle.machine_effect.specs.declared.flow.Flow.{Flow}
use Rattle.machine_effect.specs.declared.flow.SpMove.{SpMove}
use Rattle.machine_effect.specs.declared.flow.SpMove.TheVariants.{Keep, By, Other}
use Rattle.machine_effect.specs.Numbers.{signed, unsigned}
use Rattle.machine_effect.specs.FlagsAfter.{sets_all_five}
use Rattle.machine_effect.specs.Applies.{link_of}

-- the values that are written to a register
abbrev pub written_to : ℕ → List (ℕ × Value) → List Value
written_to register [] = []
written_to register (write ∷ writes) =
    if write.0 == register then write.1 ∷ written_to register writes else written_to register writes

abbrev pub is_named : ℕ → Option ℕ → Bool
is_named register (Some link) = link == register
is_named register None = false

-- the register is among the writes or is the link of a call
abbrev pub writes_register : Effect → ℕ → Bool
writes_register effect register =
    is_named register (link_of effect.next) || list_any (λ write. write.0 == register) effect.writes.items

-- the constant that stands second, where the register stands first
abbrev pub constant_after : ℕ → Atom → Atom → Option ℕ
constant_after register (Reg first) (Const second) = if first == register then Some second else None
constant_after register _ _ = None

-- what an operation adds to a register, modulo 2 ^ 64, where it's a sum or a difference of that register and a constant
abbrev pub added_by : ℕ → Op → Atom → Atom → Option ℕ
added_by register Add a b = option_or (constant_after register a b) (constant_after register b a)
added_by register Subtract a b = option_map (λ c. (2 ^ 64 - c % 2 ^ 64) % 2 ^ 64) (constant_after register a b)
added_by register _ a b = None

-- the same of a value, which has to have 64 bits
abbrev pub added_to : ℕ → Value → Option ℕ
added_to register value = if value.width == 64 then added_by register value.op value.a value.b else None

-- how far above a register an access lies, modulo 2 ^ 64, where it's made of that register and constants
abbrev pub distance_from : ℕ → Access → Option ℕ
distance_from register access =
    option_map (λ c. (c * access.scale + unsigned 64 access.disp) % 2 ^ 64) (constant_after register access.base access.index)

-- eight bytes are accessed this far above the register
abbrev pub is_eight_at : ℕ → ℕ → Option Access → Bool
is_eight_at register distance None = false
is_eight_at register distance (Some access) = access.width == 8 && is_named distance (distance_from register access)

-- what has to come with a move of the stack pointer: the effect sets all five flags, stores eight bytes at the new stack
-- pointer or loads eight bytes at the old one
abbrev pub is_stack_move : Effect → ℕ → ℕ → Bool
is_stack_move effect sp distance =
    sets_all_five effect.flags
    || is_eight_at sp distance (option_map (λ store. store.0) effect.store)
    || is_eight_at sp 0 effect.load

abbrev pub move_by : Effect → ℕ → Option ℕ → SpMove
move_by effect sp (Some distance) = if is_stack_move effect sp distance then By (signed 64 distance) else Other
move_by effect sp None = Other

-- the value of a list that has one
abbrev pub sole : List Value → Option Value
sole [] = None
sole (value ∷ []) = Some value
sole (value ∷ other ∷ values) = None

abbrev pub sp_move_of : Effect → ℕ → SpMove
sp_move_of effect sp =
    if not (writes_register effect sp) then Keep
    else (if is_named sp (link_of effect.next) then Other
    else move_by effect sp (option_and_then (added_to sp) (sole (written_to sp effect.writes.items))))

abbrev pub is_register : ℕ → Atom → Bool
is_register register (Reg first) = first == register
is_register register _ = false

abbrev pub is_copy : Op → Bool
is_copy Copy = true
is_copy _ = false

-- the value is a copy of the register, which has 64 bits
abbrev pub is_copy_of : ℕ → Value → Bool
is_copy_of register value = is_copy value.op && nat_le 64 value.width && is_register register value.a

-- eight bytes are stored, and they are a copy of the register
abbrev pub stores_register : ℕ → Option (Access × Value) → Bool
stores_register register None = false
stores_register register (Some store) = store.0.width == 8 && is_copy_of register store.1

abbrev pub of_link : Option ℕ → (ℕ → Bool) → Bool
of_link (Some link) test = test link
of_link None test = false

unfoldable pub flow_of : Effect → Shape → Flow
flow_of effect shape = record {
  sp = sp_move_of effect shape.sp;
  writes_link = of_link shape.link (writes_register effect);
  stores_link = of_link shape.link (λ link. stores_register link effect.store);
  next = effect.next;
}
