-- What is said of each step of an effect: of registers, by its flow and by its writes.
use Rattle.std.specs.Prelude.{◌≡◌, ℕ, ℤ, [], ◌∷◌, ◌%◌, ◌^◌, ◌<◌, ◌≤◌, true, false, Some, None, IfSome}
use Rattle.machine_effect.specs.declared.state.State.{State}
use Rattle.machine_effect.specs.declared.effect.Effect.{Effect}
use Rattle.machine_effect.specs.declared.effect.Access.{Access}
use Rattle.machine_effect.specs.declared.effect.Value.{Value}
use Rattle.machine_effect.specs.declared.effect.Atom.{Atom}
use Rattle.machine_effect.specs.declared.effect.Atom.TheVariants.{Reg}
use Rattle.machine_effect.specs.declared.flow.Shape.{Shape}
use Rattle.machine_effect.specs.declared.flow.Flow.{Flow}
use Rattle.machine_effect.specs.declared.flow.SpMove.TheVariants.{Keep, By}
use Rattle.machine_effect.specs.declared.op.Op.{Op}
use Rattle.machine_effect.specs.declared.op.Op.TheVariants.{Copy}
use Rattle.machine_effect.specs.Numbers.{moved_by}
use Rattle.machine_effect.specs.Memory.{word_at}
use Rattle.machine_effect.specs.Values.{reg_of, Gives}
use Rattle.machine_effect.specs.Applies.{IsState, Applies, address_of, link_of}

-- each step leaves the register as it was
abbrev pub KeepsRegister : Effect → ℕ → Type 0
KeepsRegister effect register =
    (past : ℕ) (before after : State) → Applies effect past before after
    → reg_of after register ≡ reg_of before register

-- each step changes the register by k, modulo 2 ^ 64
abbrev pub MovesRegister : Effect → ℕ → ℤ → Type 0
MovesRegister effect register k =
    (past : ℕ) (before after : State) → IsState before → register < 33 → Applies effect past before after
    → reg_of after register ≡ moved_by (reg_of before register) k

-- the effect stores eight bytes, and their value is a copy of the register: on its form, and not by chance
pub record StoresCopy (effect : Effect) (register : ℕ) : Type 0 where
  pub access : Access
  pub value : Value
  pub store : effect.store ≡ Some (access, value)
  pub bytes : access.width ≡ 8
  pub copy : value.op ≡ Copy
  pub from : value.a ≡ Reg register
  pub whole : 64 ≤ value.width

-- each step that stores leaves the register's number in the eight bytes where it stores
abbrev pub SavesRegister : Effect → ℕ → Type 0
SavesRegister effect register =
    (past : ℕ) (before after : State) (access : Access) (value : Value)
    → IsState before → effect.store ≡ Some (access, value) → (applies : Applies effect past before after)
    → word_at after.mem (address_of before applies.loaded access) ≡ Some (reg_of before register)

-- what the flow of an effect says of each of its steps
pub record FlowTells (effect : Effect) (shape : Shape) (flow : Flow) : Type 0 where
  pub keep : flow.sp ≡ Keep → KeepsRegister effect shape.sp
  pub by : (k : ℤ) → flow.sp ≡ By k → MovesRegister effect shape.sp k
  pub link_kept : IfSome shape.link (λ link. flow.writes_link ≡ false → KeepsRegister effect link)
  pub link_unstored : IfSome shape.link (λ link. flow.stores_link ≡ false → ¬ StoresCopy effect link)
  pub link_stored : IfSome shape.link (λ link. flow.stores_link ≡ true → StoresCopy effect link)
  pub link_saved : IfSome shape.link (λ link. flow.stores_link ≡ true → SavesRegister effect link)

-- each step of a call that links through the register leaves there the address just behind the instruction
abbrev pub LinksThrough : Effect → ℕ → Type 0
LinksThrough effect register =
    (past : ℕ) (before after : State) → IsState before → register < 33 → Applies effect past before after
    → reg_of after register ≡ past

-- the effect writes this register once and no other, and is no call that links
pub record WritesOne (effect : Effect) (register : ℕ) (value : Value) : Type 0 where
  pub writes : effect.writes.items ≡ (register, value) ∷ []
  pub unlinked : link_of effect.next ≡ None

-- a register has a number that the value gives, and all others are as before
pub record HasWritten (before after : State) (loaded register : ℕ) (value : Value) : Type 0 where
  pub number : ℕ
  pub gives : Gives before loaded value number
  pub here : reg_of after register ≡ number % 2 ^ 64
  pub others : (other : ℕ) → (other ≡ register → ⊥) → reg_of after other ≡ reg_of before other

-- each step writes the value into the register, and into no other
abbrev pub WritesValue : Effect → ℕ → Value → Type 0
WritesValue effect register value =
    (past : ℕ) (before after : State) → IsState before → register < 33 → (applies : Applies effect past before after)
    → HasWritten before after applies.loaded register value

-- the value is this operation of these atoms, with 64 bits
pub record IsWord (value : Value) (operation : Op) (first second : Atom) : Type 0 where
  pub op : value.op ≡ operation
  pub a : value.a ≡ first
  pub b : value.b ≡ second
  pub width : value.width ≡ 64

-- the value gives this number alone
abbrev pub GivesOnly : Value → (State → ℕ → ℕ) → Type 0
GivesOnly value number = (state : State) (loaded x : ℕ) → Gives state loaded value x → x ≡ number state loaded

-- the numbers of a state keep their widths over a step
abbrev pub StateStays : Effect → Type 0
StateStays effect =
    (past : ℕ) (before after : State) → IsState before → past < 2 ^ 64 → after.pc < 2 ^ 64
    → Applies effect past before after → IsState after
