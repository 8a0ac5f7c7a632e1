-- What the instructions mean: spellings, effects and texts.
use Rattle.std.specs.Prelude.{ℕ, ℤ, pos, ◌-ℤ◌, Bool, true, false, List, [], ◌∷◌, ◌++◌, ◌+◌, ◌%◌, ◌^◌, ◌<◌, ◌==◌, codes, FitsSigned, Some, None, if◌then◌else◌}
use Rattle.std.specs.Int.{w8, w16, w32, w64, cast_unsigned, to_le_bytes}
use Rattle.goasm_base.specs.Numbers.{hex_text, decimal_text}
use Rattle.machine_effect.specs.declared.cond.Cond.{Cond}
use Rattle.machine_effect.specs.declared.cond.Cond.TheVariants as cond
use Rattle.machine_effect.specs.declared.effect.Access.{Access}
use Rattle.machine_effect.specs.declared.effect.Atom.{Atom}
use Rattle.machine_effect.specs.declared.effect.Atom.TheVariants.{Reg, Const, Loaded}
use Rattle.machine_effect.specs.declared.effect.Effect.{Effect}
use Rattle.machine_effect.specs.declared.effect.Value.{Value}
use Rattle.machine_effect.specs.declared.flag_rule.FlagRule.TheVariants as flags
use Rattle.machine_effect.specs.declared.next.Next.{Next}
use Rattle.machine_effect.specs.declared.next.Next.TheVariants as next
use Rattle.machine_effect.specs.declared.op.Op.{Op as Operation}
use Rattle.machine_effect.specs.declared.op.Op.TheVariants.{Copy, Add, Subtract}
use Rattle.asm_target.specs.InstructionSet.{InstructionSet}
use Rattle.asm_target_linked.specs.declared.instr.FrameOp.{FrameOp}
use Rattle.asm_target_linked.specs.declared.instr.FrameOp.TheVariants.{Save, Load, Below, Above}
use Rattle.asm_target_linked.specs.declared.instr.Instr.{Instr}
use Rattle.asm_target_linked.specs.declared.instr.Instr.TheVariants.{Plain, Frame, Near, Far}
use Rattle.asm_target_linked.specs.declared.instr.Op.{Op}
use Rattle.asm_target_linked.specs.declared.instr.Op.TheVariants.{Nop, SaveAt, SetSp, LoadLink, Limit, Return}

abbrev pub code_of : Op → ℕ
code_of Nop = 1
code_of SaveAt = 2
code_of SetSp = 3
code_of LoadLink = 4
code_of Limit = 5
code_of Return = 6

abbrev pub op_of : ℕ → Op
op_of code =
    if code == 2 then SaveAt
    else (if code == 3 then SetSp
    else (if code == 4 then LoadLink
    else (if code == 5 then Limit
    else (if code == 6 then Return
    else Nop))))

abbrev pub name_of : Op → List ℕ
name_of Nop = codes "NOP"
name_of SaveAt = codes "SAVEAT"
name_of SetSp = codes "SETSP"
name_of LoadLink = codes "LOADLINK"
name_of Limit = codes "LIMIT"
name_of Return = codes "RET"

abbrev pub frame_code : FrameOp → ℕ
frame_code Save = 32
frame_code Load = 33
frame_code Below = 34
frame_code Above = 35

abbrev pub frame_name : FrameOp → List ℕ
frame_name Save = codes "SAVE $"
frame_name Load = codes "LOAD $"
frame_name Below = codes "BELOW $"
frame_name Above = codes "ABOVE $"

abbrev pub near_code : Bool → ℕ
near_code true = 16
near_code false = 17

abbrev pub far_code : Bool → ℕ
far_code true = 49
far_code false = 48

-- four bytes, and eight with a number of four or of two
abbrev pub short : ℕ → ℕ → List ℕ
short code number = code ∷ number ∷ 0 ∷ 0 ∷ []

abbrev pub long : ℕ → ℕ → List ℕ
long code number = code ∷ 0 ∷ 0 ∷ 0 ∷ to_le_bytes w32 number

abbrev pub far : ℕ → ℕ → List ℕ
far code number = code ∷ 0 ∷ 0 ∷ 0 ∷ 0 ∷ 0 ∷ to_le_bytes w16 number

abbrev pub spelling_of : Instr → List ℕ
spelling_of (Plain op) = short (code_of op) 0
spelling_of (Frame op bytes) = long (frame_code op) bytes
spelling_of (Near held distance) = short (near_code held) (cast_unsigned w8 distance)
spelling_of (Far call distance) = far (far_code call) (cast_unsigned w16 distance)

abbrev pub Fits : Instr → Type 0
Fits (Plain op) = Unit {0}
Fits (Frame op bytes) = bytes < 2 ^ 32
Fits (Near held distance) = FitsSigned w8 distance
Fits (Far call distance) = FitsSigned w16 distance

-- an effect that writes nothing
abbrev pub going : Next → Effect
going next = record {
  writes = record { items = [] };
  wide = None;
  load = None;
  store = None;
  flags = flags.Keep;
  next = next;
}

abbrev pub writing : ℕ → Value → Effect
writing register value = record (going next.Fall) { writes = record { items = (register, value) ∷ [] } }

-- an operation of 64 bits
abbrev pub word : Operation → Atom → ℕ → Value
word op a constant = record { op = op; a = a; b = Const constant; c = Const 0; width = 64 }

abbrev pub copy_of : Atom → Value
copy_of a = word Copy a 0

-- eight bytes at a register and a displacement. The register stands as the index, so that a move of the stack pointer is
-- never told by such an access
abbrev pub eight_at : ℕ → ℤ → Access
eight_at register disp = record { width = 8; base = Const 0; index = Reg register; scale = 1; disp = disp }

-- where a distance from an address leads
abbrev pub goal_of : ℕ → ℤ → ℕ
goal_of pc distance = (pc + cast_unsigned w64 distance) % 2 ^ 64

abbrev pub cond_of : Bool → Cond
cond_of true = cond.Below (Reg 2) (Reg 7) 64
cond_of false = cond.NotBelow (Reg 2) (Reg 7) 64

-- a register is loaded
abbrev pub loading : ℕ → Access → Effect
loading register access = record (writing register (copy_of Loaded)) { load = Some access }

-- the link register is stored
abbrev pub saving : Effect → Access → Effect
saving effect access = record effect { store = Some (access, copy_of (Reg 1)) }

abbrev pub plain_effect : Op → Effect
plain_effect Nop = going next.Fall
plain_effect SaveAt = saving (going next.Fall) (eight_at 31 (pos 0))
plain_effect SetSp = writing 2 (copy_of (Reg 31))
plain_effect LoadLink = loading 1 (eight_at 2 (pos 0))
plain_effect Limit = loading 7 (eight_at 27 (pos 16))
plain_effect Return = going next.Return

abbrev pub frame_effect : FrameOp → ℕ → Effect
frame_effect Save bytes =
    saving (writing 2 (word Subtract (Reg 2) bytes)) (eight_at 2 (pos 0 -ℤ pos bytes))
frame_effect Load bytes =
    record (loading 1 (eight_at 2 (pos 0))) {
      writes = record { items = (1, copy_of Loaded) ∷ (2, word Add (Reg 2) bytes) ∷ [] };
    }
frame_effect Below bytes = writing 31 (word Subtract (Reg 2) bytes)
frame_effect Above bytes = writing 31 (word Add (Reg 2) bytes)

abbrev pub far_next : Bool → ℕ → Next
far_next true goal = next.Call goal (Some 5)
far_next false goal = next.Jump goal

abbrev pub effect_of : Instr → ℕ → Effect
effect_of (Plain op) pc = plain_effect op
effect_of (Frame op bytes) pc = frame_effect op bytes
effect_of (Near held distance) pc = going (next.Branch (cond_of held) (goal_of pc distance))
effect_of (Far call distance) pc = going (far_next call (goal_of pc distance))

abbrev pub near_name : Bool → List ℕ
near_name true = codes "NEAR "
near_name false = codes "NOTNEAR "

abbrev pub far_name : Bool → List ℕ
far_name true = codes "CALL "
far_name false = codes "JMP "

abbrev pub text_of : Instr → ℕ → List ℕ
text_of (Plain op) pc = name_of op
text_of (Frame op bytes) pc = frame_name op ++ decimal_text (pos bytes)
text_of (Near held distance) pc = near_name held ++ hex_text (goal_of pc distance)
text_of (Far call distance) pc = far_name call ++ hex_text (goal_of pc distance)

abbrev pub linked : InstructionSet Instr
linked = record { spelling = spelling_of; effect = effect_of; text = text_of }
