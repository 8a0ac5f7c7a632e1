-- What statements stand for: the rows of selection, one a line.
use Rattle.std.specs.Prelude.{◌≡◌, ℤ, pos, negsuc, suc, ◌-◌, ◌^◌, Bool, nat_lt, Option, Some, None, if◌then◌else◌}
use Rattle.machine_effect.specs.Numbers.{fits as fits_bits}
use Rattle.amd64_table.specs.declared.condition.Cc.TheVariants as cc
use Rattle.amd64_table.specs.declared.width.Width.TheVariants.{Q, L}
use Rattle.amd64_table.specs.declared.reg.Reg.TheVariants.{Sp}
use Rattle.amd64_table.specs.declared.op.Arithmetic.TheVariants.{Add, Sub}
use Rattle.amd64_table.specs.declared.op.Extend.TheVariants.{ByteZero, WordZero}
use Rattle.amd64_table.specs.declared.op.Near.{Near}
use Rattle.amd64_table.specs.declared.op.Near.TheVariants as near
use Rattle.amd64_table.specs.declared.mnemonic.Mnemonic.{Mnemonic}
use Rattle.amd64_table.specs.declared.mnemonic.Mnemonic.TheVariants as name
use Rattle.amd64_table.specs.declared.operand.Operand.{Operand}
use Rattle.amd64_table.specs.declared.operand.Operand.TheVariants.{Const, Reg, Mem, Goal}
use Rattle.amd64_table.specs.declared.instr.Instr.{Instr}
use Rattle.amd64_forms.specs.declared.alias.Alias.{Alias}
use Rattle.amd64_forms.specs.declared.alias.Alias.TheVariants as alias
use Rattle.amd64_forms.specs.declared.rows.Spoken.{Spoken}
use Rattle.amd64_forms.specs.declared.rows.Spoken.TheVariants.{Listed, Widen, ToLabel, Direct, Adjust, Nothing}
use Rattle.amd64_forms.specs.declared.rows.Resolved.{Resolved}
use Rattle.amd64_forms.specs.declared.rows.Resolved.TheVariants.{Plain, Address}
use Rattle.amd64_forms.specs.Listed.{Writes}

-- what a name that isn't one of the list says
unfoldable pub meaning_of : Alias → Spoken
meaning_of alias.Movbqzx = Listed (name.Extend ByteZero)
meaning_of alias.Movwqzx = Listed (name.Extend WordZero)
meaning_of alias.Movlqzx = Widen
meaning_of alias.Jlo = Listed (name.JumpIf cc.Carry)
meaning_of alias.Jhs = Listed (name.JumpIf cc.NotCarry)
meaning_of alias.Setlo = Listed (name.SetCc cc.Carry)
meaning_of alias.Seths = Listed (name.SetCc cc.NotCarry)
meaning_of alias.Cmovqlo = Listed (name.MoveCc Q cc.Carry)
meaning_of alias.Cmovqhs = Listed (name.MoveCc Q cc.NotCarry)
meaning_of alias.Cmovllo = Listed (name.MoveCc L cc.Carry)
meaning_of alias.Cmovlhs = Listed (name.MoveCc L cc.NotCarry)
meaning_of alias.Jz = ToLabel cc.Zero
meaning_of alias.Je = ToLabel cc.Zero
meaning_of alias.Jnz = ToLabel cc.NotZero
meaning_of alias.Jc = ToLabel cc.Carry
meaning_of alias.Jb = ToLabel cc.Carry
meaning_of alias.Jnc = ToLabel cc.NotCarry
meaning_of alias.Jae = ToLabel cc.NotCarry
meaning_of alias.Ja = ToLabel cc.NeitherCarryNorZero
meaning_of alias.Jbe = ToLabel cc.CarryOrZero
meaning_of alias.Jg = ToLabel cc.Greater
meaning_of alias.Jl = ToLabel cc.Less
meaning_of alias.Js = ToLabel cc.Negative
meaning_of alias.Jns = ToLabel cc.NotNegative
meaning_of alias.B = Direct near.Jmp
meaning_of alias.Bl = Direct near.Call
meaning_of alias.Adjsp = Adjust
meaning_of alias.Nop = Nothing
meaning_of alias.Pcdata = Nothing
meaning_of alias.Funcdata = Nothing

-- a name of the list, and operands as an instruction's text has them
abbrev pub Written : Type 0
Written = Mnemonic × (Option Operand × Option Operand)

-- MOVL of a negative constant of 32 bits loads the number without sign that has the same bits
abbrev pub wrapped : ℤ → ℤ
wrapped (pos n) = pos n
wrapped (negsuc n) = if nat_lt n (2 ^ 31) then pos (2 ^ 32 - 1 - n) else negsuc n

-- MOVQ of a constant that has 32 bits without a sign is MOVL
abbrev pub mov_of : ℤ → Mnemonic
mov_of (pos n) = if nat_lt n (2 ^ 32) then name.Mov L else name.Mov Q
mov_of (negsuc n) = name.Mov Q

abbrev pub direct_of : Near → Mnemonic
direct_of near.Jmp = name.Jump
direct_of near.Call = name.Call
direct_of (near.If code) = name.JumpIf code

-- ADJSP takes the constant from SP
abbrev pub adjusted : ℤ → Option Written
adjusted (pos n) = Some (name.Arithmetic Sub Q, (Some (Const (pos n)), Some (Reg Sp)))
adjusted (negsuc n) =
    if fits_bits 32 (pos (suc n)) then Some (name.Arithmetic Add Q, (Some (Const (pos (suc n))), Some (Reg Sp))) else None

-- the instruction of this name with the operands as they are
abbrev pub itself : Mnemonic → Option Resolved → Option Resolved → Option Written
itself m None None = Some (m, (None, None))
itself m (Some (Plain first)) None = Some (m, (Some first, None))
itself m (Some (Plain first)) (Some (Plain second)) = Some (m, (Some first, Some second))
itself m _ _ = None

-- the instruction of the list for which a statement stands, by its name and operands
unfoldable pub stands : Spoken → Option Resolved → Option Resolved → Option Written
stands (Listed (name.Mov L)) (Some (Plain (Const c))) (Some (Plain (Reg to))) = Some (name.Mov L, (Some (Const (wrapped c)), Some (Reg to)))
stands (Listed (name.Mov Q)) (Some (Plain (Const c))) (Some (Plain (Reg to))) = Some (mov_of c, (Some (Const c), Some (Reg to)))
stands (Listed (name.Mov Q)) (Some (Address place)) (Some (Plain (Reg to))) = Some (name.Lea, (Some (Mem place), Some (Reg to)))
stands (Listed m) first second = itself m first second
stands Widen first second = itself (name.Mov L) first second
stands (ToLabel code) (Some (Plain (Goal distance))) None = Some (name.JumpIf code, (Some (Goal distance), None))
stands (Direct near) (Some (Plain (Goal distance))) None = Some (direct_of near, (Some (Goal distance), None))
stands Adjust (Some (Plain (Const c))) None = adjusted c
stands _ first second = None

abbrev pub WritesOf : Option Written → Bool → Instr → Type 0
WritesOf None lock i = ⊥
WritesOf (Some written) lock i = Writes written.0 lock written.1 i

-- a statement with this name, LOCK before it or not, and these operands becomes this instruction
unfoldable pub Becomes : Spoken → Bool → Option Resolved → Option Resolved → Instr → Type 0
Becomes spoken lock first second i = WritesOf (stands spoken first second) lock i
