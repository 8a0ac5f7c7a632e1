-- How functions enter and leave their frames, and how they check that the stack has room.
use Rattle.std.specs.Prelude.{ℕ, zero, suc, ℤ, pos, ◌-ℤ◌, ◌+◌, ◌-◌, false, List, [], ◌∷◌, Some, None, nat_le, if◌then◌else◌}
use Rattle.asm_target.specs.declared.frame.FrameShape.{FrameShape}
use Rattle.asm_target.specs.declared.frame.Guard.{Guard}
use Rattle.asm_target.specs.declared.refer.Part.TheVariants.{Whole}
use Rattle.asm_target.specs.declared.refer.Picked.{Picked}
use Rattle.asm_target.specs.declared.refer.To.{To}
use Rattle.asm_target.specs.declared.refer.To.TheVariants as to
use Rattle.amd64_table.specs.declared.condition.Cc.TheVariants.{Carry, CarryOrZero}
use Rattle.amd64_table.specs.declared.reg.Reg.{Reg}
use Rattle.amd64_table.specs.declared.reg.Reg.TheVariants.{Ax, Cx, Sp, Bp}
use Rattle.amd64_table.specs.declared.width.Width.TheVariants.{Q}
use Rattle.amd64_table.specs.declared.memory.Mem.TheVariants.{Base}
use Rattle.amd64_table.specs.declared.memory.Rm.TheVariants as rms
use Rattle.amd64_table.specs.declared.op.Arithmetic.{Arithmetic}
use Rattle.amd64_table.specs.declared.op.Arithmetic.TheVariants.{Add, Sub}
use Rattle.amd64_table.specs.declared.op.MemReg.TheVariants as mem_reg
use Rattle.amd64_table.specs.declared.op.Near.{Near}
use Rattle.amd64_table.specs.declared.op.Near.TheVariants as near
use Rattle.amd64_table.specs.declared.op.RegRm.TheVariants as reg_rm
use Rattle.amd64_table.specs.declared.instr.Instr.{Instr}
use Rattle.amd64_table.specs.declared.instr.Instr.TheVariants as instr

-- ADDQ, SUBQ $n, reg
abbrev pub by_constant : Arithmetic → ℕ → Reg → Instr
by_constant op n reg = instr.ArithmeticConst op false Q (pos n) (rms.Reg reg)

-- SUBQ $n, SP; MOVQ BP, l(SP); LEAQ l(SP), BP
abbrev pub entered : ℕ → ℕ → List Instr
entered zero locals = []
entered (suc n) locals =
    by_constant Sub (suc n) Sp
    ∷ instr.RegRm reg_rm.Mov Q Bp (rms.Mem (Base Sp (pos locals)))
    ∷ instr.Lea (Base Sp (pos locals)) Bp
    ∷ []

-- MOVQ l(SP), BP; ADDQ $n, SP
abbrev pub left : ℕ → ℕ → List Instr
left zero locals = []
left (suc n) locals = instr.MemReg mem_reg.Mov Q (Base Sp (pos locals)) Bp ∷ by_constant Add (suc n) Sp ∷ []

abbrev pub entry_of : FrameShape → List Instr
entry_of frame = entered frame.total frame.locals

abbrev pub exit_of : FrameShape → List Instr
exit_of frame = left frame.total frame.locals

abbrev pub simple : Instr → Picked Instr
simple i = record { instr = i; refer = None }

abbrev pub going : Near → To → Picked Instr
going op goal = record { instr = instr.Near op (pos 0); refer = Some (record { to = goal; part = Whole }) }

-- MOVQ (TLS), CX loads the address of the goroutine's record, which has the stack's lowest address at 16
abbrev pub load_g : Picked Instr
load_g = simple (instr.LoadTls Cx)

-- CMPQ reg, 16(CX); JLS block
abbrev pub compared : Reg → List (Picked Instr)
compared reg =
    simple (instr.MemReg mem_reg.Cmp Q (Base Cx (pos 16)) reg) ∷ going (near.If CarryOrZero) to.Block ∷ []

-- LEAQ -k(SP), AX
abbrev pub page_checked : ℕ → List (Picked Instr)
page_checked k = load_g ∷ simple (instr.Lea (Base Sp (pos 0 -ℤ pos k)) Ax) ∷ compared Ax

-- MOVQ SP, AX; SUBQ $k, AX; JCS block
abbrev pub large_checked : ℕ → List (Picked Instr)
large_checked k =
    load_g
    ∷ simple (instr.RegRm reg_rm.Mov Q Sp (rms.Reg Ax))
    ∷ simple (by_constant Sub k Ax)
    ∷ going (near.If Carry) to.Block
    ∷ compared Ax

-- A function may use 128 bytes below the lowest address. The check is of k bytes more. Where they are at most a page, taking them off
-- can't pass 0; where they are more it can, and then it carries
abbrev pub checked : ℕ → ℕ → List (Picked Instr)
checked n k =
    if nat_le n 128 then load_g ∷ compared Sp else (if nat_le n 4096 then page_checked k else large_checked k)

-- CALL growth; JMP entry
abbrev pub growing : List (Picked Instr)
growing = going near.Call to.Grow ∷ going near.Jmp to.Entry ∷ []

-- the block stands at the function's end
abbrev pub check_of : FrameShape → Guard Instr
check_of frame = record { head = checked frame.total (frame.total - 128); block = growing; in_place = false }
