-- An instruction is told by its name, LOCK and operands.
use Rattle.std.proofs.Common.{◌≡◌, ℕ, ℤ, pos, negsuc, Bool, false, Option, Some, None, sym, ◌∙◌, rules}
use Rattle.amd64_table.specs.declared.memory.Rm.{Rm}
use Rattle.amd64_table.specs.declared.memory.Rm.TheVariants as rms
use Rattle.amd64_table.specs.declared.reg.Reg.TheVariants.{Ax}
use Rattle.amd64_table.specs.declared.width.Width.TheVariants.{Q, L}
use Rattle.amd64_table.specs.declared.op.Indirect.TheVariants as indirect
use Rattle.amd64_table.specs.declared.op.MemReg.TheVariants as mem_reg
use Rattle.amd64_table.specs.declared.op.Near.TheVariants as near
use Rattle.amd64_table.specs.declared.op.Plain.TheVariants as plain
use Rattle.amd64_table.specs.declared.op.RegRm.TheVariants as reg_rm
use Rattle.amd64_table.specs.declared.mnemonic.Mnemonic.{Mnemonic}
use Rattle.amd64_table.specs.declared.mnemonic.Mnemonic.TheVariants as name
use Rattle.amd64_table.specs.declared.operand.Operand.{Operand}
use Rattle.amd64_table.specs.declared.operand.Operand.TheVariants as operand
use Rattle.amd64_table.specs.declared.instr.Instr.{Instr}
use Rattle.amd64_table.specs.declared.instr.Instr.TheVariants as instr
use Rattle.amd64_table.specs.Mnemonics.{mnemonic_of}
use Rattle.amd64_table.specs.Texts.{is_locked, operands_of, reg_rm_operands, mem_reg_operands}
use Rattle.amd64_forms.specs.Listed.{is_short, Writes}
use Rattle.amd64_forms.specs.declared.rows.Spoken.{Spoken}
use Rattle.amd64_forms.specs.declared.rows.Resolved.{Resolved}
use Rattle.amd64_forms.specs.Rows.{Written, WritesOf, Becomes, stands}

abbrev rm : Operand → Rm
rm (operand.Reg reg) = rms.Reg reg
rm (operand.Mem mem) = rms.Mem mem
rm _ = rms.Reg Ax

abbrev natural : ℤ → ℕ
natural (pos n) = n
natural (negsuc n) = 0

abbrev nothing : Instr
nothing = instr.Plain plain.Pause

-- the instruction with this name, LOCK before it or not, and these operands
abbrev told : Mnemonic → Bool → Option Operand × Option Operand → Instr
told (name.Mov w) lock (Some (operand.Reg reg), Some to) = instr.RegRm reg_rm.Mov w reg (rm to)
told (name.Mov w) lock (Some (operand.Mem mem), Some (operand.Reg reg)) = instr.MemReg mem_reg.Mov w mem reg
told (name.Mov w) lock (Some (operand.Const c), Some (operand.Mem mem)) = instr.StoreConst w c mem
told (name.Mov L) lock (Some (operand.Const c), Some (operand.Reg reg)) = instr.LoadLong (natural c) reg
told (name.Mov Q) lock (Some (operand.Const c), Some (operand.Reg reg)) = instr.LoadQuad c reg
told (name.Mov w) lock (Some operand.Tls, Some (operand.Reg reg)) = instr.LoadTls reg
told (name.StoreLow size) lock (Some (operand.Reg reg), Some (operand.Mem mem)) = instr.StoreLow size reg mem
told (name.StoreLow size) lock (Some (operand.Const c), Some (operand.Mem mem)) = instr.StoreByte c mem
told (name.Extend op) lock (Some from, Some (operand.Reg reg)) = instr.Extend op (rm from) reg
told name.Lea lock (Some (operand.Mem mem), Some (operand.Reg reg)) = instr.Lea mem reg
told (name.Arithmetic op w) lock (Some (operand.Reg reg), Some to) = instr.ArithmeticReg op lock w reg (rm to)
told (name.Arithmetic op w) lock (Some (operand.Const c), Some to) = instr.ArithmeticConst op lock w c (rm to)
told (name.Arithmetic op w) lock (Some (operand.Mem mem), Some (operand.Reg reg)) = instr.MemReg (mem_reg.Arithmetic op) w mem reg
told (name.Cmp w) lock (Some from, Some (operand.Reg reg)) = instr.RegRm reg_rm.Cmp w reg (rm from)
told (name.Cmp w) lock (Some from, Some (operand.Const c)) = instr.CompareConst w (rm from) c
told (name.Cmp w) lock (Some (operand.Reg reg), Some (operand.Mem mem)) = instr.MemReg mem_reg.Cmp w mem reg
told (name.Test w) lock (Some (operand.Reg reg), Some to) = instr.RegRm reg_rm.Test w reg (rm to)
told (name.Unary op w) lock (Some to, None) = instr.Unary op lock w (rm to)
told (name.MulDiv op w) lock (Some from, None) = instr.MulDiv op w (rm from)
told (name.RmReg op w) lock (Some from, Some (operand.Reg reg)) = instr.RmReg op w (rm from) reg
told (name.Shift op w) lock (Some (operand.Const c), Some to) = instr.ShiftConst op w (natural c) (rm to)
told (name.Shift op w) lock (Some (operand.Reg reg), Some to) = instr.ShiftCx op w (rm to)
told (name.Stack op) lock (Some (operand.Reg reg), None) = instr.Stack op reg
told (name.Exchange w) lock (Some (operand.Reg reg), Some (operand.Mem mem)) = instr.Exchange w reg mem
told (name.Atomic op w) lock (Some (operand.Reg reg), Some (operand.Mem mem)) = instr.Atomic op lock w reg mem
told (name.SetCc code) lock (Some to, None) = instr.SetCc code (rm to)
told (name.MoveCc w code) lock (Some from, Some (operand.Reg reg)) = instr.MoveCc code w (rm from) reg
told (name.SwapBytes w) lock (Some (operand.Reg reg), None) = instr.SwapBytes w reg
told name.Jump lock (Some (operand.Goal d), None) = instr.Near near.Jmp d
told name.Jump lock (Some to, None) = instr.Indirect indirect.Jmp (rm to)
told (name.JumpIf code) lock (Some (operand.Goal d), None) = instr.Near (near.If code) d
told name.Call lock (Some (operand.Goal d), None) = instr.Near near.Call d
told name.Call lock (Some to, None) = instr.Indirect indirect.Call (rm to)
told name.MoveWide lock (Some (operand.Mem mem), Some (operand.Wide xmm)) = instr.LoadWide mem xmm
told name.MoveWide lock (Some (operand.Wide xmm), Some (operand.Mem mem)) = instr.StoreWide xmm mem
told name.XorWide lock (Some (operand.Wide from), Some (operand.Wide to)) = instr.XorWide from to
told (name.Plain op) lock (None, None) = instr.Plain op
told _ lock shown = nothing

told_so : (i : Instr) → is_short i ≡ false → told (mnemonic_of i) (is_locked i) (operands_of i) ≡ i
unfolding mnemonic_of is_locked operands_of reg_rm_operands mem_reg_operands is_short
told_so = search rules

pub writes_one : (m : Mnemonic) (lock : Bool) (shown : Option Operand × Option Operand) (i j : Instr)
    → Writes m lock shown i → Writes m lock shown j → i ≡ j
writes_one m lock shown i j one other =
    let left : told (mnemonic_of i) (is_locked i) (operands_of i) ≡ told m lock shown = cc (one.shows.named, one.locked, one.shows.shown) in
    let right : told (mnemonic_of j) (is_locked j) (operands_of j) ≡ told m lock shown = cc (other.shows.named, other.locked, other.shows.shown) in
    sym (told_so i one.shows.long) ∙ left ∙ sym right ∙ told_so j other.shows.long

-- a statement becomes one instruction
pub becomes_one : (s : Spoken) (lock : Bool) (a b : Option Resolved) (i j : Instr) → Becomes s lock a b i → Becomes s lock a b j
    → i ≡ j
unfolding Becomes
becomes_one s lock a b i j one other = by (stands s a b) one other
  where
    by : (w : Option Written) → WritesOf w lock i → WritesOf w lock j → i ≡ j
    by None one other = absurd one
    by (Some w) one other = writes_one w.0 lock w.1 i j one other
