-- An instruction and a statement stay listed where their numbers become 0: other numbers help exactly where these do.
use Rattle.std.specs.Prelude.{if◌then◌else◌}
use Rattle.std.proofs.Common.{◌≡◌, zero, suc, ℤ, pos, negsuc, Bool, true, false, IsTrue, Option, Some, None, refl, sym, ◌∙◌, ap, subst, rules}
use Rattle.std.specs.Option.{option_map}
use Rattle.machine_effect.specs.Numbers.{fits as fits_bits}
use Rattle.amd64_table.specs.declared.condition.Cc.{Cc}
use Rattle.amd64_table.specs.declared.op.Near.{Near}
use Rattle.amd64_table.specs.declared.memory.Mem.{Mem}
use Rattle.amd64_table.specs.declared.memory.Mem.TheVariants as memory
use Rattle.amd64_table.specs.declared.memory.Scale.TheVariants.{One}
use Rattle.amd64_table.specs.declared.memory.Rm.{Rm}
use Rattle.amd64_table.specs.declared.memory.Rm.TheVariants as rms
use Rattle.amd64_table.specs.declared.width.Width.TheVariants.{Q, L}
use Rattle.amd64_table.specs.declared.reg.Reg.TheVariants.{Sp}
use Rattle.amd64_table.specs.declared.op.Arithmetic.{Arithmetic}
use Rattle.amd64_table.specs.declared.op.Arithmetic.TheVariants.{Add, Sub}
use Rattle.amd64_table.specs.declared.mnemonic.Mnemonic.{Mnemonic}
use Rattle.amd64_table.specs.declared.mnemonic.Mnemonic.TheVariants as name
use Rattle.amd64_table.specs.declared.operand.Operand.{Operand}
use Rattle.amd64_table.specs.declared.operand.Operand.TheVariants as operand
use Rattle.amd64_table.specs.declared.instr.Instr.{Instr}
use Rattle.amd64_table.specs.declared.instr.Instr.TheVariants as instr
use Rattle.amd64_table.specs.Fits.{fits, fits_rm, fits_mem, fits_lock, is_quad_constant}
use Rattle.amd64_table.specs.Operands.{bits_of}
use Rattle.amd64_table.specs.Mnemonics.{mnemonic_of}
use Rattle.amd64_table.specs.Texts.{is_locked, operands_of, reg_rm_operands, mem_reg_operands}
use Rattle.amd64_forms.specs.Listed.{is_short, Writes}
use Rattle.amd64_forms.specs.declared.rows.Spoken.{Spoken}
use Rattle.amd64_forms.specs.declared.rows.Spoken.TheVariants as spoken
use Rattle.amd64_forms.specs.declared.rows.Resolved.{Resolved}
use Rattle.amd64_forms.specs.declared.rows.Resolved.TheVariants.{Plain, Address}
use Rattle.amd64_forms.specs.Rows.{Written, WritesOf, Becomes, stands, adjusted}

abbrev pub zero_mem : Mem → Mem
zero_mem (memory.Base base disp) = memory.Base base (pos 0)
zero_mem (memory.Indexed base index scale disp) = memory.Indexed base index One (pos 0)
zero_mem (memory.Symbol distance) = memory.Symbol (pos 0)

abbrev pub zero_rm : Rm → Rm
zero_rm (rms.Reg reg) = rms.Reg reg
zero_rm (rms.Mem mem) = rms.Mem (zero_mem mem)

abbrev pub zero_operand : Operand → Operand
zero_operand (operand.Mem mem) = operand.Mem (zero_mem mem)
zero_operand (operand.Const c) = operand.Const (pos 0)
zero_operand (operand.Goal d) = operand.Goal (pos 0)
zero_operand other = other

abbrev pub zero_two : Option Operand × Option Operand → Option Operand × Option Operand
zero_two shown = (option_map zero_operand shown.0, option_map zero_operand shown.1)

abbrev pub zero_instr : Instr → Instr
zero_instr (instr.RegRm op width reg rm) = instr.RegRm op width reg (zero_rm rm)
zero_instr (instr.ArithmeticReg op lock width from to) = instr.ArithmeticReg op lock width from (zero_rm to)
zero_instr (instr.MemReg op width mem reg) = instr.MemReg op width (zero_mem mem) reg
zero_instr (instr.ArithmeticConst op lock width constant to) = instr.ArithmeticConst op lock width (pos 0) (zero_rm to)
zero_instr (instr.CompareConst width rm constant) = instr.CompareConst width (zero_rm rm) (pos 0)
zero_instr (instr.StoreLow size from to) = instr.StoreLow size from (zero_mem to)
zero_instr (instr.Extend op from to) = instr.Extend op (zero_rm from) to
zero_instr (instr.LoadLong constant to) = instr.LoadLong 0 to
zero_instr (instr.LoadQuad constant to) = instr.LoadLong 0 to
zero_instr (instr.StoreConst width constant to) = instr.StoreConst width (pos 0) (zero_mem to)
zero_instr (instr.StoreByte constant to) = instr.StoreByte (pos 0) (zero_mem to)
zero_instr (instr.Lea from to) = instr.Lea (zero_mem from) to
zero_instr (instr.Unary op lock width rm) = instr.Unary op lock width (zero_rm rm)
zero_instr (instr.MulDiv op width rm) = instr.MulDiv op width (zero_rm rm)
zero_instr (instr.RmReg op width from to) = instr.RmReg op width (zero_rm from) to
zero_instr (instr.ShiftConst op width count rm) = instr.ShiftConst op width 0 (zero_rm rm)
zero_instr (instr.ShiftCx op width rm) = instr.ShiftCx op width (zero_rm rm)
zero_instr (instr.Exchange width reg mem) = instr.Exchange width reg (zero_mem mem)
zero_instr (instr.Atomic op lock width reg mem) = instr.Atomic op lock width reg (zero_mem mem)
zero_instr (instr.SetCc code to) = instr.SetCc code (zero_rm to)
zero_instr (instr.MoveCc code width from to) = instr.MoveCc code width (zero_rm from) to
zero_instr (instr.Short code distance) = instr.Short code (pos 0)
zero_instr (instr.Near op distance) = instr.Near op (pos 0)
zero_instr (instr.Indirect op rm) = instr.Indirect op (zero_rm rm)
zero_instr (instr.LoadWide from to) = instr.LoadWide (zero_mem from) to
zero_instr (instr.StoreWide from to) = instr.StoreWide from (zero_mem to)
zero_instr same = same

pub fits-zero : (i : Instr) → IsTrue (fits i) → IsTrue (fits (zero_instr i))
unfolding fits fits_rm fits_mem fits_lock is_quad_constant bits_of
fits-zero = search rules

-- MOVQ of a constant to a register becomes MOVL
abbrev pub zero_name : Mnemonic → Option Operand × Option Operand → Mnemonic
zero_name (name.Mov width) (Some (operand.Const c), Some (operand.Reg reg)) = name.Mov L
zero_name m _ = m

pub mnemonic-zero : (i : Instr) → mnemonic_of (zero_instr i) ≡ zero_name (mnemonic_of i) (operands_of i)
unfolding mnemonic_of operands_of reg_rm_operands mem_reg_operands
mnemonic-zero = search rules

pub operands-zero : (i : Instr) → operands_of (zero_instr i) ≡ zero_two (operands_of i)
unfolding operands_of reg_rm_operands mem_reg_operands
operands-zero = search rules

pub locked-zero : (i : Instr) → is_locked (zero_instr i) ≡ is_locked i
unfolding is_locked
locked-zero = search rules

pub short-zero : (i : Instr) → is_short (zero_instr i) ≡ is_short i
unfolding is_short
short-zero = search rules

writes-zero : (m : Mnemonic) (lock : Bool) (shown : Option Operand × Option Operand) (i : Instr) → Writes m lock shown i
    → Writes (zero_name m shown) lock (zero_two shown) (zero_instr i)
writes-zero m lock shown i w = record {
  listed = fits-zero i w.listed;
  locked = locked-zero i ∙ w.locked;
  shows = record {
    named = mnemonic-zero i ∙ ap (λ (m : Mnemonic). zero_name m (operands_of i)) w.shows.named ∙ ap (zero_name m) w.shows.shown;
    shown = operands-zero i ∙ ap zero_two w.shows.shown;
    long = short-zero i ∙ w.shows.long;
  };
}

abbrev pub zero_resolved : Resolved → Resolved
zero_resolved (Plain shown) = Plain (zero_operand shown)
zero_resolved (Address mem) = Address (zero_mem mem)

abbrev pub zero_option : Option Resolved → Option Resolved
zero_option None = None
zero_option (Some x) = Some (zero_resolved x)

-- the row for these operands is that for the same with 0
abbrev StaysZero : Spoken → Type 0
StaysZero s = (a b : Option Resolved) (w : Written) → stands s a b ≡ Some w
    → stands s (zero_option a) (zero_option b) ≡ Some (zero_name w.0 w.1, zero_two w.1)

listed_stays : (m : Mnemonic) → StaysZero (spoken.Listed m)
unfolding stands
listed_stays = search rules

widen_stays : StaysZero spoken.Widen
unfolding stands
widen_stays = search rules

label_stays : (code : Cc) → StaysZero (spoken.ToLabel code)
unfolding stands
label_stays = search rules

direct_stays : (near : Near) → StaysZero (spoken.Direct near)
unfolding stands
direct_stays = search rules

nothing_stays : StaysZero spoken.Nothing
unfolding stands
nothing_stays = search rules

-- ADDQ and SUBQ of a constant and SP have no LOCK
unlocked : (i : Instr) (op : Arithmetic) (c : ℤ) → IsTrue (fits i) → mnemonic_of i ≡ name.Arithmetic op Q
    → operands_of i ≡ (Some (operand.Const c), Some (operand.Reg Sp)) → is_locked i ≡ false
unfolding fits fits_rm fits_mem fits_lock mnemonic_of operands_of reg_rm_operands mem_reg_operands is_locked
unlocked = search rules

by_rows : (s : Spoken) (lock : Bool) (a b : Option Resolved) (i : Instr) → StaysZero s → Becomes s lock a b i
    → Becomes s lock (zero_option a) (zero_option b) (zero_instr i)
unfolding Becomes
by_rows s lock a b i stays becomes = by (stands s a b) refl becomes
  where
    by : (w : Option Written) → stands s a b ≡ w → WritesOf w lock i
        → WritesOf (stands s (zero_option a) (zero_option b)) lock (zero_instr i)
    by None is writes = absurd writes
    by (Some w) is writes =
        subst (λ (x : Option Written). WritesOf x lock (zero_instr i)) (sym (stays a b w is)) (writes-zero w.0 lock w.1 i writes)

sub_zero : Bool → Instr
sub_zero lock = instr.ArithmeticConst Sub lock Q (pos 0) (rms.Reg Sp)

writes_sub : (lock : Bool) → lock ≡ false
    → Writes (name.Arithmetic Sub Q) lock (Some (operand.Const (pos 0)), Some (operand.Reg Sp)) (sub_zero lock)
unfolding sub_zero fits fits_rm fits_lock mnemonic_of operands_of is_locked is_short
writes_sub true none = absurd (cc)
writes_sub false none = record {
  listed = refl;
  locked = refl;
  shows = record { named = refl; shown = refl; long = refl };
}

by_adjusting : (lock : Bool) (c : ℤ) (w : Option Written) (i : Instr) → adjusted c ≡ w → WritesOf w lock i → lock ≡ false
by_adjusting lock c None i is writes = absurd writes
by_adjusting lock (pos n) (Some w) i is writes =
    let m : name.Arithmetic Sub Q ≡ w.0 = cc in
    let shown : (Some (operand.Const (pos n)), Some (operand.Reg Sp)) ≡ w.1 = cc in
    sym writes.locked ∙ unlocked i Sub (pos n) writes.listed (writes.shows.named ∙ sym m) (writes.shows.shown ∙ sym shown)
by_adjusting lock (negsuc n) (Some w) i is writes = by (fits_bits 32 (pos (suc n))) is
  where
    by : (small : Bool) → (if small then Some (name.Arithmetic Add Q, (Some (operand.Const (pos (suc n))), Some (operand.Reg Sp))) else None) ≡ Some w
        → lock ≡ false
    by true is =
        let m : name.Arithmetic Add Q ≡ w.0 = cc in
        let shown : (Some (operand.Const (pos (suc n))), Some (operand.Reg Sp)) ≡ w.1 = cc in
        sym writes.locked ∙ unlocked i Add (pos (suc n)) writes.listed (writes.shows.named ∙ sym m) (writes.shows.shown ∙ sym shown)
    by false is = absurd (cc)

adjusts : (lock : Bool) (a b : Option Resolved) (i : Instr) → Becomes spoken.Adjust lock a b i
    → Becomes spoken.Adjust lock (zero_option a) (zero_option b) (sub_zero lock)
unfolding Becomes stands
adjusts lock (Some (Plain (operand.Const c))) None i becomes =
    writes_sub lock (by_adjusting lock c (adjusted c) i refl becomes)
adjusts lock a b i becomes = absurd becomes

-- what a statement becomes it becomes, of the same kind, with each number 0
pub becomes-zero : (s : Spoken) (lock : Bool) (a b : Option Resolved) (i : Instr) → Becomes s lock a b i
    → (j : Instr) × Becomes s lock (zero_option a) (zero_option b) j
becomes-zero (spoken.Listed m) lock a b i becomes = (zero_instr i, by_rows _ lock a b i (listed_stays m) becomes)
becomes-zero spoken.Widen lock a b i becomes = (zero_instr i, by_rows _ lock a b i widen_stays becomes)
becomes-zero (spoken.ToLabel code) lock a b i becomes = (zero_instr i, by_rows _ lock a b i (label_stays code) becomes)
becomes-zero (spoken.Direct near) lock a b i becomes = (zero_instr i, by_rows _ lock a b i (direct_stays near) becomes)
becomes-zero spoken.Adjust lock a b i becomes = (sub_zero lock, adjusts lock a b i becomes)
becomes-zero spoken.Nothing lock a b i becomes = (zero_instr i, by_rows _ lock a b i nothing_stays becomes)
