use Rattle.std.proofs.Common.{◌≡◌, ℕ, ℤ, pos, negsuc, ◌+◌, ◌*◌, ◌%◌, ◌^◌, ◌<◌, ◌≤◌, [], ◌∷◌, length, set, Option, Some, None, refl, sym, ap, ◌∙◌, arith, add-zero, lit≤, if◌then◌else◌, get_or-set_same}
use Rattle.std.proofs.lemmas.Nat.{mod_below, pow_pos}
use Rattle.std.proofs.Math.Nat.{mod-eq_of_lt}
use Rattle.std.proofs.Math.Pow.{pow_mono}
use Rattle.machine_effect.specs.declared.state.State.{State}
use Rattle.machine_effect.specs.declared.state.Flags.{Flags}
use Rattle.machine_effect.specs.declared.effect.Access.{Access}
use Rattle.machine_effect.specs.declared.effect.Value.{Value}
use Rattle.machine_effect.specs.declared.effect.Atom.{Atom}
use Rattle.machine_effect.specs.declared.effect.Atom.TheVariants as atom
use Rattle.machine_effect.specs.declared.flag_rule.FlagRule.TheVariants as flag
use Rattle.machine_effect.specs.declared.op.Op.TheVariants as op
use Rattle.machine_effect.specs.declared.next.Next.TheVariants as next
use Rattle.machine_effect.specs.Numbers.{unsigned, signed, moved_by}
use Rattle.machine_effect.specs.Memory.{number_at, put, bytes_of}
use Rattle.machine_effect.specs.Operations.{operate}
use Rattle.machine_effect.specs.Values.{holds_by, atom_of, reg_of, Gives}
use Rattle.machine_effect.specs.Applies.{IsState, Applies, Stores, loaded_of, address_of}
use Rattle.machine_effect.specs.Witness.{resolved}
use Rattle.amd64_table.specs.declared.condition.Cc.{Cc}
use Rattle.amd64_table.specs.declared.condition.Cc.TheVariants as code
use Rattle.amd64_table.specs.declared.reg.Reg.{Reg}
use Rattle.amd64_table.specs.declared.xmm.Xmm.{Xmm}
use Rattle.amd64_table.specs.declared.width.Width.TheVariants.{Q, L}
use Rattle.amd64_table.specs.declared.memory.Mem.{Mem}
use Rattle.amd64_table.specs.declared.memory.Mem.TheVariants as memory
use Rattle.amd64_table.specs.declared.memory.Rm.{Rm}
use Rattle.amd64_table.specs.declared.memory.Rm.TheVariants as rms
use Rattle.amd64_table.specs.declared.op.RegRm.TheVariants as reg_rm
use Rattle.amd64_table.specs.declared.op.MemReg.TheVariants as mem_reg
use Rattle.amd64_table.specs.declared.op.StoreSize.TheVariants as size
use Rattle.amd64_table.specs.declared.op.Extend.TheVariants as extend
use Rattle.amd64_table.specs.declared.op.Near.TheVariants as near
use Rattle.amd64_table.specs.declared.op.Indirect.TheVariants as indirect
use Rattle.amd64_table.specs.declared.op.Plain.TheVariants as plain
use Rattle.amd64_table.specs.declared.operand.Operand.{Operand}
use Rattle.amd64_table.specs.declared.operand.Operand.TheVariants as operand
use Rattle.amd64_table.specs.declared.instr.Instr.{Instr}
use Rattle.amd64_table.specs.declared.instr.Instr.TheVariants as instr
use Rattle.amd64_table.specs.Registers.{number_of, xmm_number}
use Rattle.amd64_table.specs.Conditions.{cond_of}
use Rattle.amd64_table.specs.Operands.{bits_of, bytes_of as width_bytes, reg_atom, signed_atom, access_of, rm_atom, load_of, writes_of, store_of}
use Rattle.amd64_table.specs.Forms.{copy_of, value_of, computing, setting, reading, loading, storing}
use Rattle.amd64_table.specs.Moves.{reg_rm_effect, mem_reg_effect, store_low_effect, extend_bytes, extended, extend_effect, store_const_effect, load_wide_effect, store_wide_effect, load_tls_effect}
use Rattle.amd64_table.specs.Control.{short_effect, near_effect, indirect_effect, plain_effect}
use Rattle.amd64_table.specs.Effects.{effect_at}
use Rattle.amd64_table.specs.Flows.{next_of}
use Rattle.amd64_table.specs.Mnemonics.{mnemonic_of}
use Rattle.amd64_table.specs.Texts.{rm_operand, reg_rm_operands, mem_reg_operands, operands_of}
use Rattle.amd64_table.specs.StepLaws.{is_met, address_in, number_in, Becomes, Moves, extended_from, MeansItsText}
use Rattle.amd64_table.proofs.RegisterLemmas.{number_below, xmm_below}
use Rattle.amd64_table.proofs.NextLemmas.{nexts}

met : (cc : Cc) (flags : Flags) (atom : Atom → ℕ) → holds_by flags atom (cond_of cc) ≡ is_met cc flags
unfolding holds_by cond_of
met code.Over flags atom = refl
met code.NotOver flags atom = refl
met code.Carry flags atom = refl
met code.NotCarry flags atom = refl
met code.Zero flags atom = refl
met code.NotZero flags atom = refl
met _ flags atom = refl

addressed : (state : State) (loaded n end : ℕ) (mem : Mem) → address_of state loaded (access_of n end mem) ≡ address_in state end mem
unfolding access_of
addressed state loaded n end (memory.Base base disp) =
    ap (λ a. (a + unsigned 64 disp) % 2 ^ 64) (add-zero (reg_of state (number_of base)))
addressed state loaded n end (memory.Indexed base index scale disp) = refl
addressed state loaded n end (memory.Symbol distance) =
    let m : ℕ = end + unsigned 64 distance in
    let e : (m % 2 ^ 64 + 0 + 0) % 2 ^ 64 ≡ m % 2 ^ 64 = omega arith in e

loads_at : (state : State) (n end loaded : ℕ) (mem : Mem) → loaded_of state (Some (access_of n end mem)) ≡ Some loaded
    → number_at state.mem (address_in state end mem) n ≡ Some loaded
unfolding access_of
loads_at state n end loaded (memory.Base base disp) loads = ap (λ a. number_at state.mem a n) (sym (addressed state 0 n end (memory.Base base disp))) ∙ loads
loads_at state n end loaded (memory.Indexed base index scale disp) loads = loads
loads_at state n end loaded (memory.Symbol distance) loads = ap (λ a. number_at state.mem a n) (sym (addressed state 0 n end (memory.Symbol distance))) ∙ loads

-- what an operand reads
source : (state : State) (n end loaded : ℕ) (rm : Rm) → loaded_of state (load_of n end rm) ≡ Some loaded
    → number_in state end n (rm_operand rm) ≡ Some (atom_of state loaded (rm_atom rm))
unfolding load_of rm_atom
source state n end loaded (rms.Reg reg) loads = refl
source state n end loaded (rms.Mem mem) loads = loads_at state n end loaded mem loads

cut : (a w : ℕ) → w ≤ 64 → a % 2 ^ w % 2 ^ 64 ≡ a % 2 ^ w
cut a w most =
    let low : a % 2 ^ w < 2 ^ w = mod_below a (2 ^ w) (pow_pos w) in
    let wide : 2 ^ w ≤ 2 ^ 64 = pow_mono most in
    mod-eq_of_lt (omega arith)

twice : (a w : ℕ) → a % 2 ^ w % 2 ^ w ≡ a % 2 ^ w
twice a w = mod-eq_of_lt (mod_below a (2 ^ w) (pow_pos w))

-- a register takes a value
takes : (past : ℕ) (before after : State) (reg : Reg) (value : Value) (load : Option Access) (x : ℕ) → IsState before
    → (applies : Applies (computing ((number_of reg, value) ∷ []) load None flag.Keep) past before after)
    → ((y : ℕ) → Gives before applies.loaded value y → y % 2 ^ 64 ≡ x)
    → (reg_of after (number_of reg) ≡ x) × (after.mem ≡ before.mem)
takes past before after reg value load x state applies gives =
    let r = number_of reg in
    let inside : r < length before.regs = rw state.regs_len (omega (arith, number_below reg)) in
    let y = applies.writes.0 in
    let is : after.regs ≡ set before.regs r (y % 2 ^ 64) = applies.regs ∙ applies.writes.2 in
    (rw is (get_or-set_same before.regs r (y % 2 ^ 64) 0 inside ∙ gives y applies.writes.1), applies.mem)

-- a register becomes the lowest n bytes of an atom
to_reg : (n end past : ℕ) (before after : State) (a : Atom) (reg : Reg) (load : Option Access) (from : Operand) → 8 * n ≤ 64
    → IsState before → (applies : Applies (computing ((number_of reg, copy_of a (8 * n)) ∷ []) load None flag.Keep) past before after)
    → number_in before end n from ≡ Some (atom_of before applies.loaded a)
    → Moves before after end n (Some from, Some (operand.Reg reg))
unfolding operate
to_reg n end past before after a reg load from most state applies told =
    let x = atom_of before applies.loaded a in (
      x,
      told,
      takes past before after reg (copy_of a (8 * n)) load (x % 2 ^ (8 * n)) state applies
          (λ y gives. let e : y ≡ x % 2 ^ (8 * n) = gives in rw e (cut x (8 * n) most)),
    )

stores_at : (before after : State) (loaded n end x : ℕ) (mem : Mem) (value : Value)
    → Stores before loaded (Some (access_of n end mem, value)) after.mem → ((y : ℕ) → Gives before loaded value y → y ≡ x)
    → after.mem ≡ put before.mem (address_in before end mem) (bytes_of n x)
unfolding access_of
stores_at before after loaded n end x (memory.Base base disp) value stores gives =
    stores.1.2 ∙ rw (addressed before loaded n end (memory.Base base disp), gives stores.1.0 stores.1.1) refl
stores_at before after loaded n end x (memory.Indexed base index scale disp) value stores gives =
    stores.1.2 ∙ rw (gives stores.1.0 stores.1.1) refl
stores_at before after loaded n end x (memory.Symbol distance) value stores gives =
    stores.1.2 ∙ rw (addressed before loaded n end (memory.Symbol distance), gives stores.1.0 stores.1.1) refl

to_mem : (n end past : ℕ) (before after : State) (a : Atom) (mem : Mem) (from : Operand)
    → (applies : Applies (storing n end mem (copy_of a (8 * n))) past before after)
    → number_in before end n from ≡ Some (atom_of before applies.loaded a)
    → Moves before after end n (Some from, Some (operand.Mem mem))
unfolding operate storing
to_mem n end past before after a mem from applies told =
    let x = atom_of before applies.loaded a in
    (x, told, stores_at before after applies.loaded n end (x % 2 ^ (8 * n)) mem (copy_of a (8 * n)) applies.mem (λ y gives. gives))

word_cut : (z : ℤ) → unsigned 64 z % 2 ^ 64 ≡ unsigned 64 z
word_cut (pos n) = twice n 64
word_cut (negsuc n) = mod-eq_of_lt (omega arith)

-- a register becomes n bytes of an operand with copies of their highest bit above
to_signed : (n end past : ℕ) (before after : State) (rm : Rm) (reg : Reg) → IsState before
    → (applies : Applies (computing ((number_of reg, value_of op.SignExtend (rm_atom rm) (atom.Const (8 * n)) 64) ∷ []) (load_of n end rm) None flag.Keep) past before after)
    → Becomes before after end n (extended_from n) (Some (rm_operand rm), Some (operand.Reg reg))
unfolding operate
to_signed n end past before after rm reg state applies =
    let x = atom_of before applies.loaded (rm_atom rm) in
    let same : extended_from n (x % 2 ^ (8 * n)) ≡ extended_from n x = rw (twice x (8 * n)) refl in (
      x,
      source before n end applies.loaded rm applies.loads,
      takes past before after reg _ (load_of n end rm) (extended_from n (x % 2 ^ (8 * n))) state applies
          (λ y gives. let e : y ≡ extended_from n x = gives in rw (e, same) (word_cut (signed (8 * n) x))),
    )

to_wide : (end past : ℕ) (before after : State) (mem : Mem) (xmm : Xmm) → IsState before
    → (applies : Applies (load_wide_effect mem xmm end) past before after)
    → Moves before after end 16 (Some (operand.Mem mem), Some (operand.Wide xmm))
unfolding load_wide_effect
to_wide end past before after mem xmm state applies =
    let inside : xmm_number xmm < length before.wide = rw state.wide_len (xmm_below xmm) in (
      applies.loaded,
      loads_at before 16 end applies.loaded mem applies.loads,
      (rw applies.wide (get_or-set_same before.wide (xmm_number xmm) (applies.loaded % 2 ^ 128) 0 inside), applies.mem),
    )

long_to_reg : (end past : ℕ) (before after : State) (constant : ℕ) (reg : Reg) → IsState before
    → (applies : Applies (computing ((number_of reg, copy_of (atom.Const constant) 32) ∷ []) None None flag.Keep) past before after)
    → Moves before after end 4 (Some (operand.Const (pos constant)), Some (operand.Reg reg))
unfolding operate
long_to_reg end past before after constant reg state applies = (
  constant % 2 ^ 64,
  refl,
  takes past before after reg _ None (constant % 2 ^ 64 % 2 ^ 32) state applies
      (λ y gives. let e : y ≡ constant % 2 ^ 32 = gives in omega arith),
)

-- each step is as its text tells
pub means : (i : Instr) → MeansItsText i
unfolding effect_at mnemonic_of operands_of reg_rm_operands mem_reg_operands bits_of width_bytes writes_of load_of store_of rm_atom setting reading loading storing reg_rm_effect mem_reg_effect store_low_effect extend_bytes extended extend_effect store_const_effect load_wide_effect store_wide_effect load_tls_effect short_effect near_effect indirect_effect plain_effect next_of
means (instr.RegRm reg_rm.Mov Q reg (rms.Reg to)) end past before after state applies =
    (to_reg 8 end past before after (reg_atom reg) to None (operand.Reg reg) (lit≤ tt) state applies refl, refl)
means (instr.RegRm reg_rm.Mov L reg (rms.Reg to)) end past before after state applies =
    (to_reg 4 end past before after (reg_atom reg) to None (operand.Reg reg) (lit≤ tt) state applies refl, refl)
means (instr.RegRm reg_rm.Mov Q reg (rms.Mem to)) end past before after state applies =
    (to_mem 8 end past before after (reg_atom reg) to (operand.Reg reg) applies refl, refl)
means (instr.RegRm reg_rm.Mov L reg (rms.Mem to)) end past before after state applies =
    (to_mem 4 end past before after (reg_atom reg) to (operand.Reg reg) applies refl, refl)
means (instr.MemReg mem_reg.Mov Q mem reg) end past before after state applies = (
  to_reg 8 end past before after atom.Loaded reg (Some (access_of 8 end mem)) (operand.Mem mem) (lit≤ tt) state applies
      (loads_at before 8 end applies.loaded mem applies.loads),
  refl,
)
means (instr.MemReg mem_reg.Mov L mem reg) end past before after state applies = (
  to_reg 4 end past before after atom.Loaded reg (Some (access_of 4 end mem)) (operand.Mem mem) (lit≤ tt) state applies
      (loads_at before 4 end applies.loaded mem applies.loads),
  refl,
)
means (instr.StoreLow size.Byte from to) end past before after state applies =
    (to_mem 1 end past before after (reg_atom from) to (operand.Reg from) applies refl, refl)
means (instr.StoreLow size.Word from to) end past before after state applies =
    (to_mem 2 end past before after (reg_atom from) to (operand.Reg from) applies refl, refl)
means (instr.Extend extend.ByteZero from to) end past before after state applies = (
  to_reg 1 end past before after (rm_atom from) to (load_of 1 end from) (rm_operand from) (lit≤ tt) state applies
      (source before 1 end applies.loaded from applies.loads),
  refl,
)
means (instr.Extend extend.WordZero from to) end past before after state applies = (
  to_reg 2 end past before after (rm_atom from) to (load_of 2 end from) (rm_operand from) (lit≤ tt) state applies
      (source before 2 end applies.loaded from applies.loads),
  refl,
)
means (instr.Extend extend.ByteSign from to) end past before after state applies =
    (to_signed 1 end past before after from to state applies, refl)
means (instr.Extend extend.WordSign from to) end past before after state applies =
    (to_signed 2 end past before after from to state applies, refl)
means (instr.Extend extend.LongSign from to) end past before after state applies =
    (to_signed 4 end past before after from to state applies, refl)
means (instr.LoadLong constant to) end past before after state applies =
    (long_to_reg end past before after constant to state applies, refl)
means (instr.LoadQuad constant to) end past before after state applies =
    (to_reg 8 end past before after (signed_atom constant) to None (operand.Const constant) (lit≤ tt) state applies refl, refl)
means (instr.StoreConst Q constant to) end past before after state applies =
    (to_mem 8 end past before after (signed_atom constant) to (operand.Const constant) applies refl, refl)
means (instr.StoreConst L constant to) end past before after state applies =
    (to_mem 4 end past before after (signed_atom constant) to (operand.Const constant) applies refl, refl)
means (instr.StoreByte constant to) end past before after state applies =
    (to_mem 1 end past before after (signed_atom constant) to (operand.Const constant) applies refl, refl)
means (instr.LoadWide from to) end past before after state applies = (to_wide end past before after from to state applies, refl)
means (instr.StoreWide from to) end past before after state applies =
    (to_mem 16 end past before after (atom.Wide (xmm_number from)) to (operand.Wide from) applies refl, refl)
means (instr.LoadTls to) end past before after state applies = (
  to_reg 8 end past before after atom.Loaded to _ operand.Tls (lit≤ tt) state applies
      (rw add-zero at applies.loads),
  refl,
)
means (instr.Short None distance) end past before after state applies = refl
means (instr.Short (Some code) distance) end past before after state applies =
    ap (λ test. if test then next.Jump (moved_by end distance) else next.Fall) (met code before.flags (atom_of before applies.loaded))
means (instr.Near near.Jmp distance) end past before after state applies = refl
means (instr.Near near.Call distance) end past before after state applies = refl
means (instr.Near (near.If code) distance) end past before after state applies =
    ap (λ test. if test then next.Jump (moved_by end distance) else next.Fall) (met code before.flags (atom_of before applies.loaded))
means (instr.Indirect indirect.Jmp (rms.Reg reg)) end past before after state applies = (reg_of before (number_of reg), refl, refl)
means (instr.Indirect indirect.Call (rms.Reg reg)) end past before after state applies = (reg_of before (number_of reg), refl, refl)
means (instr.Indirect indirect.Jmp (rms.Mem mem)) end past before after state applies =
    (applies.loaded, loads_at before 8 end applies.loaded mem applies.loads, refl)
means (instr.Indirect indirect.Call (rms.Mem mem)) end past before after state applies =
    (applies.loaded, loads_at before 8 end applies.loaded mem applies.loads, refl)
means (instr.Plain plain.Ret) end past before after state applies = refl
means (instr.Plain plain.Syscall) end past before after state applies = refl
means (instr.Plain plain.Undef) end past before after state applies = refl
means i end past before after state applies = ap (resolved before applies.loaded) (nexts i end)
