-- The laws of checks, for amd64.
use Rattle.std.specs.Prelude.{All, nat_le, if◌then◌else◌}
use Rattle.std.proofs.Common.{◌≡◌, ℕ, zero, suc, ℤ, pos, ◌+ℤ◌, ◌-ℤ◌, ◌+◌, ◌-◌, ◌<◌, ◌≤◌, Bool, true, false, IsTrue, [], ◌∷◌, length, Some, None, refl, ◌∙◌, subst, arith, rules}
use Rattle.std.proofs.lemmas.List.Elements.{All-nil, All-cons}
use Rattle.machine_effect.specs.declared.flow.SpMove.TheVariants.{Keep}
use Rattle.machine_effect.specs.declared.next.Next.TheVariants as next
use Rattle.machine_effect.specs.Flow.{flow_of}
use Rattle.machine_effect.specs.Numbers.{fits as fits_bits, moved_by}
use Rattle.machine_effect.specs.Shapes.{amd64_shape}
use Rattle.asm_target.specs.declared.frame.FrameShape.{FrameShape}
use Rattle.asm_target.specs.declared.refer.Part.TheVariants.{Whole}
use Rattle.asm_target.specs.declared.refer.Picked.{Picked}
use Rattle.asm_target.specs.declared.refer.Refer.{Refer}
use Rattle.asm_target.specs.declared.refer.To.{To}
use Rattle.asm_target.specs.declared.refer.To.TheVariants as to
use Rattle.asm_target.specs.Aiming as aim
use Rattle.asm_target.specs.Frames.{IsFrame}
use Rattle.asm_target.specs.References.{IsAround, RefersTo, StaysAround}
use Rattle.asm_target.specs.Standing as standing
use Rattle.asm_target.proofs.CheckLemmas.{IsHeadPick, IsMadeSo}
use Rattle.asm_target.proofs.CheckLemmas.IsHeadPick.{goes_on, branches}
use Rattle.asm_target.proofs.CheckLaws.{unlinked_check}
use Rattle.asm_target.proofs.GuardLemmas.{GuardLaws}
use Rattle.amd64_table.specs.declared.condition.Cc.{Cc}
use Rattle.amd64_table.specs.declared.condition.Cc.TheVariants.{Carry, CarryOrZero}
use Rattle.amd64_table.specs.declared.reg.Reg.{Reg}
use Rattle.amd64_table.specs.declared.reg.Reg.TheVariants.{Ax, Cx, Sp}
use Rattle.amd64_table.specs.declared.width.Width.TheVariants.{Q}
use Rattle.amd64_table.specs.declared.memory.Mem.TheVariants.{Base}
use Rattle.amd64_table.specs.declared.memory.Rm.TheVariants as rms
use Rattle.amd64_table.specs.declared.op.Arithmetic.TheVariants.{Sub}
use Rattle.amd64_table.specs.declared.op.MemReg.TheVariants as mem_reg
use Rattle.amd64_table.specs.declared.op.Near.{Near}
use Rattle.amd64_table.specs.declared.op.Near.TheVariants as near
use Rattle.amd64_table.specs.declared.op.RegRm.TheVariants as reg_rm
use Rattle.amd64_table.specs.declared.instr.Instr.{Instr}
use Rattle.amd64_table.specs.declared.instr.Instr.TheVariants as instr
use Rattle.amd64_table.specs.Conditions.{cond_of}
use Rattle.amd64_table.specs.Fits.{fits, fits_rm, fits_mem, fits_lock}
use Rattle.amd64_table.specs.Flows.{move_of, next_of}
use Rattle.amd64_table.proofs.MoveLemmas.{flow_moves}
use Rattle.amd64_table.proofs.NextLemmas.{nexts}
use Rattle.amd64_code.specs.InstructionSet.{amd64, Fits, end_of}
use Rattle.amd64_code.proofs.LengthLaws.{bounded}
use Rattle.amd64_forms.specs.Aiming.{distance_of}
use Rattle.amd64_select.specs.Aims.{aiming}
use Rattle.amd64_select.specs.AimLaws.{same_lengths}
use Rattle.amd64_select.specs.FrameLaws.{plain, small}
use Rattle.amd64_select.specs.Frames.{by_constant, check_of, checked, compared, going, large_checked, load_g, page_checked, simple}
use Rattle.amd64_select.specs.JumpLaws.{formed, holds_goals}
use Rattle.amd64_select.specs.Laws.{links, only_goes}

laws : GuardLaws amd64 Fits plain amd64_shape aiming
laws = record {
  some = λ i fit. (bounded i).0;
  only_goes = only_goes;
  links = links;
  formed = formed;
  holds_goals = holds_goals;
  same_lengths = same_lengths;
}

unwritten : (i : Instr) (pc : ℕ) → (flow_of (amd64.effect i pc) amd64_shape).writes_link ≡ false
unfolding flow_of
unwritten i pc = refl

unstored : (i : Instr) (pc : ℕ) → (flow_of (amd64.effect i pc) amd64_shape).stores_link ≡ false
unfolding flow_of
unstored i pc = refl

-- an instruction that falls through and keeps the stack pointer
quiet : (i : Instr) → Fits i → ((end : ℕ) → next_of i end ≡ next.Fall) → move_of i ≡ Keep
    → IsHeadPick amd64 Fits plain amd64_shape aiming false (simple i)
quiet i fit falls keeps = goes_on (record {
  fit = fit;
  unreferred = refl;
  falls = λ pc. nexts i (end_of i pc) ∙ falls (end_of i pc);
  keeps = λ pc. flow_moves i (end_of i pc) fit ∙ keeps;
  unwritten = unwritten i;
  unstored = unstored i;
  frameless = λ rest. refl;
})

fits_going : (op : Near) → Fits (instr.Near op (pos 0))
unfolding fits
fits_going op = refl

branch_next : (code : Cc) (end : ℕ) → next_of (instr.Near (near.If code) (pos 0)) end ≡ next.Branch (cond_of code) (moved_by end (pos 0))
unfolding next_of
branch_next code end = refl

call_next : (end : ℕ) → next_of (instr.Near near.Call (pos 0)) end ≡ next.Call (moved_by end (pos 0)) None
unfolding next_of
call_next end = refl

jump_next : (end : ℕ) → next_of (instr.Near near.Jmp (pos 0)) end ≡ next.Jump (moved_by end (pos 0))
unfolding next_of
jump_next end = refl

branch : (code : Cc) → IsHeadPick amd64 Fits plain amd64_shape aiming false (going (near.If code) to.Block)
branch code =
    let i : Instr = instr.Near (near.If code) (pos 0) in
    branches to.Block tt (record {
      goes = record { fit = fits_going (near.If code); referred = refl };
      branches = λ pc. (cond_of code, moved_by (end_of i pc) (pos 0), nexts i (end_of i pc) ∙ branch_next code (end_of i pc));
    })

loads : IsHeadPick amd64 Fits plain amd64_shape aiming false load_g
unfolding fits next_of move_of
loads = quiet (instr.LoadTls Cx) refl (λ end. refl) refl

compares : (reg : Reg) → IsHeadPick amd64 Fits plain amd64_shape aiming false (simple (instr.MemReg mem_reg.Cmp Q (Base Cx (pos 16)) reg))
unfolding fits fits_mem next_of move_of
compares reg = quiet (instr.MemReg mem_reg.Cmp Q (Base Cx (pos 16)) reg) refl (λ end. refl) refl

below : (k : ℕ) → k ≤ 1048576 → IsTrue (fits_bits 32 (pos 0 -ℤ pos k))
below zero most = refl
below (suc k) most = search rules

addresses : (k : ℕ) → k ≤ 1048576 → IsHeadPick amd64 Fits plain amd64_shape aiming false (simple (instr.Lea (Base Sp (pos 0 -ℤ pos k)) Ax))
unfolding fits fits_mem next_of move_of
addresses k most = quiet (instr.Lea (Base Sp (pos 0 -ℤ pos k)) Ax) (below k most) (λ end. refl) refl

copies : IsHeadPick amd64 Fits plain amd64_shape aiming false (simple (instr.RegRm reg_rm.Mov Q Sp (rms.Reg Ax)))
unfolding fits fits_rm next_of move_of
copies = quiet (instr.RegRm reg_rm.Mov Q Sp (rms.Reg Ax)) refl (λ end. refl) refl

subtracts : (k : ℕ) → k ≤ 1048576 → IsHeadPick amd64 Fits plain amd64_shape aiming false (simple (by_constant Sub k Ax))
unfolding fits fits_rm fits_lock next_of move_of
subtracts k most = quiet (by_constant Sub k Ax) (small k most) (λ end. refl) refl

-- what holds of each of these instructions holds of all instructions of a check

module _ (P : Picked Instr → Type 0) (load : P load_g) (compare : (reg : Reg) → P (simple (instr.MemReg mem_reg.Cmp Q (Base Cx (pos 16)) reg)))
    (goes : (code : Cc) → P (going (near.If code) to.Block)) (copy : P (simple (instr.RegRm reg_rm.Mov Q Sp (rms.Reg Ax)))) (k : ℕ)
    (address : P (simple (instr.Lea (Base Sp (pos 0 -ℤ pos k)) Ax))) (subtract : P (simple (by_constant Sub k Ax))) where
  all_compared : (reg : Reg) → All P (compared reg)
  all_compared reg =
      let jump : Picked Instr = going (near.If CarryOrZero) to.Block in
      All-cons P (simple (instr.MemReg mem_reg.Cmp Q (Base Cx (pos 16)) reg)) (jump ∷ []) (compare reg)
      (All-cons P jump [] (goes CarryOrZero) (All-nil P))

  all_page : All P (page_checked k)
  all_page =
      let second : Picked Instr = simple (instr.Lea (Base Sp (pos 0 -ℤ pos k)) Ax) in
      All-cons P load_g (second ∷ compared Ax) load (All-cons P second (compared Ax) address (all_compared Ax))

  all_large : All P (large_checked k)
  all_large =
      let second : Picked Instr = simple (instr.RegRm reg_rm.Mov Q Sp (rms.Reg Ax)) in
      let third : Picked Instr = simple (by_constant Sub k Ax) in
      let fourth : Picked Instr = going (near.If Carry) to.Block in
      All-cons P load_g (second ∷ third ∷ fourth ∷ compared Ax) load
      (All-cons P second (third ∷ fourth ∷ compared Ax) copy
      (All-cons P third (fourth ∷ compared Ax) subtract
      (All-cons P fourth (compared Ax) (goes Carry) (all_compared Ax))))

  all_checked : (n : ℕ) → All P (checked n k)
  all_checked n = by (nat_le n 128) (nat_le n 4096)
    where
      by : (few page : Bool) → All P (if few then load_g ∷ compared Sp else (if page then page_checked k else large_checked k))
      by true page = All-cons P load_g (compared Sp) load (all_compared Sp)
      by false true = all_page
      by false false = all_large

made : (frame : FrameShape) → IsFrame 62 frame → IsMadeSo amd64 Fits plain amd64_shape aiming (check_of frame)
made frame is =
    let most : frame.total - 128 ≤ 1048576 = omega (arith, is.most) in
    let call : Instr = instr.Near near.Call (pos 0) in
    let jump : Instr = instr.Near near.Jmp (pos 0) in
    record {
      head = all_checked (IsHeadPick amd64 Fits plain amd64_shape aiming false) loads compares branch copies (frame.total - 128)
          (addresses (frame.total - 128) most) (subtracts (frame.total - 128) most) frame.total;
      block = (
        record {
          goes = record { fit = fits_going near.Call; referred = refl };
          calls = λ pc. (moved_by (end_of call pc) (pos 0), None, nexts call (end_of call pc) ∙ call_next (end_of call pc));
        },
        record {
          goes = record { fit = fits_going near.Jmp; referred = refl };
          jumps = λ pc. (moved_by (end_of jump pc) (pos 0), nexts jump (end_of jump pc) ∙ jump_next (end_of jump pc));
        },
      );
    }

pub checking : (frame : FrameShape) → IsFrame 62 frame → standing.KeepsLevel amd64 Fits plain amd64_shape aiming (check_of frame)
checking frame is = unlinked_check amd64 Fits plain amd64_shape aiming laws refl (check_of frame) (made frame is)

-- what a check picks is listed, and goes where it refers to

simple_pickable : (i : Instr) → Fits i → aim.IsPickable Fits aiming (simple i)
simple_pickable i fit = record { fit = fit; directed = λ to is. absurd (cc) }

going_pickable : (op : Near) (goal : To) → aim.IsPickable Fits aiming (going op goal)
unfolding distance_of
going_pickable op goal = record { fit = fits_going op; directed = λ to is. refl }

loads_pickable : aim.IsPickable Fits aiming load_g
unfolding fits
loads_pickable = simple_pickable (instr.LoadTls Cx) refl

compares_pickable : (reg : Reg) → aim.IsPickable Fits aiming (simple (instr.MemReg mem_reg.Cmp Q (Base Cx (pos 16)) reg))
unfolding fits fits_mem
compares_pickable reg = simple_pickable (instr.MemReg mem_reg.Cmp Q (Base Cx (pos 16)) reg) refl

copies_pickable : aim.IsPickable Fits aiming (simple (instr.RegRm reg_rm.Mov Q Sp (rms.Reg Ax)))
unfolding fits fits_rm
copies_pickable = simple_pickable (instr.RegRm reg_rm.Mov Q Sp (rms.Reg Ax)) refl

addresses_pickable : (k : ℕ) → k ≤ 1048576 → aim.IsPickable Fits aiming (simple (instr.Lea (Base Sp (pos 0 -ℤ pos k)) Ax))
unfolding fits fits_mem
addresses_pickable k most = simple_pickable (instr.Lea (Base Sp (pos 0 -ℤ pos k)) Ax) (below k most)

subtracts_pickable : (k : ℕ) → k ≤ 1048576 → aim.IsPickable Fits aiming (simple (by_constant Sub k Ax))
unfolding fits fits_rm fits_lock
subtracts_pickable k most = simple_pickable (by_constant Sub k Ax) (small k most)

pub check_pickable : (frame : FrameShape) → IsFrame 62 frame
    → All (aim.IsPickable Fits aiming) (check_of frame).head × All (aim.IsPickable Fits aiming) (check_of frame).block
check_pickable frame is =
    let most : frame.total - 128 ≤ 1048576 = omega (arith, is.most) in (
      all_checked (aim.IsPickable Fits aiming) loads_pickable compares_pickable (λ code. going_pickable (near.If code) to.Block) copies_pickable
          (frame.total - 128) (addresses_pickable (frame.total - 128) most) (subtracts_pickable (frame.total - 128) most) frame.total,
      (let jump : Picked Instr = going near.Jmp to.Entry in
          All-cons (aim.IsPickable Fits aiming) (going near.Call to.Grow) (jump ∷ []) (going_pickable near.Call to.Grow)
          (All-cons (aim.IsPickable Fits aiming) jump [] (going_pickable near.Jmp to.Entry) (All-nil (aim.IsPickable Fits aiming)))),
    )

pub few_checked : (n k : ℕ) → length (checked n k) ≤ 6
few_checked n k = by (nat_le n 128) (nat_le n 4096)
  where
    by : (few page : Bool) → length (if few then load_g ∷ compared Sp else (if page then page_checked k else large_checked k)) ≤ 6
    by true page = omega arith
    by false true = omega arith
    by false false = omega arith

-- a check goes to its block, and the block to the routine and to the function's entry

simple_around : (i : Instr) → RefersTo (IsAround false) (simple i)
simple_around i refer is = absurd (cc)

going_around : (op : Near) (goal : To) → IsAround false goal → RefersTo (IsAround false) (going op goal)
going_around op goal around refer is =
    let same : record { to = goal; part = Whole } ≡ refer = cc in
    subst (λ (r : Refer). IsAround false r.to) same around

pub stays_around : (frame : FrameShape) → IsFrame 62 frame → StaysAround (check_of frame)
stays_around frame is =
    let k = frame.total - 128 in
    let jump : Picked Instr = going near.Jmp to.Entry in
    record {
      head = all_checked (RefersTo (IsAround false)) (simple_around (instr.LoadTls Cx))
          (λ reg. simple_around (instr.MemReg mem_reg.Cmp Q (Base Cx (pos 16)) reg))
          (λ code. going_around (near.If code) to.Block tt) (simple_around (instr.RegRm reg_rm.Mov Q Sp (rms.Reg Ax))) k
          (simple_around (instr.Lea (Base Sp (pos 0 -ℤ pos k)) Ax)) (simple_around (by_constant Sub k Ax)) frame.total;
      block = All-cons (RefersTo (IsAround false)) (going near.Call to.Grow) (jump ∷ []) (going_around near.Call to.Grow tt)
          (All-cons (RefersTo (IsAround false)) jump [] (going_around near.Jmp to.Entry tt) (All-nil (RefersTo (IsAround false))));
      some = omega arith;
    }
