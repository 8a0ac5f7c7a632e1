-- The laws of frames, for amd64.
use Rattle.std.specs.Prelude.{◌⊎◌, All}
use Rattle.std.proofs.Common.{◌≡◌, ℕ, zero, suc, ℤ, pos, ◌+ℤ◌, ◌-ℤ◌, ◌+◌, ◌-◌, ◌*◌, ◌/◌, ◌%◌, ◌^◌, ◌<◌, ◌≤◌, false, IsTrue, List, [], ◌∷◌, length, refl, ◌∙◌, ap, arith, rules, inl, inr}
use Rattle.std.proofs.lemmas.Int.{ints}
use Rattle.machine_effect.specs.declared.next.Next.TheVariants as next
use Rattle.machine_effect.specs.Numbers.{fits as fits_bits}
use Rattle.machine_effect.specs.Shapes.{amd64_shape}
use Rattle.asm_target.specs.declared.frame.FrameShape.{FrameShape}
use Rattle.asm_target.specs.declared.sequence.Sequence.{Sequence}
use Rattle.asm_target.specs.declared.sequence.Sequence.TheVariants.{Plain}
use Rattle.asm_target.specs.DepthChange.{depth_added}
use Rattle.asm_target.specs.FlowRules.{greatest_depth, is_other}
use Rattle.asm_target.specs.Frames.{IsFrame, IsFramed, IsFrameless}
use Rattle.asm_target.specs.Standing as standing
use Rattle.asm_target.proofs.FrameLemmas.{IsStep, Walks, straight}
use Rattle.amd64_table.specs.declared.reg.Reg.TheVariants.{Sp, Bp}
use Rattle.amd64_table.specs.declared.width.Width.TheVariants.{Q}
use Rattle.amd64_table.specs.declared.memory.Mem.TheVariants.{Base}
use Rattle.amd64_table.specs.declared.memory.Rm.TheVariants as rms
use Rattle.amd64_table.specs.declared.op.Arithmetic.TheVariants.{Add, Sub}
use Rattle.amd64_table.specs.declared.op.MemReg.TheVariants as mem_reg
use Rattle.amd64_table.specs.declared.op.RegRm.TheVariants as reg_rm
use Rattle.amd64_table.specs.declared.instr.Instr.{Instr}
use Rattle.amd64_table.specs.declared.instr.Instr.TheVariants as instr
use Rattle.amd64_table.specs.Fits.{fits, fits_rm, fits_mem, fits_lock}
use Rattle.amd64_table.specs.Flows.{move_of, next_of}
use Rattle.amd64_table.proofs.MoveLemmas.{flow_moves}
use Rattle.amd64_table.proofs.NextLemmas.{nexts}
use Rattle.amd64_code.specs.InstructionSet.{amd64, Fits, end_of}
use Rattle.amd64_select.specs.Frames.{by_constant, entered, left, entry_of, exit_of}

-- without a link register no instructions are judged together
abbrev pub plain : List Instr → Sequence
plain code = Plain

step : (i : Instr) (before after : ℕ) → Fits i → ((end : ℕ) → next_of i end ≡ next.Fall) → is_other (move_of i) ≡ false
    → pos before +ℤ depth_added (move_of i) ≡ pos after → after ≤ greatest_depth
    → IsStep amd64 Fits plain amd64_shape i before after
step i before after fit falls known moved most = record {
  falls = λ pc. nexts i (end_of i pc) ∙ falls (end_of i pc);
  known = λ pc. ap is_other (flow_moves i (end_of i pc) fit) ∙ known;
  moved = λ pc. ap (λ move. pos before +ℤ depth_added move) (flow_moves i (end_of i pc) fit) ∙ moved;
  most = most;
}

pub small : (n : ℕ) → n ≤ 1048576 → IsTrue (fits_bits 32 (pos n))
small n most = search rules

fits_by : (n : ℕ) → n ≤ 1048576 → Fits (by_constant Sub n Sp) × Fits (by_constant Add n Sp)
unfolding fits fits_rm fits_lock
fits_by n most = (small n most, small n most)

pub fits_save : (l : ℕ) → l ≤ 1048576 → Fits (instr.RegRm reg_rm.Mov Q Bp (rms.Mem (Base Sp (pos l))))
unfolding fits fits_rm fits_mem
fits_save l most = small l most

pub fits_point : (l : ℕ) → l ≤ 1048576 → Fits (instr.Lea (Base Sp (pos l)) Bp)
unfolding fits fits_mem
fits_point l most = small l most

pub fits_restore : (l : ℕ) → l ≤ 1048576 → Fits (instr.MemReg mem_reg.Mov Q (Base Sp (pos l)) Bp)
unfolding fits fits_mem
fits_restore l most = small l most

lowered : (n : ℕ) → (pos 0 +ℤ (pos 0 -ℤ (pos 0 -ℤ pos n))) ≡ pos n
lowered n = omega (arith, ints)

raised : (n : ℕ) → (pos n +ℤ (pos 0 -ℤ pos n)) ≡ pos 0
raised n = omega (arith, ints)

stays : (n : ℕ) → (pos n +ℤ pos 0) ≡ pos n
stays n = omega (arith, ints)

allowed : (n : ℕ) → n ≤ 1048576 → n ≤ greatest_depth
allowed n most = omega arith

lowers : (n : ℕ) → n ≤ 1048576 → IsStep amd64 Fits plain amd64_shape (by_constant Sub n Sp) 0 n
unfolding move_of next_of
lowers n most = step _ 0 n (fits_by n most).0 (λ end. refl) refl (lowered n) (allowed n most)

raises : (n : ℕ) → n ≤ 1048576 → IsStep amd64 Fits plain amd64_shape (by_constant Add n Sp) n 0
unfolding move_of next_of
raises n most = step _ n 0 (fits_by n most).1 (λ end. refl) refl (raised n) (omega arith)

saves : (n l : ℕ) → n ≤ 1048576 → l ≤ 1048576
    → IsStep amd64 Fits plain amd64_shape (instr.RegRm reg_rm.Mov Q Bp (rms.Mem (Base Sp (pos l)))) n n
unfolding move_of next_of
saves n l most few = step _ n n (fits_save l few) (λ end. refl) refl (stays n) (allowed n most)

points : (n l : ℕ) → n ≤ 1048576 → l ≤ 1048576 → IsStep amd64 Fits plain amd64_shape (instr.Lea (Base Sp (pos l)) Bp) n n
unfolding move_of next_of
points n l most few = step _ n n (fits_point l few) (λ end. refl) refl (stays n) (allowed n most)

restores : (n l : ℕ) → n ≤ 1048576 → l ≤ 1048576
    → IsStep amd64 Fits plain amd64_shape (instr.MemReg mem_reg.Mov Q (Base Sp (pos l)) Bp) n n
unfolding move_of next_of
restores n l most few = step _ n n (fits_restore l few) (λ end. refl) refl (stays n) (allowed n most)

-- the locals are a part of the frame
pub locals_most : (frame : FrameShape) → IsFrame 62 frame → frame.locals ≤ 1048576
locals_most frame is = by is.shape
  where
    by : IsFrameless frame ⊎ IsFramed 62 frame → frame.locals ≤ 1048576
    by (inl none) = omega (arith, none.locals)
    by (inr some) = omega (arith, some.total, is.most)

walks_in : (n l : ℕ) → n ≤ 1048576 → l ≤ 1048576 → Walks amd64 Fits plain amd64_shape (entered n l) 0 n
walks_in zero l most few = refl
walks_in (suc n) l most few =
    (suc n, lowers (suc n) most, (suc n, saves (suc n) l most few, (suc n, points (suc n) l most few, refl)))

walks_out : (n l : ℕ) → n ≤ 1048576 → l ≤ 1048576 → Walks amd64 Fits plain amd64_shape (left n l) n 0
walks_out zero l most few = refl
walks_out (suc n) l most few = (suc n, restores (suc n) l most few, (0, raises (suc n) most, refl))

pub entering : standing.Enters amd64 Fits plain amd64_shape 62 entry_of
entering frame is = record {
  none = λ none. ap (λ (n : ℕ). entered n frame.locals) none;
  keeps = straight amd64 Fits plain amd64_shape refl (entry_of frame) 0 frame.total
      (walks_in frame.total frame.locals is.most (locals_most frame is));
}

pub leaving : standing.Leaves amd64 Fits plain amd64_shape 62 exit_of
leaving frame is = record {
  none = λ none. ap (λ (n : ℕ). left n frame.locals) none;
  keeps = straight amd64 Fits plain amd64_shape refl (exit_of frame) frame.total 0
      (walks_out frame.total frame.locals is.most (locals_most frame is));
}

-- what leaves a frame is listed
pub fits_exit : (frame : FrameShape) → IsFrame 62 frame → All Fits (exit_of frame)
fits_exit frame is = by frame.total is.most
  where
    by : (n : ℕ) → n ≤ 1048576 → All Fits (left n frame.locals)
    by zero most = search rules
    by (suc n) most =
        let restored = fits_restore frame.locals (locals_most frame is) in
        let added = (fits_by (suc n) most).1 in
        search rules

-- so is what enters one
pub fits_entry : (frame : FrameShape) → IsFrame 62 frame → All Fits (entry_of frame)
fits_entry frame is = by frame.total is.most
  where
    by : (n : ℕ) → n ≤ 1048576 → All Fits (entered n frame.locals)
    by zero most = search rules
    by (suc n) most =
        let taken = (fits_by (suc n) most).0 in
        let saved = fits_save frame.locals (locals_most frame is) in
        let pointed = fits_point frame.locals (locals_most frame is) in
        search rules

pub few_left : (frame : FrameShape) → length (exit_of frame) ≤ 2
few_left frame = by frame.total
  where
    by : (n : ℕ) → length (left n frame.locals) ≤ 2
    by zero = omega arith
    by (suc n) = omega arith

pub few_entered : (frame : FrameShape) → length (entry_of frame) ≤ 3
few_entered frame = by frame.total
  where
    by : (n : ℕ) → length (entered n frame.locals) ≤ 3
    by zero = omega arith
    by (suc n) = omega arith
