-- What the sequences do when they run.
use Rattle.std.specs.Prelude.{ℤ, pos, negsuc, ◌-ℤ◌}
use Rattle.std.proofs.Common.{◌≡◌, ℕ, zero, suc, List, [], ◌∷◌, ◌++◌, ◌+◌, ◌-◌, ◌*◌, ◌%◌, ◌^◌, ◌<◌, ◌≤◌, ◌&&◌, Some, None, Option, length, set, get_or, refl, sym, ap, ◌∙◌, arith, subst, length-set, get_or-set_other}
use Rattle.std.proofs.lemmas.Int.{ints}
use Rattle.machine_effect.proofs.FlowLemmas.{set_here}
use Rattle.machine_effect.proofs.StateLemmas.{copy_saved, state_stays}
use Rattle.machine_effect.proofs.StepLemmas.{copy_gives, difference_gives, sum_gives, word_low, writes_value}
use Rattle.machine_effect.specs.declared.effect.Access.{Access}
use Rattle.machine_effect.specs.declared.effect.Atom.TheVariants.{Reg, Const, Loaded}
use Rattle.machine_effect.specs.declared.effect.Effect.{Effect}
use Rattle.machine_effect.specs.declared.effect.Value.{Value}
use Rattle.machine_effect.specs.declared.op.Op.TheVariants.{Add, Subtract}
use Rattle.machine_effect.specs.declared.state.State.{State}
use Rattle.machine_effect.specs.Applies.{Applies, IsState, address_of, link_of, with_link}
use Rattle.machine_effect.specs.Memory.{word_at, number_at}
use Rattle.machine_effect.specs.Numbers.{unsigned}
use Rattle.machine_effect.specs.Values.{reg_of}
use Rattle.asm_target.specs.Frames.{greatest_total}
use Rattle.asm_target.specs.Runs.{LeadsOver}
use Rattle.asm_target.specs.SequenceLaws.{below}
use Rattle.asm_target_linked.specs.declared.instr.FrameOp.TheVariants.{Save, Load, Below, Above}
use Rattle.asm_target_linked.specs.declared.instr.Instr.TheVariants.{Frame}
use Rattle.asm_target_linked.specs.declared.instr.Op.TheVariants.{SaveAt, SetSp, LoadLink}
use Rattle.asm_target_linked.specs.Instr.{copy_of, eight_at, frame_effect, linked, plain_effect, word}
use Rattle.asm_target_linked.specs.Frames.{enter_long, leave_long}

-- the state but for its place
abbrev pub at_zero : State → State
at_zero state = record state { pc = 0 }

-- an effect without a link leads to a state
settled : (effect : Effect) (past : ℕ) (before after : State) → link_of effect.next ≡ None → IsState before
    → Applies effect past before after → IsState (at_zero after)
settled effect past before after unlinked fine a =
    let again : Applies effect 0 before (at_zero after) = record {
      loaded = a.loaded;
      loads = a.loads;
      written = a.written;
      writes = a.writes;
      regs = a.regs ∙ ap (λ (link : Option ℕ). with_link link past a.written) unlinked
          ∙ sym (ap (λ (link : Option ℕ). with_link link 0 a.written) unlinked);
      wide = a.wide;
      mem = a.mem;
      flags = a.flags;
    } in
    state_stays effect 0 before (at_zero after) fine (omega arith) (omega arith) again

-- and where it starts doesn't matter
from_zero : (effect : Effect) (past : ℕ) (before after : State) → Applies effect past before after
    → Applies effect past (at_zero before) after
from_zero effect past before after a = record {
  loaded = a.loaded;
  loads = a.loads;
  written = a.written;
  writes = a.writes;
  regs = a.regs;
  wide = a.wide;
  mem = a.mem;
  flags = a.flags;
}

pub below_address : (x n : ℕ) → x < 2 ^ 64 → n ≤ greatest_total → (0 + x * 1 + unsigned 64 (pos 0 -ℤ pos n)) % 2 ^ 64 ≡ below x n
below_address x zero low most = omega (arith, ints)
below_address x (suc n) low most =
    let negative : pos 0 -ℤ pos (suc n) ≡ negsuc n = omega (arith, ints) in
    let same : unsigned 64 (pos 0 -ℤ pos (suc n)) ≡ 2 ^ 64 - 1 - n % 2 ^ 64 = ap (unsigned 64) negative in
    omega arith

pub same_address : (x : ℕ) → x < 2 ^ 64 → (0 + x * 1 + unsigned 64 (pos 0)) % 2 ^ 64 ≡ x
same_address x low = omega (arith, ints)

pub record EndsLower (n : ℕ) (before after : State) : Type 0 where
  pub lowers : reg_of after 2 ≡ below (reg_of before 2) n
  pub saves : word_at after.mem (reg_of after 2) ≡ Some (reg_of before 1)

-- the frame's number as the effects have it
lowered : (n x number value : ℕ) → n ≤ greatest_total → value ≡ number % 2 ^ 64
    → number ≡ (x + (2 ^ 64 - n % 2 ^ 64)) % 2 ^ 64 → value ≡ below x n
lowered n x number value most told gives = omega arith

raised : (n x number value : ℕ) → value ≡ number % 2 ^ 64 → number ≡ (x + n) % 2 ^ 64 → value ≡ (x + n) % 2 ^ 64
raised n x number value told gives = omega arith

copied : (x number value : ℕ) → x < 2 ^ 64 → value ≡ number % 2 ^ 64 → number ≡ x % 2 ^ 64 → value ≡ x
copied x number value low told gives = omega arith

-- one instruction saves
save_step : (n past : ℕ) (before after : State) → n ≤ greatest_total → IsState before → Applies (frame_effect Save n) past before after
    → EndsLower n before after
save_step n past before after most fine a =
    let value : Value = word Subtract (Reg 2) n in
    let w = writes_value (frame_effect Save n) 2 value (record { writes = refl; unlinked = refl }) past before after fine (omega arith) a in
    let gives = difference_gives value (Reg 2) (Const n) (record { op = refl; a = refl; b = refl; width = refl }) before a.loaded w.number w.gives in
    let lower : reg_of after 2 ≡ below (reg_of before 2) n = lowered n (reg_of before 2) w.number (reg_of after 2) most w.here gives in
    let access : Access = eight_at 2 (pos 0 -ℤ pos n) in
    let saved = copy_saved (frame_effect Save n) 1
    (record { access = access; value = copy_of (Reg 1); store = refl; bytes = refl; copy = refl; from = refl; whole = omega arith })
    past before after access (copy_of (Reg 1)) fine refl a in
    let place : address_of before a.loaded access ≡ reg_of after 2 = below_address (reg_of before 2) n (fine.regs 2) most ∙ sym lower in
    record { lowers = lower; saves = subst (λ (at : ℕ). word_at after.mem at ≡ Some (reg_of before 1)) place saved }

pub record Pointed (n : ℕ) (before after : State) : Type 0 where
  pub fine : IsState (at_zero after)
  pub points : reg_of after 31 ≡ below (reg_of before 2) n
  pub link : reg_of after 1 ≡ reg_of before 1
  pub low : reg_of after 31 < 2 ^ 64

below_step : (n past : ℕ) (before after : State) → n ≤ greatest_total → IsState before → Applies (frame_effect Below n) past before after
    → Pointed n before after
below_step n past before after most fine a =
    let value : Value = word Subtract (Reg 2) n in
    let w = writes_value (frame_effect Below n) 31 value (record { writes = refl; unlinked = refl }) past before after fine (omega arith) a in
    let gives = difference_gives value (Reg 2) (Const n) (record { op = refl; a = refl; b = refl; width = refl }) before a.loaded w.number w.gives in
    let stays = settled (frame_effect Below n) past before after refl fine a in
    record {
      fine = stays;
      points = lowered n (reg_of before 2) w.number (reg_of after 31) most w.here gives;
      link = w.others 1 (λ same. omega (arith, same));
      low = stays.regs 31;
    }

pub record Stored (before after : State) : Type 0 where
  pub fine : IsState (at_zero after)
  pub regs : (r : ℕ) → reg_of after r ≡ reg_of before r
  pub saved : word_at after.mem (reg_of before 31) ≡ Some (reg_of before 1)

store_step : (past : ℕ) (before after : State) → IsState (at_zero before) → Applies (plain_effect SaveAt) past before after
    → Stored before after
store_step past before after fine a =
    let start : State = at_zero before in
    let here = from_zero (plain_effect SaveAt) past before after a in
    let access : Access = eight_at 31 (pos 0) in
    let saved = copy_saved (plain_effect SaveAt) 1
    (record { access = access; value = copy_of (Reg 1); store = refl; bytes = refl; copy = refl; from = refl; whole = omega arith })
    past start after access (copy_of (Reg 1)) fine refl here in
    let same : after.regs ≡ before.regs = a.regs ∙ a.writes in
    let place : address_of start here.loaded access ≡ reg_of before 31 = same_address (reg_of before 31) (fine.regs 31) in
    record {
      fine = settled (plain_effect SaveAt) past start after refl fine here;
      regs = λ r. ap (λ (regs : List ℕ). get_or regs r 0) same;
      saved = subst (λ (at : ℕ). word_at after.mem at ≡ Some (reg_of before 1)) place saved;
    }

pub record IsSet (before after : State) : Type 0 where
  pub sp : reg_of after 2 ≡ reg_of before 31
  pub link : reg_of after 1 ≡ reg_of before 1
  pub mem : after.mem ≡ before.mem

set_step : (past : ℕ) (before after : State) → IsState (at_zero before) → Applies (plain_effect SetSp) past before after → IsSet before after
set_step past before after fine a =
    let start : State = at_zero before in
    let here = from_zero (plain_effect SetSp) past before after a in
    let value : Value = copy_of (Reg 31) in
    let w = writes_value (plain_effect SetSp) 2 value (record { writes = refl; unlinked = refl }) past start after fine (omega arith) here in
    let gives = copy_gives value (Reg 31) (Const 0) (record { op = refl; a = refl; b = refl; width = refl }) start here.loaded w.number w.gives in
    record {
      sp = copied (reg_of before 31) w.number (reg_of after 2) (fine.regs 31) w.here gives;
      link = w.others 1 (λ same. omega (arith, same));
      mem = a.mem;
    }

-- the first step of a run
pub start_of_run : (effect : Effect) (past : ℕ) (before start after : State) → start ≡ before → Applies effect past start after
    → Applies effect past before after
start_of_run effect past before start after same a = subst (λ (s : State). Applies effect past s after) same a

pub save_run : (n at : ℕ) (before after : State) → n ≤ greatest_total → IsState before → LeadsOver linked (Frame Save n ∷ []) at before after
    → EndsLower n before after
save_run n at before after most fine run =
    save_step n (at + 8) before after most fine (start_of_run (frame_effect Save n) (at + 8) before run.0 after run.1 run.2)

pub point_run : (n past : ℕ) (before start after : State) → n ≤ greatest_total → IsState before → start ≡ before
    → Applies (frame_effect Below n) past start after → Pointed n before after
point_run n past before start after most fine same a =
    below_step n past before after most fine (start_of_run (frame_effect Below n) past before start after same a)

pub save_long_run : (n at : ℕ) (before after : State) → n ≤ greatest_total → IsState before → LeadsOver linked (enter_long n) at before after
    → EndsLower n before after
save_long_run n at before after most fine run =
    let p = point_run n (at + 8) before run.1.1.0 run.1.0 most fine run.1.1.1 run.1.1.2 in
    let s = store_step (at + 8 + 4) run.1.0 run.0 p.fine run.1.2 in
    let e = set_step (at + 8 + 4 + 4) run.0 after s.fine run.2 in
    let sp : reg_of after 2 ≡ reg_of run.1.0 31 = e.sp ∙ s.regs 31 in
    let word_there : word_at after.mem (reg_of run.1.0 31) ≡ Some (reg_of run.1.0 1) =
    ap (λ memory. word_at memory (reg_of run.1.0 31)) e.mem ∙ s.saved in
    record {
      lowers = sp ∙ p.points;
      saves = ap (word_at after.mem) sp ∙ word_there ∙ ap Some p.link;
    }

pub record EndsRaised (n : ℕ) (before after : State) : Type 0 where
  pub raises : reg_of after 2 ≡ (reg_of before 2 + n) % 2 ^ 64
  pub restores : (word : ℕ) → word_at before.mem (reg_of before 2) ≡ Some word → reg_of after 1 ≡ word

some_same : (a b : ℕ) → Some a ≡ Some b → a ≡ b
some_same a b same = cc

-- what is loaded from the stack pointer
loaded_word : (before : State) (loaded word : ℕ) → IsState before → number_at before.mem (address_of before 0 (eight_at 2 (pos 0))) 8 ≡ Some loaded
    → word_at before.mem (reg_of before 2) ≡ Some word → (loaded ≡ word) × (word < 2 ^ 64)
loaded_word before loaded word fine is told =
    let place = same_address (reg_of before 2) (fine.regs 2) in
    (some_same loaded word (sym is ∙ ap (word_at before.mem) place ∙ told), word_low before (reg_of before 2) word fine told)

load_step : (n past : ℕ) (before after : State) → IsState before → Applies (frame_effect Load n) past before after
    → EndsRaised n before after
load_step n past before after fine a =
    let x : ℕ = a.writes.0 % 2 ^ 64 in
    let y : ℕ = a.writes.2.0 % 2 ^ 64 in
    let first : List ℕ = set before.regs 1 x in
    let regs : after.regs ≡ set first 2 y = a.regs ∙ a.writes.2.2 in
    let many : length first ≡ 33 = length-set before.regs 1 x ∙ fine.regs_len in
    let gives = sum_gives (word Add (Reg 2) n) (Reg 2) (Const n) (record { op = refl; a = refl; b = refl; width = refl }) before a.loaded a.writes.2.0 a.writes.2.1 in
    let copies = copy_gives (copy_of Loaded) Loaded (Const 0) (record { op = refl; a = refl; b = refl; width = refl }) before a.loaded a.writes.0 a.writes.1 in
    let sp : reg_of after 2 ≡ y = ap (λ (r : List ℕ). get_or r 2 0) regs ∙ set_here first 2 2 y refl (omega arith) in
    let other : get_or (set first 2 y) 1 0 ≡ get_or first 1 0 = get_or-set_other first 2 1 y 0 (λ same. omega (arith, same)) in
    let link : reg_of after 1 ≡ x = ap (λ (r : List ℕ). get_or r 1 0) regs ∙ other ∙ set_here before.regs 1 1 x refl (omega (arith, fine.regs_len)) in
    record {
      raises = raised n (reg_of before 2) a.writes.2.0 (reg_of after 2) sp gives;
      restores = λ word told.
          let l = loaded_word before a.loaded word fine a.loads told in
          copied word a.writes.0 (reg_of after 1) l.1 link (copies ∙ ap (λ (v : ℕ). v % 2 ^ 64) l.0);
    }

pub load_run : (n at : ℕ) (before after : State) → IsState before → LeadsOver linked (Frame Load n ∷ []) at before after
    → EndsRaised n before after
load_run n at before after fine run =
    load_step n (at + 8) before after fine (start_of_run (frame_effect Load n) (at + 8) before run.0 after run.1 run.2)

pub record LinkLoaded (before after : State) : Type 0 where
  pub fine : IsState (at_zero after)
  pub sp : reg_of after 2 ≡ reg_of before 2
  pub restores : (word : ℕ) → word_at before.mem (reg_of before 2) ≡ Some word → reg_of after 1 ≡ word

link_step : (past : ℕ) (before after : State) → IsState before → Applies (plain_effect LoadLink) past before after → LinkLoaded before after
link_step past before after fine a =
    let value : Value = copy_of Loaded in
    let w = writes_value (plain_effect LoadLink) 1 value (record { writes = refl; unlinked = refl }) past before after fine (omega arith) a in
    let gives = copy_gives value Loaded (Const 0) (record { op = refl; a = refl; b = refl; width = refl }) before a.loaded w.number w.gives in
    record {
      fine = settled (plain_effect LoadLink) past before after refl fine a;
      sp = w.others 2 (λ same. omega (arith, same));
      restores = λ word told.
          let l = loaded_word before a.loaded word fine a.loads told in
          copied word w.number (reg_of after 1) l.1 w.here (gives ∙ ap (λ (v : ℕ). v % 2 ^ 64) l.0);
    }

pub record Above_ (n : ℕ) (before after : State) : Type 0 where
  pub fine : IsState (at_zero after)
  pub points : reg_of after 31 ≡ (reg_of before 2 + n) % 2 ^ 64
  pub link : reg_of after 1 ≡ reg_of before 1

above_step : (n past : ℕ) (before after : State) → IsState (at_zero before) → Applies (frame_effect Above n) past before after → Above_ n before after
above_step n past before after fine a =
    let start : State = at_zero before in
    let here = from_zero (frame_effect Above n) past before after a in
    let value : Value = word Add (Reg 2) n in
    let w = writes_value (frame_effect Above n) 31 value (record { writes = refl; unlinked = refl }) past start after fine (omega arith) here in
    let gives = sum_gives value (Reg 2) (Const n) (record { op = refl; a = refl; b = refl; width = refl }) start here.loaded w.number w.gives in
    record {
      fine = settled (frame_effect Above n) past start after refl fine here;
      points = raised n (reg_of before 2) w.number (reg_of after 31) w.here gives;
      link = w.others 1 (λ same. omega (arith, same));
    }

pub load_long_run : (n at : ℕ) (before after : State) → IsState before → LeadsOver linked (leave_long n) at before after
    → EndsRaised n before after
load_long_run n at before after fine run =
    let first = start_of_run (plain_effect LoadLink) (at + 4) before run.1.1.0 run.1.0 run.1.1.1 run.1.1.2 in
    let l = link_step (at + 4) before run.1.0 fine first in
    let p = above_step n (at + 4 + 8) run.1.0 run.0 l.fine run.1.2 in
    let e = set_step (at + 4 + 8 + 4) run.0 after p.fine run.2 in
    record {
      raises = e.sp ∙ p.points ∙ ap (λ (x : ℕ). (x + n) % 2 ^ 64) l.sp;
      restores = λ word told. e.link ∙ p.link ∙ l.restores word told;
    }
