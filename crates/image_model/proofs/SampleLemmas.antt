-- What is asked of functions can hold of such as call one another.
use Rattle.std.proofs.Common.{◌≡◌, ℕ, zero, suc, ◌^◌, ◌<◌, ◌≤◌, ◌==◌, ◌||◌, Bool, true, false, refl, ap, arith, is_some}
use Rattle.std.proofs.lemmas.Bool.Decides.{Decides-eqb}
use Rattle.machine_effect.specs.declared.flow.SpMove.TheVariants.{Keep}
use Rattle.machine_effect.specs.declared.next.Next.TheVariants as next
use Rattle.machine_effect.specs.Applies.{link_of}
use Rattle.machine_effect.specs.Flow.{flow_of}
use Rattle.machine_effect.specs.Shapes.{amd64_shape}
use Rattle.asm_target.specs.DepthChange.{any_below, depth_change, ends_sequence, is_call}
use Rattle.asm_target.specs.FlowFunction.{FlowFunction, outgoing, sequence_at, start_of}
use Rattle.asm_target.specs.FlowRules.{IsFlowSound, breaks}
use Rattle.image_model.specs.Joined.{AreFlowSound, IsInRow, IsMachine, IsMachineCode, IsText, IsTold}
use Rattle.image_model.specs.Sample.{callee, caller, calling}
use Rattle.image_model.proofs.PositionLemmas.{none_under}

-- what holds of 0 and 1 holds below 2
two : (P : ℕ → Type 0) → P 0 → P 1 → (k : ℕ) → k < 2 → P k
two P first second zero less = first
two P first second (suc zero) less = second
two P first second (suc (suc k)) less = absurd (omega arith)

one : (P : ℕ → Type 0) → P 0 → (k : ℕ) → k < 1 → P k
one P first zero less = first
one P first (suc k) less = absurd (omega arith)

-- a function of which no instruction breaks a rule, by a test
tested : (f : FlowFunction) → any_below (λ k. any_below (breaks f k) 10) f.count ≡ false → IsFlowSound f
tested f none k rule inside most =
    none_under (breaks f k) 10 rule (none_under (λ k. any_below (breaks f k) 10) f.count k none inside) (omega arith)

caller_sound : IsFlowSound caller.rules
unfolding breaks outgoing sequence_at start_of depth_change ends_sequence flow_of
caller_sound = tested caller.rules refl

callee_sound : IsFlowSound callee.rules
unfolding breaks outgoing sequence_at start_of depth_change ends_sequence flow_of
callee_sound = tested callee.rules refl

pub sound : AreFlowSound calling
sound = two (λ i. IsFlowSound (calling.code i).rules) caller_sound callee_sound

caller_row : IsInRow caller
caller_row = record {
  some = omega arith;
  long = two (λ k. caller.rules.at k < (caller.placed k).past) (omega arith) (omega arith);
  room = two (λ k. (caller.placed k).past ≤ 2 ^ 64) (omega arith) (omega arith);
  follows = λ k less. one (λ k. caller.rules.at (suc k) ≡ (caller.placed k).past) refl k (omega arith);
  first = refl;
  past = λ k last. let same : 1 ≡ k = omega arith in ap (λ (p : ℕ). (caller.placed p).past) same;
}

callee_row : IsInRow callee
callee_row = record {
  some = omega arith;
  long = λ k less. omega arith;
  room = λ k less. omega arith;
  follows = λ k less. absurd (omega arith);
  first = refl;
  past = λ k last. refl;
}

caller_told : IsTold calling caller
caller_told = record { link = refl; range = refl; flow = λ k less. refl; is_entry = λ at. refl; is_growth_routine = λ at. refl }

callee_told : IsTold calling callee
callee_told = record { link = refl; range = refl; flow = λ k less. refl; is_entry = λ at. refl; is_growth_routine = λ at. refl }

entry_of : (at : ℕ) (first second : Bool) → (at == 0x1000) ≡ first → (at == 0x1010) ≡ second → (first || second) ≡ true
    → (i : ℕ) × (i < 2) × (at ≡ (calling.code i).rules.at 0)
entry_of at true second one other is = (0, omega arith, (Decides-eqb at 0x1000).0 one)
entry_of at false true one other is = (1, omega arith, (Decides-eqb at 0x1010).0 other)
entry_of at false false one other is = absurd (cc)

pub text_is : IsText calling
text_is = record {
  row = two (λ i. IsInRow (calling.code i)) caller_row callee_row;
  told = two (λ i. IsTold calling (calling.code i)) caller_told callee_told;
  apart = λ i j less inside.
      two (λ j. i < j → (calling.code i).rules.own.past ≤ (calling.code j).rules.own.first) (λ less. absurd (omega arith))
      (λ less. one (λ i. (calling.code i).rules.own.past ≤ 0x1010) (omega arith) i (omega arith)) j inside less;
  low = two (λ i. 0x1000 ≤ (calling.code i).rules.own.first) (omega arith) (omega arith);
  high = two (λ i. (calling.code i).rules.own.past ≤ 0x1011) (omega arith) (omega arith);
  entry = two (λ i. calling.is_entry ((calling.code i).rules.at 0) ≡ true) refl refl;
  entries = λ at is. entry_of at (at == 0x1000) (at == 0x1010) refl refl is;
  growth = λ at is. absurd (cc);
}

caller_machine : IsMachineCode calling caller
unfolding flow_of
caller_machine = record {
  lawful = record {
    rises = λ i j less inside.
        two (λ j. i < j → caller.rules.at i < caller.rules.at j) (λ less. absurd (omega arith))
        (λ less. one (λ i. caller.rules.at i < 0x1005) (omega arith) i (omega arith)) j inside less;
    some = λ s. omega arith;
    short = λ s. omega arith;
    within = λ s inside. omega arith;
    apart = λ s j more less. refl;
  };
  acts = λ k less. tt;
  still = two (λ k. ¬ ((caller.placed k).effect.next ≡ next.Fall) → (flow_of (caller.placed k).effect amd64_shape).sp ≡ Keep)
      (λ ends. refl) (λ ends. refl);
  links = two (λ k. is_call (caller.placed k).effect.next ≡ true → is_some (link_of (caller.placed k).effect.next) ≡ false)
      (λ call. refl) (λ call. refl);
}

callee_machine : IsMachineCode calling callee
unfolding flow_of
callee_machine = record {
  lawful = record {
    rises = λ i j less inside. absurd (omega arith);
    some = λ s. omega arith;
    short = λ s. omega arith;
    within = λ s inside. omega arith;
    apart = λ s j more less. refl;
  };
  acts = λ k less. tt;
  still = λ k less ends. refl;
  links = λ k less call. refl;
}

pub machine_is : IsMachine calling
machine_is = record {
  registers = record { sp = omega arith; link = λ link none. absurd (cc) };
  code = two (λ i. IsMachineCode calling (calling.code i)) caller_machine callee_machine;
}
