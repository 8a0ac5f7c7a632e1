-- Instructions at their places, and the function that they are.
use Rattle.std.specs.Prelude.{◌≡◌, ℕ, suc, ◌+◌, ◌-◌, ◌^◌, ◌<◌, ◌≤◌, ◌==◌, Bool, List, map, length, drop, Option, Some, None, false}
use Rattle.std.specs.List.{slice_get, list_any}
use Rattle.machine_effect.specs.declared.flow.Flow.{Flow}
use Rattle.machine_effect.specs.declared.flow.Shape.{Shape}
use Rattle.machine_effect.specs.declared.flow.SpMove.TheVariants.{Keep}
use Rattle.machine_effect.specs.declared.next.Next.TheVariants as next
use Rattle.machine_effect.specs.Flow.{flow_of}
use Rattle.asm_target.specs.declared.body.Placed.{Placed}
use Rattle.asm_target.specs.declared.sequence.Sequence.{Sequence}
use Rattle.asm_target.specs.DepthChange.{depth_or_zero}
use Rattle.asm_target.specs.FlowFunction.{FlowFunction, Range}
use Rattle.asm_target.specs.FlowRules.{Breach}
use Rattle.asm_target.specs.InstructionSet.{InstructionSet}
use Rattle.flow_rules.specs.declared.flow_no.FlowNo.{FlowNo}
use Rattle.flow_rules.specs.declared.outside.Outside.{Outside}

-- what surrounds a function: the bytes of the text, its entries, and the routines outside that have the stack grow
pub record Surroundings : Type 0 where
  pub text : Range
  pub entries : List ℕ
  pub growth : List ℕ

abbrev pub around : Outside → Surroundings
around out = record { text = record { first = out.first; past = out.past }; entries = out.entries.now; growth = out.growth.now }

abbrev pub is_listed : List ℕ → ℕ → Bool
is_listed addresses address = list_any (λ listed. listed == address) addresses

-- Each instruction has bytes, the last of them below 2 ^ 64, and stands where the one before it ends
pub record ArePlaced {Instr : Type 0} (code : List (Placed Instr)) : Type 0 where
  pub some : (k : ℕ) (one : Placed Instr) → slice_get code k ≡ Some one → 0 < one.len
  pub room : (k : ℕ) (one : Placed Instr) → slice_get code k ≡ Some one → one.at + one.len ≤ 2 ^ 64
  pub follows : (k : ℕ) (one other : Placed Instr) → slice_get code k ≡ Some one → slice_get code (suc k) ≡ Some other
      → other.at ≡ one.at + one.len

module _ {Instr : Type 0} where
  abbrev pub place_of : Option (Placed Instr) → ℕ
  place_of (Some one) = one.at
  place_of None = 0

  -- where it ends
  abbrev pub end_of : Option (Placed Instr) → ℕ
  end_of (Some one) = one.at + one.len
  end_of None = 0

  -- what it does at its place; where there is none nothing is done
  abbrev pub flow_there : InstructionSet Instr → Shape → Option (Placed Instr) → Flow
  flow_there set shape (Some one) = flow_of (set.effect one.instr one.at) shape
  flow_there set shape None = record { sp = Keep; writes_link = false; stores_link = false; next = next.Stop }

  -- the function that has these instructions, each with its depth, and stands in this text
  abbrev pub function_of : InstructionSet Instr → Shape → (List Instr → Sequence) → List (Placed Instr) → List ℕ → Surroundings
      → FlowFunction
  function_of set shape begins code depths surroundings = record {
    count = length code;
    at = λ k. place_of (slice_get code k);
    depth = λ k. depth_or_zero (slice_get depths k);
    flow = λ k. flow_there set shape (slice_get code k);
    found = λ k. begins (map (λ placed. placed.instr) (drop k code));
    link = shape.link;
    text = surroundings.text;
    own = record { first = place_of (slice_get code 0); past = end_of (slice_get code (length code - 1)) };
    is_entry = is_listed surroundings.entries;
    is_growth_routine = is_listed surroundings.growth;
  }

-- what a refusal tells
abbrev pub told : FlowNo → Breach
told refusal = record { rule = refusal.rule; address = refusal.at; depths = refusal.depths }
