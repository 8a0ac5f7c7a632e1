-- Two functions with padding between them: the first calls the second one and returns, and the second returns. Return addresses stand
-- on the stack.
use Rattle.std.specs.Prelude.{ℕ, [], ◌==◌, ◌||◌, Bool, false, None, if◌then◌else◌}
use Rattle.machine_effect.specs.declared.flag_rule.FlagRule.TheVariants as flags
use Rattle.machine_effect.specs.declared.next.Next.{Next}
use Rattle.machine_effect.specs.declared.next.Next.TheVariants as next
use Rattle.machine_effect.specs.Flow.{flow_of}
use Rattle.machine_effect.specs.Shapes.{amd64_shape}
use Rattle.asm_target.specs.declared.sequence.Sequence.TheVariants.{Plain}
use Rattle.asm_target.specs.FlowFunction.{Range}
use Rattle.asm_target.specs.Runs.{PlacedEffect}
use Rattle.image_model.specs.Joined.{Code, Text}

-- an instruction that does nothing but go somewhere
abbrev going : Next → ℕ → PlacedEffect
going next past = record {
  effect = record {
    writes = record { items = [] };
    wide = None;
    load = None;
    store = None;
    flags = flags.Keep;
    next = next;
  };
  past = past;
}

abbrev text_range : Range
text_range = record { first = 0x1000; past = 0x1011 }

abbrev is_first : ℕ → Bool
is_first at = (at == 0x1000) || (at == 0x1010)

abbrev caller_part : ℕ → PlacedEffect
caller_part k = if k == 0 then going (next.Call 0x1010 None) 0x1005 else going next.Return 0x1006

abbrev callee_part : ℕ → PlacedEffect
callee_part k = going next.Return 0x1011

abbrev code_from : (ℕ → PlacedEffect) → ℕ → (ℕ → ℕ) → Range → Code
code_from part count at own = record {
  rules = record {
    count = count;
    at = at;
    depth = λ k. 0;
    flow = λ k. flow_of (part k).effect amd64_shape;
    found = λ k. Plain;
    link = None;
    text = text_range;
    own = own;
    is_entry = is_first;
    is_growth_routine = λ at. false;
  };
  placed = part;
}

abbrev pub caller : Code
caller = code_from caller_part 2 (λ k. if k == 0 then 0x1000 else 0x1005) (record { first = 0x1000; past = 0x1006 })

abbrev pub callee : Code
callee = code_from callee_part 1 (λ k. 0x1010) (record { first = 0x1010; past = 0x1011 })

abbrev pub calling : Text
calling = record {
  count = 2;
  code = λ i. if i == 0 then caller else callee;
  shape = amd64_shape;
  growth = None;
  range = text_range;
  is_entry = is_first;
  is_growth_routine = λ at. false;
}
