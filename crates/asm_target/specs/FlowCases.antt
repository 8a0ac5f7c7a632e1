-- Small functions and the rules that their instructions break.
use Rattle.std.specs.Prelude.{ℕ, zero, suc, pos, negsuc, ◌+◌, ◌==◌, ◌&&◌, ◌||◌, List, [], ◌∷◌, ◌++◌, Bool, true, false, length, slice_get, Option, Some, None, if◌then◌else◌}
use Rattle.machine_effect.specs.declared.cond.Cond.TheVariants.{Zero}
use Rattle.machine_effect.specs.declared.effect.Atom.TheVariants.{Reg}
use Rattle.machine_effect.specs.declared.flow.Flow.{Flow}
use Rattle.machine_effect.specs.declared.flow.SpMove.{SpMove}
use Rattle.machine_effect.specs.declared.flow.SpMove.TheVariants.{Keep, By, Other}
use Rattle.machine_effect.specs.declared.next.Next.{Next}
use Rattle.machine_effect.specs.declared.next.Next.TheVariants as next
use Rattle.asm_target.specs.declared.sequence.Sequence.{Sequence}
use Rattle.asm_target.specs.declared.sequence.Sequence.TheVariants.{Plain, Saving, Restoring, Growth}
use Rattle.asm_target.specs.FlowFunction.{FlowFunction}
use Rattle.asm_target.specs.FlowRules.{breaks}

-- an instruction: its depth by the table, what it does, and the sequence that begins with it
pub record Row : Type 0 where
  pub depth : ℕ
  pub flow : Flow
  pub found : Sequence

-- a function by its link register and instructions, and of each breach the position and the rule
pub record Case : Type 0 where
  pub link : Option ℕ
  pub rows : List Row
  pub broken : List (ℕ × ℕ)

-- the function's instructions have one byte each and stand from 0x1000 on. There is one more entry, 0x1100, in a text that goes to
-- 0x2000; the routine that grows the stack is at 0x5000
abbrev flow_or_stop : Option Row → Flow
flow_or_stop (Some row) = row.flow
flow_or_stop None = record { sp = Keep; writes_link = false; stores_link = false; next = next.Stop }

abbrev depth_or_zero : Option Row → ℕ
depth_or_zero (Some row) = row.depth
depth_or_zero None = 0

abbrev found_or_plain : Option Row → Sequence
found_or_plain (Some row) = row.found
found_or_plain None = Plain

abbrev function_of : Case → FlowFunction
function_of one = record {
  count = length one.rows;
  at = λ k. 0x1000 + k;
  depth = λ k. depth_or_zero (slice_get one.rows k);
  flow = λ k. flow_or_stop (slice_get one.rows k);
  found = λ k. found_or_plain (slice_get one.rows k);
  link = one.link;
  text = record { first = 0x1000; past = 0x2000 };
  own = record { first = 0x1000; past = 0x1000 + length one.rows };
  is_entry = λ address. (address == 0x1000) || (address == 0x1100);
  is_growth_routine = λ address. address == 0x5000;
}

-- of the rules up to this one, those that the instruction at k breaks, and the breaches before k
abbrev broken_at : FlowFunction → ℕ → ℕ → List (ℕ × ℕ)
broken_at f k zero = []
broken_at f k (suc rule) = broken_at f k rule ++ (if breaks f k (suc rule) then (k, suc rule) ∷ [] else [])

abbrev broken_before : FlowFunction → ℕ → List (ℕ × ℕ)
broken_before f zero = []
broken_before f (suc k) = broken_before f k ++ broken_at f k 9

abbrev is_same : List (ℕ × ℕ) → List (ℕ × ℕ) → Bool
is_same [] [] = true
is_same (one ∷ ones) (other ∷ others) = (one.0 == other.0) && ((one.1 == other.1) && is_same ones others)
is_same _ _ = false

-- the function has these breaches and no others
abbrev pub is_met : Case → Bool
is_met one = is_same (broken_before (function_of one) (length one.rows)) one.broken

-- instructions that go on behind themselves
abbrev plain : Flow
plain = record { sp = Keep; writes_link = false; stores_link = false; next = next.Fall }

abbrev moves : SpMove → Flow
moves sp = record plain { sp = sp }

abbrev pushes : Flow
pushes = moves (By (negsuc 7))

abbrev pops : Flow
pops = moves (By (pos 8))

-- and others
abbrev goes : Next → Flow
goes next = record plain { next = next }

abbrev returns : Flow
returns = goes next.Return

abbrev jumps : ℕ → Flow
jumps goal = goes (next.Jump goal)

abbrev branches : ℕ → Flow
branches goal = goes (next.Branch Zero goal)

abbrev calls : ℕ → Flow
calls goal = goes (next.Call goal None)

-- the link register, 1, and a call through it
abbrev calls_linked : ℕ → Flow
calls_linked goal = record (goes (next.Call goal (Some 1))) { writes_link = true }

abbrev loads_link : Flow
loads_link = record plain { writes_link = true }

abbrev stores_link : Flow
stores_link = record plain { stores_link = true }

-- an instruction that begins no sequence
abbrev at : ℕ → Flow → Row
at depth flow = record { depth = depth; flow = flow; found = Plain }

abbrev starts : ℕ → Flow → Sequence → Row
starts depth flow found = record { depth = depth; flow = flow; found = found }

abbrev stack : List Row → List (ℕ × ℕ) → Case
stack rows broken = record { link = None; rows = rows; broken = broken }

abbrev linked : List Row → List (ℕ × ℕ) → Case
linked rows broken = record { link = Some 1; rows = rows; broken = broken }

-- return addresses stand on the stack
abbrev pub stack_cases : List Case
stack_cases =
    stack (at 0 pushes ∷ at 8 (calls 0x1100) ∷ at 8 pops ∷ at 0 returns ∷ []) [] ∷
    stack (at 0 (branches 0x1002) ∷ at 0 (jumps 0x1100) ∷ at 0 (goes next.Stop) ∷ []) [] ∷
    stack (at 0 pushes ∷ at 0 returns ∷ []) ((0, 1) ∷ []) ∷
    stack (at 0 pushes ∷ at 8 (branches 0x1000) ∷ at 8 pops ∷ at 0 returns ∷ []) ((1, 1) ∷ []) ∷
    stack (at 0 (moves Other) ∷ at 0 returns ∷ []) ((0, 2) ∷ []) ∷
    stack (at 0 pushes ∷ at 8 returns ∷ []) ((1, 3) ∷ []) ∷
    stack (at 0 pushes ∷ at 8 (jumps 0x1100) ∷ []) ((1, 3) ∷ []) ∷
    stack (at 0 pushes ∷ at 8 (goes (next.JumpTo (Reg 0))) ∷ []) ((1, 3) ∷ []) ∷
    stack (at 0 (jumps 0x1001) ∷ []) ((0, 4) ∷ []) ∷
    stack (at 0 pushes ∷ at 8 (jumps 0x1234) ∷ []) ((1, 3) ∷ (1, 4) ∷ []) ∷
    stack (at 0 (jumps 0x3000) ∷ []) [] ∷
    stack (at 0 (calls 0x1001) ∷ at 0 returns ∷ []) ((0, 5) ∷ []) ∷
    stack (at 0 (calls 0x3000) ∷ at 0 returns ∷ []) [] ∷
    stack (at 0 plain ∷ []) ((0, 6) ∷ []) ∷
    stack (at 0 (calls 0x1100) ∷ []) ((0, 6) ∷ []) ∷
    stack (at 8 (jumps 0x1000) ∷ []) ((0, 9) ∷ []) ∷
    stack (at 0 (moves (By (negsuc 1052671))) ∷ at 1052672 (jumps 0x1001) ∷ []) [] ∷
    stack (at 0 (moves (By (negsuc 1052672))) ∷ at 1052673 (jumps 0x1001) ∷ []) ((0, 9) ∷ (1, 9) ∷ []) ∷
    stack (at 0 pops ∷ at 0 returns ∷ []) ((0, 1) ∷ (0, 9) ∷ []) ∷
    []

-- A frame of 16 bytes is made by the first three instructions and left by the fifth and sixth.
abbrev saved : Row → List Row
saved middle =
    starts 0 plain (Saving 3 16) ∷ at 0 stores_link ∷ at 0 (moves Other) ∷ middle
    ∷ starts 16 loads_link (Restoring 2 16) ∷ at 16 (moves Other) ∷ at 0 returns ∷ []

-- the last three instructions grow the stack
abbrev grown : ℕ → ℕ → List Row
grown goal routine =
    at 0 (branches goal) ∷ at 0 returns ∷ starts 0 plain (Growth 3) ∷ at 0 (calls_linked routine) ∷ at 0 (jumps 0x1000) ∷ []

-- return addresses stand in a link register
abbrev pub linked_cases : List Case
linked_cases =
    linked (saved (at 16 (calls_linked 0x1100))) [] ∷
    linked (saved (at 16 (branches 0x1004))) [] ∷
    linked (saved (at 16 (branches 0x1001))) ((1, 8) ∷ (2, 1) ∷ (2, 2) ∷ (3, 1) ∷ []) ∷
    linked (saved (at 16 (branches 0x1005))) ((5, 1) ∷ (5, 2) ∷ []) ∷
    linked (saved (at 16 (goes (next.Call 0x1100 (Some 5))))) ((3, 7) ∷ []) ∷
    linked (saved (at 16 (moves (By (pos 16))))) ((3, 2) ∷ []) ∷
    linked (saved (at 16 (jumps 0x1100))) ((3, 3) ∷ []) ∷
    linked (grown 0x1002 0x5000) [] ∷
    linked (grown 0x1003 0x5000) ((3, 7) ∷ (3, 8) ∷ []) ∷
    linked (grown 0x1004 0x5000) ((3, 7) ∷ (3, 8) ∷ []) ∷
    linked (grown 0x1002 0x1100) ((3, 7) ∷ (3, 8) ∷ []) ∷
    linked (at 0 (calls_linked 0x1100) ∷ at 0 returns ∷ []) ((0, 7) ∷ (0, 8) ∷ []) ∷
    linked (at 0 (goes (next.Call 0x5000 (Some 5))) ∷ at 0 returns ∷ []) ((0, 7) ∷ []) ∷
    linked (starts 0 (goes (next.Call 0x5000 (Some 5))) (Growth 2) ∷ at 0 (jumps 0x1000) ∷ []) [] ∷
    linked (at 0 loads_link ∷ at 0 returns ∷ []) ((0, 8) ∷ []) ∷
    linked (starts 0 plain (Saving 1 16) ∷ starts 16 plain (Saving 1 16) ∷ at 32 (jumps 0x1002) ∷ []) ((1, 8) ∷ []) ∷
    linked (starts 0 plain (Saving 1 16) ∷ starts 16 (moves Other) (Restoring 1 8) ∷ at 16 (jumps 0x1002) ∷ []) ((1, 2) ∷ []) ∷
    linked (at 0 (jumps 0x1001) ∷ at 0 (jumps 0x1234) ∷ []) ((1, 4) ∷ []) ∷
    linked (at 0 (jumps 0x1002) ∷ at 0 plain ∷ at 0 plain ∷ []) ((2, 6) ∷ []) ∷
    linked (starts 0 plain (Saving 1 16) ∷ at 16 (calls_linked 0x1001) ∷ at 16 (jumps 0x1002) ∷ []) ((1, 5) ∷ []) ∷
    linked (at 8 (jumps 0x1000) ∷ []) ((0, 9) ∷ []) ∷
    []
