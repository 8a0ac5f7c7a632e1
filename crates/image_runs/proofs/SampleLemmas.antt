-- A run that is kept.
use Rattle.std.proofs.Common.{◌≡◌, ℕ, zero, suc, pos, ◌+◌, ◌-◌, ◌<◌, ◌≤◌, ◌^◌, ◌&&◌, Bool, true, false, List, [], ◌∷◌, Option, Some, refl, sym, ap, ◌∙◌, subst, arith, inl, length, get_or, if◌then◌else◌}
use Rattle.std.proofs.lemmas.Bool.Decides.{nat_tests}
use Rattle.std.proofs.lemmas.Int.{ints}
use Rattle.std.proofs.lemmas.List.Elements.{All-nil, All-cons}
use Rattle.std.specs.FinMap as map
use Rattle.std.specs.List.{list_all, slice_get}
use Rattle.std.specs.Ordering.{nat_cmp}
use Rattle.std.specs.Option.{IsSome}
use Rattle.std.specs.Prelude.{IfSome, nat_lt}
use Rattle.machine_effect.specs.declared.frame.Frame.{Frame}
use Rattle.machine_effect.specs.declared.state.State.{State}
use Rattle.machine_effect.specs.Applies.{Applies, IsState}
use Rattle.machine_effect.specs.FlagsAfter.{flags_by}
use Rattle.machine_effect.specs.Flow.{flow_of}
use Rattle.machine_effect.specs.Memory.{IsMapped, Memory, byte_at, bytes_of, is_within, put, word_at}
use Rattle.machine_effect.proofs.MemoryLemmas.{below as under, byte_at-put, inside}
use Rattle.machine_effect.proofs.StateLemmas.{IsFineMemory, length-bytes_of, number_at-put}
use Rattle.asm_target.specs.DepthChange.{depth_change}
use Rattle.asm_target.proofs.PlaceLemmas.{item_at}
use Rattle.image_model.specs.Image.{Line}
use Rattle.image_model.specs.Joined.{joined, line_of}
use Rattle.image_model.specs.Kept.{AtSlots, IsKept, Opens, RunsKept}
use Rattle.image_model.specs.Sample.{callee, caller, calling}
use Rattle.image_model.specs.Steps.{ByCall, ByReturn, HasRoom, IsInRange, Step}
use Rattle.image_model.proofs.SampleLemmas.{text_is}
use Rattle.image_model.proofs.TextLemmas.{line_here}
use Rattle.image_runs.specs.Sample as sample
use Rattle.image_runs.specs.Sample.{first, inner_frame, outer_frame, second, stack, third}

both_first : (one other : Bool) → (one && other) ≡ true → one ≡ true
both_first true other is = refl
both_first false other is = absurd (cc)

both_second : (one other : Bool) → (one && other) ≡ true → other ≡ true
both_second true other is = is
both_second false other is = absurd (cc)

low_each : (bound : ℕ) (xs : List ℕ) → list_all (λ x. nat_lt x bound) xs ≡ true → (k x : ℕ) → slice_get xs k ≡ Some x → x < bound
low_each bound [] all k x is = absurd (cc)
low_each bound (y ∷ xs) all zero x is =
    (let low : nat_lt y bound ≡ true = both_first (nat_lt y bound) (list_all (λ x. nat_lt x bound) xs) all in
    let same : y ≡ x = cc in
    grind (arith, nat_tests))
low_each bound (y ∷ xs) all (suc k) x is = low_each bound xs (both_second (nat_lt y bound) (list_all (λ x. nat_lt x bound) xs) all) k x is

low_or : (bound : ℕ) (xs : List ℕ) → 0 < bound → list_all (λ x. nat_lt x bound) xs ≡ true → (k : ℕ) → get_or xs k 0 < bound
low_or bound [] some all k = some
low_or bound (y ∷ xs) some all zero = low_each bound (y ∷ xs) all 0 y refl
low_or bound (y ∷ xs) some all (suc k) = low_or bound xs some (both_second (nat_lt y bound) (list_all (λ x. nat_lt x bound) xs) all) k

fine_empty : IsFineMemory map.empty
fine_empty at byte is = absurd (cc (is, map.get-empty {X = ℕ} nat_cmp at))

fine_put : (memory : Memory) (at : ℕ) (bytes : List ℕ) → IsFineMemory memory → at + length bytes ≤ 2 ^ 64
    → list_all (λ x. nat_lt x (2 ^ 8)) bytes ≡ true → IsFineMemory (put memory at bytes)
fine_put memory at bytes fine room low q byte is =
    by (is_within at (length bytes) q) refl (sym (byte_at-put bytes memory at q) ∙ is)
  where
    by : (within : Bool) → is_within at (length bytes) q ≡ within
        → (if within then slice_get bytes (q - at) else byte_at memory q) ≡ Some byte → (q < 2 ^ 64) × (byte < 2 ^ 8)
    by true within there = (grind (arith, nat_tests), low_each (2 ^ 8) bytes low (q - at) byte there)
    by false within there = fine q byte there

stack_fine : IsFineMemory stack
unfolding bytes_of
stack_fine =
    fine_put (put map.empty 0x9000 (bytes_of 8 0)) 0x9008 (bytes_of 8 0)
    (fine_put map.empty 0x9000 (bytes_of 8 0) fine_empty (omega arith) refl) (omega arith) refl

pushed_fine : IsFineMemory sample.inside.mem
unfolding bytes_of
pushed_fine = fine_put stack 0x9000 (bytes_of 8 0x1005) stack_fine (omega arith) refl

state_is : (state : State) → state.pc < 2 ^ 64 → length state.regs ≡ 33 → list_all (λ x. nat_lt x (2 ^ 64)) state.regs ≡ true
    → length state.wide ≡ 16 → list_all (λ x. nat_lt x (2 ^ 128)) state.wide ≡ true → IsFineMemory state.mem → IsState state
state_is state pc count regs wide_count wide fine = record {
  pc = pc;
  regs_len = count;
  regs = low_or (2 ^ 64) state.regs (omega arith) regs;
  wide_len = wide_count;
  wide = low_or (2 ^ 128) state.wide (omega arith) wide;
  addresses = λ at byte is. (fine at byte is).0;
  bytes = λ at byte is. (fine at byte is).1;
}

first_state : IsState first.state
first_state = state_is first.state (omega arith) refl refl refl refl stack_fine

second_state : IsState second.state
second_state = state_is second.state (omega arith) refl refl refl refl pushed_fine

third_state : IsState third.state
third_state = state_is third.state (omega arith) refl refl refl refl pushed_fine

-- the upper word of the stack
first_word : word_at stack 0x9008 ≡ Some 0
first_word = number_at-put (put map.empty 0x9000 (bytes_of 8 0)) 0x9008 8 0

second_word : word_at second.state.mem 0x9000 ≡ Some 0x1005
second_word = number_at-put stack 0x9000 8 0x1005

mapped : IsMapped stack 0x9000 8
mapped k less =
    let size : length (bytes_of 8 0) ≡ 8 = length-bytes_of 8 0 in
    let there : (byte : ℕ) × (slice_get (bytes_of 8 0) k ≡ Some byte) = item_at (bytes_of 8 0) k (omega (arith, size, less)) in
    let off : is_within 0x9008 (length (bytes_of 8 0)) (0x9000 + k) ≡ false =
    under 0x9008 (length (bytes_of 8 0)) (0x9000 + k) (omega (arith, less)) in
    let on : is_within 0x9000 (length (bytes_of 8 0)) (0x9000 + k) ≡ true =
    inside 0x9000 (length (bytes_of 8 0)) (0x9000 + k) (omega arith) (omega (arith, size, less)) in
    let place : 0x9000 + k - 0x9000 ≡ k = omega arith in
    let outer : byte_at stack (0x9000 + k) ≡ byte_at (put map.empty 0x9000 (bytes_of 8 0)) (0x9000 + k) =
    byte_at-put (bytes_of 8 0) (put map.empty 0x9000 (bytes_of 8 0)) 0x9008 (0x9000 + k)
    ∙ ap (λ (b : Bool). if b then slice_get (bytes_of 8 0) (0x9000 + k - 0x9008) else byte_at (put map.empty 0x9000 (bytes_of 8 0)) (0x9000 + k)) off in
    let inner : byte_at (put map.empty 0x9000 (bytes_of 8 0)) (0x9000 + k) ≡ Some there.0 =
    byte_at-put (bytes_of 8 0) map.empty 0x9000 (0x9000 + k)
    ∙ ap (λ (b : Bool). if b then slice_get (bytes_of 8 0) (0x9000 + k - 0x9000) else byte_at map.empty (0x9000 + k)) on
    ∙ ap (slice_get (bytes_of 8 0)) place ∙ there.1 in
    subst (λ (o : Option ℕ). IsSome o) (sym (outer ∙ inner)) refl

pub opens : Opens (joined calling) first
opens = record {
  state = first_state;
  entry = refl;
  ret = 0;
  back = first_word;
  outside = refl;
  calls = refl;
}

here : (k : ℕ) → k < 2 → (joined calling).line_at (caller.rules.at k) ≡ Some (line_of caller k)
here k less = line_here calling text_is 0 k (omega arith) less

there : (joined calling).line_at 0x1010 ≡ Some (line_of callee 0)
there = line_here calling text_is 1 0 (omega arith) (omega arith)

in_range : (n : ℕ) → n < 2 ^ 64 → IsInRange (pos n)
in_range n low = (omega (arith, ints), omega (arith, ints))

call_room : HasRoom (joined calling) (line_of caller 0) first.state
unfolding flow_of depth_change
call_room = record { move = in_range 0x9008 (omega arith); change = in_range 0x9008 (omega arith) }

return_room : HasRoom (joined calling) (line_of callee 0) second.state
unfolding flow_of depth_change
return_room = record { move = in_range 0x9000 (omega arith); change = in_range 0x9000 (omega arith) }

calls_applies : Applies (caller.placed 0).effect 0x1005 first.state first.state
unfolding flags_by
calls_applies = record {
  loaded = 0;
  loads = refl;
  written = first.state.regs;
  writes = refl;
  regs = refl;
  wide = refl;
  mem = refl;
  flags = record { carry = refl; zero = refl; sign = refl; over = refl; parity = refl };
}

returns_applies : Applies (callee.placed 0).effect 0x1011 second.state second.state
unfolding flags_by
returns_applies = record {
  loaded = 0;
  loads = refl;
  written = second.state.regs;
  writes = refl;
  regs = refl;
  wide = refl;
  mem = refl;
  flags = record { carry = refl; zero = refl; sign = refl; over = refl; parity = refl };
}

calls : Step (joined calling) first second
calls = record {
  state = second_state;
  line = line_of caller 0;
  here = here 0 (omega arith);
  frame = outer_frame;
  further = [];
  calls = refl;
  room = call_room;
  way = ByCall (record {
    between = first.state;
    applies = calls_applies;
    goal = 0x1010;
    goes = refl;
    entry = refl;
    pushes = record { room = omega arith; mapped = mapped; same = refl };
    pc = refl;
    calls = refl;
  });
}

returns : Step (joined calling) second third
returns = record {
  state = third_state;
  line = line_of callee 0;
  here = there;
  frame = inner_frame;
  further = outer_frame ∷ [];
  calls = refl;
  room = return_room;
  way = ByReturn (record {
    between = second.state;
    applies = returns_applies;
    goes = refl;
    value = 0x1005;
    back = second_word;
    pops = record { room = omega arith; same = refl };
    resumes = record {
      start = subst (λ (o : Option Line). IsSome o) (sym (here 1 (omega arith))) refl;
      caller = outer_frame;
      others = [];
      stands = refl;
      pc = refl;
      calls = refl;
    };
  });
}

one_slot : (At : ℕ → Type 0) (frame : Frame) (calls : List Frame) → IfSome frame.slot At → AtSlots At calls → AtSlots At (frame ∷ calls)
one_slot At frame calls one more = All-cons (λ (frame : Frame). IfSome frame.slot At) frame calls one more

no_slot : (At : ℕ → Type 0) → AtSlots At []
no_slot At = All-nil (λ (frame : Frame). IfSome frame.slot At)

calls_kept : IsKept (joined calling) first second calls
unfolding calls
calls_kept =
    (one_slot _ outer_frame [] tt (no_slot _), λ none. one_slot _ outer_frame [] (inl (omega arith)) (no_slot _))

returns_kept : IsKept (joined calling) second third returns
unfolding returns
returns_kept = one_slot _ inner_frame (outer_frame ∷ []) tt (one_slot _ outer_frame [] tt (no_slot _))

pub runs : RunsKept (joined calling) first (second ∷ third ∷ [])
runs = (calls, calls_kept, (returns, returns_kept, tt))
