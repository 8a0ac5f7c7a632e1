-- The laws of jumps, for amd64: their forms, and where the machine goes on.
use Rattle.std.specs.Prelude.{is_some, option_map, All}
use Rattle.std.proofs.Common.{◌≡◌, ℕ, zero, suc, ℤ, pos, ◌+◌, ◌%◌, ◌^◌, ◌<◌, ◌≤◌, true, IsTrue, [], ◌∷◌, ◌++◌, length, Option, Some, None, refl, sym, ◌∙◌, ap, subst, arith, rules}
use Rattle.std.proofs.lemmas.List.{length-append}
use Rattle.machine_effect.specs.Numbers.{fits as fits_bits, moved_by}
use Rattle.machine_effect.specs.Shapes.{amd64_shape}
use Rattle.asm_target.specs.Aiming as aim
use Rattle.asm_target.specs.FlowFunction.{jump_goal, call_goal}
use Rattle.amd64_table.specs.declared.condition.Cc.{Cc}
use Rattle.amd64_table.specs.declared.memory.Rm.TheVariants as rms
use Rattle.amd64_table.specs.Operands.{rm_atom}
use Rattle.amd64_table.specs.declared.op.Near.{Near}
use Rattle.amd64_table.specs.declared.op.Near.TheVariants as near
use Rattle.amd64_table.specs.declared.op.Indirect.TheVariants as indirect
use Rattle.amd64_table.specs.declared.op.Plain.{Plain}
use Rattle.amd64_table.specs.declared.op.Plain.TheVariants as plain
use Rattle.amd64_table.specs.declared.instr.Instr.{Instr}
use Rattle.amd64_table.specs.declared.instr.Instr.TheVariants as instr
use Rattle.amd64_table.specs.Fits.{fits}
use Rattle.amd64_table.specs.Flows.{next_of}
use Rattle.amd64_table.proofs.MoveLemmas.{flow_moves}
use Rattle.amd64_table.proofs.NextLemmas.{nexts}
use Rattle.amd64_code.specs.InstructionSet.{amd64, Fits, end_of}
use Rattle.amd64_code.specs.Heads.{head_bytes, rex_bytes}
use Rattle.amd64_code.specs.Spelling.{spelling_of, short_opcode, near_opcode}
use Rattle.amd64_forms.specs.Aiming.{forms_of, short_of, long_of, distance_of, aimed_by}
use Rattle.amd64_select.specs.Aims.{aiming}
use Rattle.amd64_select.specs.AimLaws.{aimed_so}

-- where the machine goes on, but for the goal, isn't a matter of the place
pub steady_next : (i : Instr) (end other : ℕ) → aim.with_goal 0 (next_of i end) ≡ aim.with_goal 0 (next_of i other)
unfolding next_of
steady_next (instr.Short None d) end other = refl
steady_next (instr.Short (Some code) d) end other = refl
steady_next (instr.Near near.Jmp d) end other = refl
steady_next (instr.Near near.Call d) end other = refl
steady_next (instr.Near (near.If code) d) end other = refl
steady_next (instr.Indirect indirect.Jmp rm) end other = refl
steady_next (instr.Indirect indirect.Call rm) end other = refl
steady_next (instr.Plain plain.Ret) end other = refl
steady_next (instr.Plain plain.Syscall) end other = refl
steady_next (instr.Plain plain.Undef) end other = refl
steady_next (instr.Plain op) end other = refl
steady_next i end other = refl

pub steady : aim.AreSteady amd64 Fits amd64_shape
steady i fit = record {
  sp = λ pc other low near. flow_moves i (end_of i pc) fit ∙ sym (flow_moves i (end_of i other) fit);
  next = λ pc other low near.
      ap (aim.with_goal 0) (nexts i (end_of i pc)) ∙ steady_next i (end_of i pc) (end_of i other)
      ∙ ap (aim.with_goal 0) (sym (nexts i (end_of i other)));
}

-- the goal is that of the distance, and another distance changes nothing else
goes_to : (i : Instr) (end goal : ℕ) → jump_goal (next_of i end) ≡ Some goal
    → (option_map (moved_by end) (distance_of i) ≡ Some goal) × (is_some (distance_of i) ≡ true)
unfolding next_of distance_of
goes_to (instr.Short None d) end goal is = (is, refl)
goes_to (instr.Short (Some code) d) end goal is = (is, refl)
goes_to (instr.Near near.Jmp d) end goal is = (is, refl)
goes_to (instr.Near near.Call d) end goal is = absurd (cc)
goes_to (instr.Near (near.If code) d) end goal is = (is, refl)
goes_to (instr.Indirect indirect.Jmp rm) end goal is = absurd (cc)
goes_to (instr.Indirect indirect.Call rm) end goal is = absurd (cc)
goes_to (instr.Plain plain.Ret) end goal is = absurd (cc)
goes_to (instr.Plain plain.Syscall) end goal is = absurd (cc)
goes_to (instr.Plain plain.Undef) end goal is = absurd (cc)
goes_to (instr.Plain op) end goal is = absurd (cc)
goes_to i end goal is = absurd (cc)

calls_to : (i : Instr) (end goal : ℕ) → call_goal (next_of i end) ≡ Some goal
    → (option_map (moved_by end) (distance_of i) ≡ Some goal) × (is_some (distance_of i) ≡ true)
unfolding next_of distance_of
calls_to (instr.Short None d) end goal is = absurd (cc)
calls_to (instr.Short (Some code) d) end goal is = absurd (cc)
calls_to (instr.Near near.Jmp d) end goal is = absurd (cc)
calls_to (instr.Near near.Call d) end goal is = (is, refl)
calls_to (instr.Near (near.If code) d) end goal is = absurd (cc)
calls_to (instr.Indirect indirect.Jmp rm) end goal is = absurd (cc)
calls_to (instr.Indirect indirect.Call rm) end goal is = absurd (cc)
calls_to (instr.Plain plain.Ret) end goal is = absurd (cc)
calls_to (instr.Plain plain.Syscall) end goal is = absurd (cc)
calls_to (instr.Plain plain.Undef) end goal is = absurd (cc)
calls_to (instr.Plain op) end goal is = absurd (cc)
calls_to i end goal is = absurd (cc)

aimed_next : (i : Instr) (d : ℤ) (end pc : ℕ) → next_of (aimed_by d i) end ≡ aim.with_goal (moved_by end d) (next_of i pc)
unfolding next_of aimed_by rm_atom
aimed_next (instr.Short None e) d end pc = refl
aimed_next (instr.Short (Some code) e) d end pc = refl
aimed_next (instr.Near near.Jmp e) d end pc = refl
aimed_next (instr.Near near.Call e) d end pc = refl
aimed_next (instr.Near (near.If code) e) d end pc = refl
aimed_next (instr.Indirect indirect.Jmp (rms.Reg reg)) d end pc = refl
aimed_next (instr.Indirect indirect.Jmp (rms.Mem mem)) d end pc = refl
aimed_next (instr.Indirect indirect.Call (rms.Reg reg)) d end pc = refl
aimed_next (instr.Indirect indirect.Call (rms.Mem mem)) d end pc = refl
aimed_next (instr.Plain plain.Ret) d end pc = refl
aimed_next (instr.Plain plain.Syscall) d end pc = refl
aimed_next (instr.Plain plain.Undef) d end pc = refl
aimed_next (instr.Plain op) d end pc = refl
aimed_next i d end pc = refl

pub holds_goals : aim.HoldGoals amd64 Fits aiming
holds_goals = record {
  whole = λ place goal. refl;
  jump = λ i pc goal fit low is. goes_to i (end_of i pc) goal (ap jump_goal (sym (nexts i (end_of i pc))) ∙ is);
  call = λ i pc goal fit low is. calls_to i (end_of i pc) goal (ap call_goal (sym (nexts i (end_of i pc))) ∙ is);
  aimed = λ i j pc place goal fit low near there aims.
      let by = aimed_so i j place goal aims in
      let end : end_of j place ≡ end_of i place = by.end in
      nexts j (end_of j place)
      ∙ ap (λ (k : Instr). next_of k (end_of j place)) by.is
      ∙ ap (next_of (aimed_by by.distance i)) end
      ∙ aimed_next i by.distance (end_of i place) (end_of i pc)
      ∙ ap (λ (to : ℕ). aim.with_goal to (next_of i (end_of i pc))) by.leads.to
      ∙ ap (aim.with_goal goal) (sym (nexts i (end_of i pc)));
}

-- the forms of an instruction

one_long : (i : Instr) → aim.bytes_of amd64 (i ∷ []) ≡ length (spelling_of i)
one_long i = length-append (spelling_of i) [] ∙ omega arith

short_length : (code : Option Cc) (d : ℤ) → length (spelling_of (instr.Short code d)) ≡ 2
unfolding spelling_of head_bytes rex_bytes short_opcode
short_length None d = refl
short_length (Some code) d = refl

near_least : (op : Near) (d : ℤ) → 2 ≤ length (spelling_of (instr.Near op d))
unfolding spelling_of head_bytes rex_bytes near_opcode
near_least near.Jmp d = omega arith
near_least near.Call d = omega arith
near_least (near.If code) d = omega arith

longer : (i : Instr) → length (spelling_of (short_of i)) ≤ length (spelling_of (long_of i))
longer (instr.Near near.Jmp d) = omega (arith, short_length None (pos 0), near_least near.Jmp d)
longer (instr.Near (near.If code) d) = omega (arith, short_length (Some code) (pos 0), near_least (near.If code) d)
longer (instr.Near near.Call d) = omega arith
longer (instr.Short None d) = omega (arith, short_length None d, near_least near.Jmp d)
longer (instr.Short (Some code) d) = omega (arith, short_length (Some code) d, near_least (near.If code) d)
longer i = omega arith

pub fits_short : (i : Instr) → Fits i → Fits (short_of i)
unfolding fits
fits_short (instr.Near near.Jmp d) fit = refl
fits_short (instr.Near near.Call d) fit = fit
fits_short (instr.Near (near.If code) d) fit = refl
fits_short i fit = fit

wider : (d : ℤ) → IsTrue (fits_bits 8 d) → IsTrue (fits_bits 32 d)
wider = search rules

pub fits_long : (i : Instr) → Fits i → Fits (long_of i)
unfolding fits
fits_long (instr.Short None d) fit = wider d fit
fits_long (instr.Short (Some code) d) fit = wider d fit
fits_long i fit = fit

fits_form : (i : Instr) (form : ℕ) → Fits i → All Fits (forms_of i form)
unfolding forms_of
fits_form i zero fit = search (rules, fits_short i fit)
fits_form i (suc n) fit = search (rules, fits_long i fit)

short_one : (i : Instr) → forms_of i 0 ≡ short_of i ∷ []
unfolding forms_of
short_one i = refl

long_one : (i : Instr) → forms_of i 1 ≡ long_of i ∷ []
unfolding forms_of
long_one i = refl

same_kind : (i : Instr) → is_some (distance_of (short_of i)) ≡ is_some (distance_of i)
unfolding distance_of
same_kind (instr.Near near.Jmp d) = refl
same_kind (instr.Near (near.If code) d) = refl
same_kind i = refl

same_long : (i : Instr) → is_some (distance_of (long_of i)) ≡ is_some (distance_of i)
unfolding distance_of
same_long (instr.Short None d) = refl
same_long (instr.Short (Some code) d) = refl
same_long i = refl

-- what is no direct jump has itself alone
jumps_not : (i : Instr) (form end : ℕ) → jump_goal (next_of i end) ≡ None → forms_of i form ≡ i ∷ []
unfolding next_of forms_of
jumps_not (instr.Short None d) form end none = absurd (cc)
jumps_not (instr.Short (Some code) d) form end none = absurd (cc)
jumps_not (instr.Near near.Jmp d) form end none = absurd (cc)
jumps_not (instr.Near (near.If code) d) form end none = absurd (cc)
jumps_not i zero end none = refl
jumps_not i (suc n) end none = refl

-- both forms jump under the same condition
jumps_alike : (i : Instr) (form end other : ℕ) (one : Instr) → forms_of i form ≡ one ∷ []
    → aim.with_goal 0 (next_of one end) ≡ aim.with_goal 0 (next_of i other)
unfolding next_of forms_of
jumps_alike i zero end other one is = subst (λ (k : Instr). aim.with_goal 0 (next_of k end) ≡ aim.with_goal 0 (next_of i other)) (first is) (short_next i)
  where
    first : {x y : Instr} → x ∷ [] ≡ y ∷ [] → x ≡ y
    first same = cc

    short_next : (j : Instr) → aim.with_goal 0 (next_of (short_of j) end) ≡ aim.with_goal 0 (next_of j other)
    short_next (instr.Near near.Jmp d) = refl
    short_next (instr.Near (near.If code) d) = refl
    short_next j = steady_next j end other
jumps_alike i (suc n) end other one is = subst (λ (k : Instr). aim.with_goal 0 (next_of k end) ≡ aim.with_goal 0 (next_of i other)) (first is) (long_next i)
  where
    first : {x y : Instr} → x ∷ [] ≡ y ∷ [] → x ≡ y
    first same = cc

    long_next : (j : Instr) → aim.with_goal 0 (next_of (long_of j) end) ≡ aim.with_goal 0 (next_of j other)
    long_next (instr.Short None d) = refl
    long_next (instr.Short (Some code) d) = refl
    long_next j = steady_next j end other

one_form : (i : Instr) (form : ℕ) → (one : Instr) × (forms_of i form ≡ one ∷ [])
unfolding forms_of
one_form i zero = (short_of i, refl)
one_form i (suc n) = (long_of i, refl)

pub formed : aim.HaveForms amd64 Fits aiming
formed i fit = record {
  fit = λ form least. fits_form i form fit;
  short = (short_of i, short_one i, same_kind i);
  long = ([], long_of i, long_one i, same_long i);
  longer = let one = ap (aim.bytes_of amd64) (short_one i) ∙ one_long (short_of i) in
      let other = ap (aim.bytes_of amd64) (long_one i) ∙ one_long (long_of i) in
      omega (arith, one, other, longer i);
  alone = λ form pc least low none. jumps_not i form (end_of i pc) (ap jump_goal (sym (nexts i (end_of i pc))) ∙ none);
  jumps = λ form pc goal least low is.
      let one = one_form i form in
      subst (aim.JumpsAs amd64 Fits aiming (amd64.effect i pc).next) (sym one.1)
      (λ at near.
      ap (aim.with_goal 0) (nexts one.0 (end_of one.0 at)) ∙ jumps_alike i form (end_of one.0 at) (end_of i pc) one.0 one.1
      ∙ ap (aim.with_goal 0) (sym (nexts i (end_of i pc))));
}
