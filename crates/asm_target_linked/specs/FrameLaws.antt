-- The laws of frames, of the check and of telling sequences.
use Rattle.std.specs.Prelude.{All, ℤ, ◌+ℤ◌, ◌-ℤ◌, map, nat_le}
use Rattle.std.proofs.Common.{◌≡◌, ℕ, zero, suc, List, [], ◌∷◌, ◌++◌, ◌+◌, ◌<◌, ◌≤◌, ◌==◌, ◌&&◌, ◌⊎◌, Bool, true, false, length, take, drop, refl, sym, ap, ◌∙◌, arith, subst, if◌then◌else◌}
use Rattle.std.proofs.lemmas.Bool.{and_parts}
use Rattle.std.proofs.lemmas.Bool.Decides.{nat_tests, Decides-eqb}
use Rattle.std.proofs.lemmas.Int.{ints}
use Rattle.std.proofs.lemmas.List.Elements.{All-nil, All-cons}
use Rattle.machine_effect.specs.declared.next.Next.TheVariants as next
use Rattle.machine_effect.specs.Flow.{flow_of}
use Rattle.asm_target.proofs.PlaceLemmas.{fit_at}
use Rattle.asm_target.proofs.SequenceLemmas.{whole}
use Rattle.asm_target.specs.declared.sequence.Sequence.{Sequence}
use Rattle.asm_target.specs.declared.sequence.Sequence.TheVariants as sequence
use Rattle.asm_target.specs.Architecture.{riscv64}
use Rattle.asm_target.specs.Frames.{greatest_total}
use Rattle.asm_target.specs.SequenceLaws.{GrowsAnywhere, IsTold, StandsApart}
use Rattle.asm_target.specs.Sequences.{count_of, span_of, is_plain}
use Rattle.asm_target.specs.Standing.{Enters, KeepsRules, Leaves}
use Rattle.asm_target_linked.specs.declared.instr.FrameOp.TheVariants.{Save, Load, Below, Above}
use Rattle.asm_target_linked.specs.declared.instr.Instr.{Instr}
use Rattle.asm_target_linked.specs.declared.instr.Instr.TheVariants.{Plain, Frame, Far}
use Rattle.asm_target_linked.specs.declared.instr.Op.TheVariants.{SaveAt, SetSp, LoadLink}
use Rattle.asm_target_linked.specs.Instr.{Fits, effect_of, linked}
use Rattle.asm_target_linked.specs.Forms.{aiming, undirected}
use Rattle.asm_target_linked.specs.FormLaws.{aimed_far}
use Rattle.asm_target_linked.specs.Frames.{begins, entering, enter_long, entry, exit, exiting, is_long, is_short, jumps_next, leave_long, saves_next, sets_next}

-- which sequence some code begins with
pub data Kind (code : List Instr) : Type 0 where
  none : begins code ≡ sequence.Plain → Kind code
  save : (n : ℕ) (rest : List Instr) → code ≡ Frame Save n ∷ rest → is_short n ≡ true → Kind code
  load : (n : ℕ) (rest : List Instr) → code ≡ Frame Load n ∷ rest → is_short n ≡ true → Kind code
  save_long : (n : ℕ) (rest : List Instr) → code ≡ Frame Below n ∷ Plain SaveAt ∷ Plain SetSp ∷ rest → is_long n ≡ true → Kind code
  load_long : (n : ℕ) (rest : List Instr) → code ≡ Plain LoadLink ∷ Frame Above n ∷ Plain SetSp ∷ rest → is_long n ≡ true
      → Kind code
  grow : (d e : ℤ) (rest : List Instr) → code ≡ Far true d ∷ Far false e ∷ rest → Kind code

saves_is : (code : List Instr) → saves_next code ≡ true → (rest : List Instr) × (code ≡ Plain SaveAt ∷ Plain SetSp ∷ rest)
saves_is (Plain SaveAt ∷ Plain SetSp ∷ rest) is = (rest, refl)
saves_is _ is = absurd (cc)

sets_is : (code : List Instr) → sets_next code ≡ true → (rest : List Instr) × (code ≡ Plain SetSp ∷ rest)
sets_is (Plain SetSp ∷ rest) is = (rest, refl)
sets_is _ is = absurd (cc)

jumps_is : (code : List Instr) → jumps_next code ≡ true → (e : ℤ) × (rest : List Instr) × (code ≡ Far false e ∷ rest)
jumps_is (Far false e ∷ rest) is = (e, rest, refl)
jumps_is _ is = absurd (cc)

by_test : (b : Bool) (q : Sequence) → b ≡ false → (if b then q else sequence.Plain) ≡ sequence.Plain
by_test b q is = rw is refl

kind_save : (n : ℕ) (rest : List Instr) (b : Bool) → is_short n ≡ b → Kind (Frame Save n ∷ rest)
kind_save n rest true is = save n rest refl is
kind_save n rest false is = none (by_test (is_short n) (sequence.Saving 1 n) is)

kind_load : (n : ℕ) (rest : List Instr) (b : Bool) → is_short n ≡ b → Kind (Frame Load n ∷ rest)
kind_load n rest true is = load n rest refl is
kind_load n rest false is = none (by_test (is_short n) (sequence.Restoring 1 n) is)

kind_below : (n : ℕ) (code : List Instr) (b : Bool) → (is_long n && saves_next code) ≡ b → Kind (Frame Below n ∷ code)
kind_below n code true is =
    let parts = and_parts (is_long n) (saves_next code) is in
    let there = saves_is code parts.1 in
    save_long n there.0 (ap (λ (xs : List Instr). Frame Below n ∷ xs) there.1) parts.0
kind_below n code false is = none (by_test (is_long n && saves_next code) (sequence.Saving 3 n) is)

kind_above : (n : ℕ) (code : List Instr) (b : Bool) → (is_long n && sets_next code) ≡ b → Kind (Plain LoadLink ∷ Frame Above n ∷ code)
kind_above n code true is =
    let parts = and_parts (is_long n) (sets_next code) is in
    let there = sets_is code parts.1 in
    load_long n there.0 (ap (λ (xs : List Instr). Plain LoadLink ∷ Frame Above n ∷ xs) there.1) parts.0
kind_above n code false is = none (by_test (is_long n && sets_next code) (sequence.Restoring 3 n) is)

kind_far : (d : ℤ) (code : List Instr) (b : Bool) → jumps_next code ≡ b → Kind (Far true d ∷ code)
kind_far d code true is =
    let there = jumps_is code is in
    grow d there.0 there.1 (ap (λ (xs : List Instr). Far true d ∷ xs) there.2)
kind_far d code false is = none (by_test (jumps_next code) (sequence.Growth 2) is)

pub kind_of : (code : List Instr) → Kind code
kind_of [] = none refl
kind_of (Frame Save n ∷ rest) = kind_save n rest (is_short n) refl
kind_of (Frame Load n ∷ rest) = kind_load n rest (is_short n) refl
kind_of (Frame Below n ∷ code) = kind_below n code (is_long n && saves_next code) refl
kind_of (Plain LoadLink ∷ Frame Above n ∷ code) = kind_above n code (is_long n && sets_next code) refl
kind_of (Far true d ∷ code) = kind_far d code (jumps_next code) refl
kind_of _ = none refl

-- and so what it is
pub begins_save : (n : ℕ) (rest : List Instr) → is_short n ≡ true → begins (Frame Save n ∷ rest) ≡ sequence.Saving 1 n
begins_save n rest is = rw is refl

pub begins_load : (n : ℕ) (rest : List Instr) → is_short n ≡ true → begins (Frame Load n ∷ rest) ≡ sequence.Restoring 1 n
begins_load n rest is = rw is refl

pub begins_save_long : (n : ℕ) (rest : List Instr) → is_long n ≡ true
    → begins (Frame Below n ∷ Plain SaveAt ∷ Plain SetSp ∷ rest) ≡ sequence.Saving 3 n
begins_save_long n rest is = rw is refl

pub begins_load_long : (n : ℕ) (rest : List Instr) → is_long n ≡ true
    → begins (Plain LoadLink ∷ Frame Above n ∷ Plain SetSp ∷ rest) ≡ sequence.Restoring 3 n
begins_load_long n rest is = rw is refl

-- a sequence lies apart, and is told by its own instructions
record IsApart (code : List Instr) (found : Sequence) : Type 0 where
  some : 0 < span_of found
  short : count_of found ≤ 5
  there : is_plain found ≡ false → count_of found ≤ length code
  apart : (k : ℕ) → 0 < k → k < count_of found → begins (drop k code) ≡ sequence.Plain
  told : (more : List Instr) → is_plain found ≡ false → begins (take (count_of found) code ++ more) ≡ found

apart_none : (code : List Instr) → IsApart code sequence.Plain
apart_none code = record {
  some = omega arith;
  short = omega arith;
  there = λ begun. absurd (cc);
  apart = λ k more less. absurd (omega arith);
  told = λ more begun. absurd (cc);
}

inside_three : (code : List Instr) → begins (drop 1 code) ≡ sequence.Plain → begins (drop 2 code) ≡ sequence.Plain → (k : ℕ) → 0 < k
    → k < 3 → begins (drop k code) ≡ sequence.Plain
inside_three code one two zero more less = absurd (omega arith)
inside_three code one two (suc zero) more less = one
inside_three code one two (suc (suc zero)) more less = two
inside_three code one two (suc (suc (suc k))) more less = absurd (omega arith)

apart_kind : (code : List Instr) → Kind code → (found : Sequence) × (begins code ≡ found) × IsApart code found
apart_kind code (none is) = (sequence.Plain, is, apart_none code)
apart_kind code (save n rest is short) = (
  sequence.Saving 1 n,
  ap begins is ∙ begins_save n rest short,
  subst (λ (c : List Instr). IsApart c (sequence.Saving 1 n)) (sym is) (record {
    some = omega arith;
    short = omega arith;
    there = λ begun. omega arith;
    apart = λ k more less. absurd (omega arith);
    told = λ more begun. begins_save n more short;
  }),
)
apart_kind code (load n rest is short) = (
  sequence.Restoring 1 n,
  ap begins is ∙ begins_load n rest short,
  subst (λ (c : List Instr). IsApart c (sequence.Restoring 1 n)) (sym is) (record {
    some = omega arith;
    short = omega arith;
    there = λ begun. omega arith;
    apart = λ k more less. absurd (omega arith);
    told = λ more begun. begins_load n more short;
  }),
)
apart_kind code (save_long n rest is long) = (
  sequence.Saving 3 n,
  ap begins is ∙ begins_save_long n rest long,
  subst (λ (c : List Instr). IsApart c (sequence.Saving 3 n)) (sym is) (record {
    some = omega arith;
    short = omega arith;
    there = λ begun. omega arith;
    apart = inside_three (enter_long n ++ rest) refl refl;
    told = λ more begun. begins_save_long n more long;
  }),
)
apart_kind code (load_long n rest is long) = (
  sequence.Restoring 3 n,
  ap begins is ∙ begins_load_long n rest long,
  subst (λ (c : List Instr). IsApart c (sequence.Restoring 3 n)) (sym is) (record {
    some = omega arith;
    short = omega arith;
    there = λ begun. omega arith;
    apart = inside_three (leave_long n ++ rest) refl refl;
    told = λ more begun. begins_load_long n more long;
  }),
)
apart_kind code (grow d e rest is) = (
  sequence.Growth 2,
  ap begins is,
  subst (λ (c : List Instr). IsApart c (sequence.Growth 2)) (sym is) (record {
    some = omega arith;
    short = omega arith;
    there = λ begun. omega arith;
    apart = elim [
      | zero ↦ (λ more less. absurd (omega arith))
      | suc k ↦ (λ more less. (let one : k ≡ 0 = omega arith in
          subst (λ (m : ℕ). begins (drop (suc m) (Far true d ∷ Far false e ∷ rest)) ≡ sequence.Plain) (sym one) refl))
    ];
    told = λ more begun. refl;
  }),
)

pub apart : (code : List Instr) → StandsApart begins code
apart code =
    let k = apart_kind code (kind_of code) in
    let same = sym k.1 in
    record {
      some = subst (λ (q : Sequence). 0 < span_of q) same k.2.some;
      short = subst (λ (q : Sequence). count_of q ≤ 5) same k.2.short;
      there = subst (λ (q : Sequence). is_plain q ≡ false → count_of q ≤ length code) same k.2.there;
      apart = λ n more. subst (λ (q : Sequence). n < count_of q → begins (drop n code) ≡ sequence.Plain) same (k.2.apart n more);
    }

pub told : (code : List Instr) → IsTold begins code
told code more =
    let k = apart_kind code (kind_of code) in
    subst (λ (q : Sequence). is_plain q ≡ false → begins (take (count_of q) code ++ more) ≡ q) (sym k.1) (k.2.told more)

-- frames
abbrev Falls : ℕ → Instr → Type 0
Falls pc i = (effect_of i pc).next ≡ next.Fall

abbrev Leaves_link : ℕ → Instr → Type 0
Leaves_link pc i = (flow_of (effect_of i pc) riscv64.shape).writes_link ≡ false

one_of : (P : Instr → Type 0) (i : Instr) → P i → All P (i ∷ [])
one_of P i is = All-cons P i [] is (All-nil P)

three_of : (P : Instr → Type 0) (i j k : Instr) → P i → P j → P k → All P (i ∷ j ∷ k ∷ [])
three_of P i j k first second third = All-cons P i (j ∷ k ∷ []) first (All-cons P j (k ∷ []) second (one_of P k third))

abbrev Rules : List Instr → ℕ → ℕ → Type 0
Rules = KeepsRules linked Fits begins riscv64.shape

no_code : Rules [] 0 0
no_code f at stands start entry = record {
  clean = λ k rule less few. absurd (omega arith);
  ends = (let none : at + 0 ≡ at = omega arith in ap f.depth none ∙ start);
}

no_quiet_link : (pc n : ℕ) → Leaves_link pc (Frame Save n)
unfolding flow_of
no_quiet_link pc n = refl

no_quiet_links : (pc n : ℕ) → All (Leaves_link pc) (enter_long n)
unfolding flow_of
no_quiet_links pc n = three_of (Leaves_link pc) (Frame Below n) (Plain SaveAt) (Plain SetSp) refl refl refl

short_is : (n : ℕ) → 0 < n → nat_le n 240 ≡ true → is_short n ≡ true
short_is n some is = grind (arith, nat_tests)

long_is : (n : ℕ) → n ≤ greatest_total → nat_le n 240 ≡ false → is_long n ≡ true
long_is n most is = grind (arith, nat_tests)

same_total : (n : ℕ) → (n == n) ≡ true
same_total n = (Decides-eqb n n).1 refl

enter_short_rules : (n : ℕ) → n ≤ greatest_total → is_short n ≡ true → Rules (Frame Save n ∷ []) 0 n
enter_short_rules n most short =
    whole linked Fits begins riscv64.shape apart refl (sequence.Saving 1 n) (Frame Save n ∷ []) 0 n (omega arith) (record {
      begins_so = λ rest. begins_save n rest short;
      framed = refl;
      count = refl;
      order = refl;
      adds = omega (arith, ints);
      falls = λ k pc i is. fit_at (Falls pc) (Frame Save n ∷ []) k i (one_of (Falls pc) (Frame Save n) refl) is;
      suits = λ k pc i is. (
        refl,
        fit_at (Leaves_link pc) (Frame Save n ∷ []) k i (one_of (Leaves_link pc) (Frame Save n) (no_quiet_link pc n)) is,
      );
      most_before = omega arith;
      most = omega arith;
    })

enter_long_rules : (n : ℕ) → n ≤ greatest_total → is_long n ≡ true → Rules (enter_long n) 0 n
enter_long_rules n most long =
    whole linked Fits begins riscv64.shape apart refl (sequence.Saving 3 n) (enter_long n) 0 n (omega arith) (record {
      begins_so = λ rest. begins_save_long n rest long;
      framed = refl;
      count = refl;
      order = refl;
      adds = omega (arith, ints);
      falls = λ k pc i is.
          fit_at (Falls pc) (enter_long n) k i (three_of (Falls pc) (Frame Below n) (Plain SaveAt) (Plain SetSp) refl refl refl) is;
      suits = λ k pc i is. (refl, fit_at (Leaves_link pc) (enter_long n) k i (no_quiet_links pc n) is);
      most_before = omega arith;
      most = omega arith;
    })

leave_short_rules : (n : ℕ) → 0 < n → n ≤ greatest_total → is_short n ≡ true → Rules (Frame Load n ∷ []) n 0
leave_short_rules n some most short =
    whole linked Fits begins riscv64.shape apart refl (sequence.Restoring 1 n) (Frame Load n ∷ []) n 0 (omega arith) (record {
      begins_so = λ rest. begins_load n rest short;
      framed = refl;
      count = refl;
      order = same_total n;
      adds = omega (arith, ints);
      falls = λ k pc i is. fit_at (Falls pc) (Frame Load n ∷ []) k i (one_of (Falls pc) (Frame Load n) refl) is;
      suits = λ k pc i is. some;
      most_before = omega arith;
      most = omega arith;
    })

leave_long_rules : (n : ℕ) → 0 < n → n ≤ greatest_total → is_long n ≡ true → Rules (leave_long n) n 0
leave_long_rules n some most long =
    whole linked Fits begins riscv64.shape apart refl (sequence.Restoring 3 n) (leave_long n) n 0 (omega arith) (record {
      begins_so = λ rest. begins_load_long n rest long;
      framed = refl;
      count = refl;
      order = same_total n;
      adds = omega (arith, ints);
      falls = λ k pc i is.
          fit_at (Falls pc) (leave_long n) k i (three_of (Falls pc) (Plain LoadLink) (Frame Above n) (Plain SetSp) refl refl refl) is;
      suits = λ k pc i is. some;
      most_before = omega arith;
      most = omega arith;
    })

enter_rules : (n : ℕ) → n ≤ greatest_total → Rules (entering n) 0 n
enter_rules zero most = no_code
enter_rules (suc m) most =
    elim (nat_le (suc m) 240) as (λ b. nat_le (suc m) 240 ≡ b
    → Rules (if b then Frame Save (suc m) ∷ [] else enter_long (suc m)) 0 (suc m)) [
      | true ↦ (λ is. enter_short_rules (suc m) most (short_is (suc m) (omega arith) is))
      | false ↦ (λ is. enter_long_rules (suc m) most (long_is (suc m) most is))
    ] refl

leave_rules : (n : ℕ) → n ≤ greatest_total → Rules (exiting n) n 0
leave_rules zero most = no_code
leave_rules (suc m) most =
    elim (nat_le (suc m) 240) as (λ b. nat_le (suc m) 240 ≡ b
    → Rules (if b then Frame Load (suc m) ∷ [] else leave_long (suc m)) (suc m) 0) [
      | true ↦ (λ is. leave_short_rules (suc m) (omega arith) most (short_is (suc m) (omega arith) is))
      | false ↦ (λ is. leave_long_rules (suc m) (omega arith) most (long_is (suc m) most is))
    ] refl

pub enters : Enters linked Fits begins riscv64.shape 243 entry
enters frame is = record { none = λ zero_total. ap entering zero_total; keeps = enter_rules frame.total is.most }

pub leaves : Leaves linked Fits begins riscv64.shape 243 exit
leaves frame is = record { none = λ zero_total. ap exiting zero_total; keeps = leave_rules frame.total is.most }

-- the growth sequence
two_far : (d e : ℤ) (x y : Instr) → undirected x ≡ undirected (Far true d) → undirected y ≡ undirected (Far false e)
    → (rest : List Instr) → begins (x ∷ y ∷ rest) ≡ sequence.Growth 2
two_far d e x y first second rest =
    let one = aimed_far true d x first in
    let two = aimed_far false e y second in
    ap (λ (i : Instr). begins (i ∷ y ∷ rest)) one.1 ∙ ap (λ (i : Instr). begins (Far true one.0 ∷ i ∷ rest)) two.1

grown_like : (d e : ℤ) (others : List Instr)
    → map undirected (take 2 others) ≡ undirected (Far true d) ∷ undirected (Far false e) ∷ []
    → begins others ≡ sequence.Growth 2
grown_like d e [] same = absurd (cc)
grown_like d e (x ∷ []) same = absurd (cc)
grown_like d e (x ∷ y ∷ rest) same =
    let first : undirected x ≡ undirected (Far true d) = cc in
    let second : undirected y ≡ undirected (Far false e) = cc in
    two_far d e x y first second rest

growth_count : (m n : ℕ) → sequence.Growth m ≡ sequence.Growth n → m ≡ n
growth_count m n same = cc

anywhere : (count : ℕ) (code others : List Instr) → Kind code → begins code ≡ sequence.Growth count
    → map undirected (take count others) ≡ map undirected (take count code) → begins others ≡ sequence.Growth count
anywhere count code others (none is) grows same = absurd (cc (is, grows))
anywhere count code others (save n rest is short) grows same = absurd (cc (ap begins is ∙ begins_save n rest short, grows))
anywhere count code others (load n rest is short) grows same = absurd (cc (ap begins is ∙ begins_load n rest short, grows))
anywhere count code others (save_long n rest is long) grows same =
    absurd (cc (ap begins is ∙ begins_save_long n rest long, grows))
anywhere count code others (load_long n rest is long) grows same =
    absurd (cc (ap begins is ∙ begins_load_long n rest long, grows))
anywhere count code others (grow d e rest is) grows same =
    let two : 2 ≡ count = growth_count 2 count (sym (ap begins is) ∙ grows) in
    let here = ap (λ (xs : List Instr). map undirected (take 2 xs)) is in
    let alike : map undirected (take 2 others) ≡ map undirected (take 2 code) =
    subst (λ (n : ℕ). map undirected (take n others) ≡ map undirected (take n code)) (sym two) same in
    grown_like d e others (alike ∙ here) ∙ ap sequence.Growth two

pub grows_anywhere : GrowsAnywhere aiming begins
grows_anywhere count code others grows same = anywhere count code others (kind_of code) grows same
