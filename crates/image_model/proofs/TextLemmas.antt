-- The instructions of a text's functions stand apart, so each is found by its address.
use Rattle.std.proofs.Common.{◌≡◌, ℕ, zero, suc, ◌+◌, ◌-◌, ◌<◌, ◌≤◌, ◌==◌, ◌&&◌, ◌⊎◌, Bool, true, false, Some, refl, sym, ap, ◌∙◌, subst, arith, inl, inr}
use Rattle.std.proofs.lemmas.Bool.{cases_order}
use Rattle.std.proofs.lemmas.Bool.Decides.{nat_tests, Decides-eqb}
use Rattle.std.specs.Option.{option_map}
use Rattle.asm_target.specs.FlowFunction.{is_within}
use Rattle.asm_target.specs.FlowRules.{IsFlowSound}
use Rattle.image_model.specs.Image.{Line, is_served}
use Rattle.image_model.specs.Joined.{AreFlowSound, Code, IsCallOf, IsInRow, IsLineOf, IsMachine, IsSoundFunction, IsText, Text, call_behind, joined, line_of, only_if, position}
use Rattle.image_model.specs.Soundness.{IsSound, IsSoundLine}
use Rattle.image_model.proofs.FindLemmas.{finds, map_some, only_here, only_some, some_is}
use Rattle.image_model.proofs.RuleLemmas.{first_depth}
use Rattle.image_model.proofs.WayLemmas.{Stands, sound_function}

both_on : (one other : Bool) → one ≡ true → other ≡ true → (one && other) ≡ true
both_on true other first second = second
both_on false other first second = absurd (cc)

first_of : (one other : Bool) → (one && other) ≡ true → one ≡ true
first_of true other is = refl
first_of false other is = absurd (cc)

second_of : (one other : Bool) → (one && other) ≡ true → other ≡ true
second_of true other is = is
second_of false other is = absurd (cc)

within_by : (first past at : ℕ) → first ≤ at → at < past → is_within (record { first = first; past = past }) at ≡ true
within_by first past at low high = grind (arith, nat_tests)

module _ (code : Code) (row : IsInRow code) where
  -- an instruction ends before a later one begins
  ahead : (k n : ℕ) → k + suc n < code.rules.count → (code.placed k).past ≤ code.rules.at (k + suc n)
  ahead k zero inside =
      let next : k + 1 ≡ suc k = omega arith in
      let follows = row.follows k (omega arith) in
      subst (λ (p : ℕ). (code.placed k).past ≤ code.rules.at p) (sym next) (omega (arith, follows))
  ahead k (suc n) inside =
      let before = ahead k n (omega arith) in
      let long = row.long (k + suc n) (omega arith) in
      let next : k + suc (suc n) ≡ suc (k + suc n) = omega arith in
      let follows = row.follows (k + suc n) (omega arith) in
      subst (λ (p : ℕ). (code.placed k).past ≤ code.rules.at p) (sym next) (omega arith)

  pub later : (k j : ℕ) → k < j → j < code.rules.count → (code.placed k).past ≤ code.rules.at j
  later k j less inside =
      let same : k + suc (j - suc k) ≡ j = omega arith in
      subst (λ (p : ℕ). (code.placed k).past ≤ code.rules.at p) same (ahead k (j - suc k) (omega arith))

  pub from : (k : ℕ) → k < code.rules.count → code.rules.own.first ≤ code.rules.at k
  from zero inside = omega (arith, row.first)
  from (suc k) inside =
      let after = later 0 (suc k) (omega arith) inside in
      let long = row.long 0 (omega arith) in
      omega (arith, row.first)

  pub upto : (k : ℕ) → k < code.rules.count → (code.placed k).past ≤ code.rules.own.past
  upto k inside =
      elim (cases_order (suc k) code.rules.count) as (λ _. (code.placed k).past ≤ code.rules.own.past) [
        | inl last ↦ omega (arith, row.past k last)
        | inr (inr over) ↦ absurd (omega arith)
        | inr (inl less) ↦
            (let last : ℕ = code.rules.count - 1 in
            let end : suc last ≡ code.rules.count = omega arith in
            let after = later k last (omega arith) (omega arith) in
            let long = row.long last (omega arith) in
            let past = row.past last end in
            omega arith)
      ]

module _ (text : Text) (is : IsText text) where
  abbrev at : ℕ → ℕ → ℕ
  at i k = (text.code i).rules.at k

  abbrev past : ℕ → ℕ → ℕ
  past i k = ((text.code i).placed k).past

  abbrev size : ℕ → ℕ
  size i = (text.code i).rules.count

  -- a function's instructions end before those of a later one begin
  before : (i j k m : ℕ) → i < j → j < text.count → k < size i → m < size j → past i k ≤ at j m
  before i j k m less inside first second =
      let end = upto (text.code i) (is.row i (omega arith)) k first in
      let start = from (text.code j) (is.row j inside) m second in
      let between = is.apart i j less inside in
      omega arith

  -- two instructions are one, or one ends before the other begins
  apart : (i j k m : ℕ) → i < text.count → j < text.count → k < size i → m < size j
      → ((i ≡ j) × (k ≡ m)) ⊎ ((past i k ≤ at j m) ⊎ (past j m ≤ at i k))
  apart i j k m one other first second =
      elim (cases_order i j) as (λ _. ((i ≡ j) × (k ≡ m)) ⊎ ((past i k ≤ at j m) ⊎ (past j m ≤ at i k))) [
        | inr (inl less) ↦ inr (inl (before i j k m less other first second))
        | inr (inr more) ↦ inr (inr (before j i m k more one second first))
        | inl same ↦
            (let inside : m < size i = subst (λ (p : ℕ). m < size p) (sym same) second in
            elim (cases_order k m) as (λ _. ((i ≡ j) × (k ≡ m)) ⊎ ((past i k ≤ at j m) ⊎ (past j m ≤ at i k))) [
              | inl equal ↦ inl (same, equal)
              | inr (inl less) ↦
                  inr (inl (subst (λ (p : ℕ). past i k ≤ at p m) same (later (text.code i) (is.row i one) k m less inside)))
              | inr (inr more) ↦
                  inr (inr (subst (λ (p : ℕ). past p m ≤ at i k) same (later (text.code i) (is.row i one) m k more first)))
            ])
      ]

  same_at : (i j k m : ℕ) → i < text.count → j < text.count → k < size i → m < size j → at i k ≡ at j m → (i ≡ j) × (k ≡ m)
  same_at i j k m one other first second same =
      let long = (is.row i one).long k first in
      let long' = (is.row j other).long m second in
      elim (apart i j k m one other first second) as (λ _. (i ≡ j) × (k ≡ m)) [
        | inl equal ↦ equal
        | inr (inl less) ↦ absurd (omega arith)
        | inr (inr more) ↦ absurd (omega arith)
      ]

  same_past : (i j k m : ℕ) → i < text.count → j < text.count → k < size i → m < size j → past i k ≡ past j m
      → (i ≡ j) × (k ≡ m)
  same_past i j k m one other first second same =
      let long = (is.row i one).long k first in
      let long' = (is.row j other).long m second in
      elim (apart i j k m one other first second) as (λ _. (i ≡ j) × (k ≡ m)) [
        | inl equal ↦ equal
        | inr (inl less) ↦ absurd (omega arith)
        | inr (inr more) ↦ absurd (omega arith)
      ]

  -- an instruction's position is found by its address
  position_is : (i m address : ℕ) → position (text.code i) address ≡ Some m → (m < size i) × (at i m ≡ address)
  position_is i m address found =
      let there = some_is (λ k. only_if (at i k == address) k) (size i) m found in
      let only = only_some (at i there.0 == address) there.0 m there.2 in
      let same : there.0 ≡ m = only.1 in (
        subst (λ (p : ℕ). p < size i) same there.1,
        subst (λ (p : ℕ). at i p ≡ address) same ((Decides-eqb (at i there.0) address).0 only.0),
      )

  position_here : (i k : ℕ) → i < text.count → k < size i → position (text.code i) (at i k) ≡ Some k
  position_here i k one inside =
      finds (λ j. only_if (at i j == at i k) j) (size i) k k inside
      (only_here (at i k == at i k) k ((Decides-eqb (at i k) (at i k)).1 refl)) (λ j y less found.
      let only = only_some (at i j == at i k) j y found in
      let same = same_at i i j k one one less inside ((Decides-eqb (at i j) (at i k)).0 only.0) in
      sym only.1 ∙ same.1)

  -- and so is its line
  line_is : (i : ℕ) (line : Line) (address : ℕ) → option_map (line_of (text.code i)) (position (text.code i) address) ≡ Some line
      → (k : ℕ) × (k < size i) × (at i k ≡ address) × (line_of (text.code i) k ≡ line)
  line_is i line address found =
      let there = map_some (line_of (text.code i)) (position (text.code i) address) line found in
      let stands = position_is i there.0 address there.1 in
      (there.0, stands.0, stands.1, there.2)

  pub line_here : (i k : ℕ) → i < text.count → k < size i → (joined text).line_at (at i k) ≡ Some (line_of (text.code i) k)
  line_here i k one inside =
      finds (λ j. option_map (line_of (text.code j)) (position (text.code j) (at i k))) text.count i (line_of (text.code i) k) one
      (ap (option_map (line_of (text.code i))) (position_here i k one inside)) (λ j line other found.
      let there = line_is j line (at i k) found in
      let same = same_at j i there.0 k other one there.1 inside there.2 in
      sym there.3 ∙ ap (λ (p : ℕ). line_of (text.code p) there.0) same.0 ∙ ap (line_of (text.code i)) same.1)

  -- the end of a call tells its place
  call_is : (i address place : ℕ) → call_behind (text.code i) text.is_growth_routine address ≡ Some place
      → (k : ℕ) × (k < size i) × (past i k ≡ address) × (at i k ≡ place)
      × (is_served text.is_growth_routine ((text.code i).placed k).effect.next ≡ true)
  call_is i address place found =
      let there = some_is (λ k. only_if (is_served text.is_growth_routine ((text.code i).placed k).effect.next && (past i k == address)) (at i k))
      (size i) place found in
      let only = only_some (is_served text.is_growth_routine ((text.code i).placed there.0).effect.next && (past i there.0 == address)) (at i there.0) place there.2 in
      let ends : (past i there.0 == address) ≡ true = second_of _ _ only.0 in
      (there.0, there.1, (Decides-eqb (past i there.0) address).0 ends, only.1, first_of _ _ only.0)

  pub call_here : (i k : ℕ) → i < text.count → k < size i
      → is_served text.is_growth_routine ((text.code i).placed k).effect.next ≡ true
      → (joined text).after_call (past i k) ≡ Some (at i k)
  call_here i k one inside served =
      finds (λ j. call_behind (text.code j) text.is_growth_routine (past i k)) text.count i (at i k) one
      (finds (λ j. only_if (is_served text.is_growth_routine ((text.code i).placed j).effect.next && (past i j == past i k)) (at i j))
      (size i) k (at i k) inside (only_here _ (at i k) (both_on _ _ served ((Decides-eqb (past i k) (past i k)).1 refl)))
      (λ j y less found.
      let only = only_some (is_served text.is_growth_routine ((text.code i).placed j).effect.next && (past i j == past i k)) (at i j) y found in
      let ends : (past i j == past i k) ≡ true = second_of _ _ only.0 in
      let same = same_past i i j k one one less inside ((Decides-eqb (past i j) (past i k)).0 ends) in
      sym only.1 ∙ ap (at i) same.1))
      (λ j place other found.
      let there = call_is j (past i k) place found in
      let same = same_past j i there.0 k other one there.1 inside there.2 in
      sym there.3 ∙ ap (λ (p : ℕ). at p there.0) same.0 ∙ ap (at i) same.1)

  own_entry : (i goal : ℕ) → i < text.count → text.is_entry goal ≡ true → is_within (text.code i).rules.own goal ≡ true
      → goal ≡ at i 0
  own_entry i goal one entry own =
      let there = is.entries goal entry in
      let j : ℕ = there.0 in
      let other : j < text.count = there.1 in
      let starts : goal ≡ at j 0 = there.2 in
      let row = is.row j other in
      let long = row.long 0 row.some in
      let end = upto (text.code j) row 0 row.some in
      let first = row.first in
      let low : (text.code i).rules.own.first ≤ goal = grind (arith, nat_tests) in
      let high : goal < (text.code i).rules.own.past = grind (arith, nat_tests) in
      elim (cases_order i j) as (λ _. goal ≡ at i 0) [
        | inl same ↦ starts ∙ ap (λ (p : ℕ). at p 0) (sym same)
        | inr (inl less) ↦ absurd (omega (arith, is.apart i j less other))
        | inr (inr more) ↦ absurd (omega (arith, is.apart j i more one))
      ]

  own_inside : (i goal : ℕ) → i < text.count → is_within (text.code i).rules.own goal ≡ true → is_within text.range goal ≡ true
  own_inside i goal one own =
      let low = is.low i one in
      let high = is.high i one in
      let first : (text.code i).rules.own.first ≤ goal = grind (arith, nat_tests) in
      let end : goal < (text.code i).rules.own.past = grind (arith, nat_tests) in
      within_by text.range.first text.range.past goal (omega arith) (omega arith)

  pub stands : (i : ℕ) → i < text.count → Stands text (text.code i)
  stands i one = record {
    line = λ k inside. line_here i k one inside;
    entry = λ goal entry own. own_entry i goal one entry own;
    own = λ goal own. own_inside i goal one own;
    served = λ k inside served. call_here i k one inside served;
  }

  pub functions_sound : IsMachine text → (i : ℕ) → i < text.count → IsFlowSound (text.code i).rules
      → IsSoundFunction (joined text) (text.code i)
  functions_sound machine i one sound =
      sound_function text (text.code i) (is.row i one) (is.told i one) (machine.code i one) sound (stands i one)

  -- what stands at an address is an instruction of a function
  pub line_found : (address : ℕ) (line : Line) → (joined text).line_at address ≡ Some line → IsLineOf text address line
  line_found address line found =
      let there = some_is (λ i. option_map (line_of (text.code i)) (position (text.code i) address)) text.count line found in
      let k = line_is there.0 line address there.2 in
      record { function = there.0; known = there.1; position = k.0; inside = k.1; at = k.2; line_is = k.3 }

  pub call_found : (address place : ℕ) → (joined text).after_call address ≡ Some place → IsCallOf text address place
  call_found address place found =
      let there = some_is (λ i. call_behind (text.code i) text.is_growth_routine address) text.count place found in
      let k = call_is there.0 address place there.2 in
      record {
        function = there.0;
        known = there.1;
        position = k.0;
        inside = k.1;
        past = k.2;
        at = k.3;
        served = k.4;
      }

  pub joined_sound : IsMachine text → AreFlowSound text → IsSound (joined text)
  joined_sound machine sound = record {
    registers = machine.registers;
    lines = λ address line found.
        let there = line_found address line found in
        let function = functions_sound machine there.function there.known (sound there.function there.known) in
        subst (λ (a : ℕ). IsSoundLine (joined text) a line) there.at
        (subst (λ (l : Line). IsSoundLine (joined text) (at there.function there.position) l) there.line_is
        (function.lines there.position there.inside));
    inside = λ address line found.
        let there = line_found address line found in
        let i : ℕ = there.function in
        let k : ℕ = there.position in
        let row = is.row i there.known in
        let low = from (text.code i) row k there.inside in
        let high = upto (text.code i) row k there.inside in
        let long = row.long k there.inside in
        own_inside i address there.known (within_by (text.code i).rules.own.first (text.code i).rules.own.past address
        (omega (arith, there.at)) (omega (arith, there.at)));
    low = λ address line found.
        let there = line_found address line found in
        let row = is.row there.function there.known in
        let long = row.long there.position there.inside in
        let room = row.room there.position there.inside in
        omega (arith, there.at);
    known = λ address line found.
        let there = line_found address line found in
        subst (λ (l : Line). text.is_entry l.entry ≡ true) there.line_is (is.entry there.function there.known);
    entries = λ address entry.
        let there = is.entries address entry in
        let row = is.row there.0 there.1 in
        let starts : address ≡ at there.0 0 = there.2 in (
          line_of (text.code there.0) 0,
          subst (λ (a : ℕ). (joined text).line_at a ≡ Some (line_of (text.code there.0) 0)) (sym starts)
              (line_here there.0 0 there.1 row.some),
          record {
            entry = sym starts;
            depth = first_depth (text.code there.0).rules (sound there.0 there.1) row.some;
            index = omega arith;
          },
        );
    growth = is.growth;
  }
