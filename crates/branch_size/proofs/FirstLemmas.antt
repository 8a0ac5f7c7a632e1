-- The table of the first lines of statements.
use Rattle.std.proofs.Common.{◌≡◌, ℕ, ◌+◌, ◌<◌, ◌≤◌, max, Bool, true, false, nat_le, List, Option, Some, None, length, get_or, sym, ◌∙◌, ap, inl, inr, arith}
use Rattle.std.specs.Prelude.{position}
use Rattle.std.specs.List.{slice_get}
use Rattle.std.proofs.lemmas.Bool.{cases_lt}
use Rattle.std.proofs.lemmas.Bool.Decides.{nat_tests}
use Rattle.std.proofs.lemmas.List.Sums.{position_or_len_is}
use Rattle.std.proofs.lemmas.Option.{slice_get_within, get_or_from_slice_get, slice_get-get_or, slice_get_past, slice_get_cases}
use Rattle.asm_target.specs.declared.body.Line.{Line}
use Rattle.asm_target.specs.Goals.{stands_from, reaches_stmt}

-- the first that passes
position_at : {X : Type 0} (p : X → Bool) (xs : List X) (i : ℕ) (x : X) → slice_get xs i ≡ Some x → p x ≡ true
    → ((j : ℕ) (y : X) → j < i → slice_get xs j ≡ Some y → p y ≡ false) → position p xs ≡ Some i
position_at p xs i x is passes before =
    let within = slice_get_within xs i x is in
    let here : p (get_or xs i x) ≡ true = ap p (get_or_from_slice_get xs i x x is) ∙ passes in
    let found = position_or_len_is p xs i x (omega arith)
    (λ k less. before k (get_or xs k x) less (slice_get-get_or xs k x (omega arith))) (λ inside. here) in
    rw found (grind (arith, nat_tests))

-- none passes
position_none : {X : Type 0} (p : X → Bool) (xs : List X) → ((j : ℕ) (y : X) → slice_get xs j ≡ Some y → p y ≡ false)
    → position p xs ≡ None
position_none {X} p xs fails = elim (slice_get_cases xs 0).1 [
  | inl some ↦
      let found = position_or_len_is p xs (length xs) some.0 (omega arith)
      (λ k less. fails k (get_or xs k some.0) (slice_get-get_or xs k some.0 less)) (λ inside. absurd (omega arith)) in
      rw found (grind (arith, nat_tests))
  | inr none ↦ let empty = none.0 in grind (arith, nat_tests)
]

-- the statement of a line, where there is one
abbrev some_stmt : {Instr : Type 0} → ℕ → Option (Line Instr) → Option ℕ
some_stmt other None = Some other
some_stmt other (Some item) = item.stmt

-- how far the table has come
pub record FirstsSoFar {Instr : Type 0} (code : List (Line Instr)) (firsts : List ℕ) (count line : ℕ) : Type 0 where
  pub found : (k : ℕ) → k < count → position (stands_from k) code ≡ Some (get_or firsts k 0)
  pub none : (k j : ℕ) (item : Line Instr) → count ≤ k → j < line → slice_get code j ≡ Some item
      → stands_from k item ≡ false

-- the numbers that a statement adds
pub first_some : {Instr : Type 0} (code : List (Line Instr)) (firsts more : List ℕ) (count longer line : ℕ) (item : Line Instr)
    (stmt : ℕ) → FirstsSoFar code firsts count line → slice_get code line ≡ Some item → item.stmt ≡ Some stmt
    → longer ≡ max count (stmt + 1) → ((k : ℕ) → k < count → get_or more k 0 ≡ get_or firsts k 0)
    → ((k : ℕ) → count ≤ k → k < longer → get_or more k 0 ≡ line) → FirstsSoFar code more longer (line + 1)
first_some code firsts more count longer line item stmt so_far is has len kept filled = record {
  found = λ k below. elim (cases_lt k count) [
    | inl old ↦ so_far.found k old ∙ ap Some (sym (kept k old))
    | inr new ↦
        let reach : nat_le k stmt ≡ true = grind (arith, nat_tests) in
        let passes : stands_from k item ≡ true = ap (reaches_stmt k) has ∙ reach in
        position_at (stands_from k) code line item is passes (λ j other less at. so_far.none k j other new less at)
        ∙ ap Some (sym (filled k new below))
  ];
  none = λ k j other past less at. elim (cases_lt j line) [
    | inl before ↦ so_far.none k j other (omega arith) before at
    | inr here ↦
        let same : j ≡ line = omega arith in
        let item_is : Some other ≡ Some item = sym at ∙ ap (slice_get code) same ∙ is in
        let stmt_is : other.stmt ≡ Some stmt = ap (some_stmt stmt) item_is ∙ has in
        let miss : nat_le k stmt ≡ false = grind (arith, nat_tests) in
        ap (reaches_stmt k) stmt_is ∙ miss
  ];
}

-- a line without a statement adds none
pub first_none : {Instr : Type 0} (code : List (Line Instr)) (firsts : List ℕ) (count line : ℕ) (item : Line Instr)
    → FirstsSoFar code firsts count line → slice_get code line ≡ Some item → item.stmt ≡ None
    → FirstsSoFar code firsts count (line + 1)
first_none code firsts count line item so_far is has = record {
  found = so_far.found;
  none = λ k j other past less at. elim (cases_lt j line) [
    | inl before ↦ so_far.none k j other past before at
    | inr here ↦
        let same : j ≡ line = omega arith in
        let item_is : Some other ≡ Some item = sym at ∙ ap (slice_get code) same ∙ is in
        ap (reaches_stmt k) (ap (some_stmt 0) item_is ∙ has)
  ];
}

-- the whole table
pub all_firsts : {Instr : Type 0} (code : List (Line Instr)) (firsts : List ℕ) (count line : ℕ) → length code ≤ line
    → count ≡ length firsts → FirstsSoFar code firsts count line → (k : ℕ) → slice_get firsts k ≡ position (stands_from k) code
all_firsts code firsts count line whole len so_far k = elim (cases_lt k (length firsts)) [
  | inl inside ↦ slice_get-get_or firsts k 0 inside ∙ sym (so_far.found k (omega arith))
  | inr past ↦ slice_get_past firsts k past ∙ sym (position_none (stands_from k) code (λ j item at.
      let within = slice_get_within code j item at in so_far.none k j item (omega arith) (omega arith) at))
]
