-- What is found among functions, as what is found in the instructions of one.
use Rattle.std.proofs.Common.{◌≡◌, ℕ, zero, suc, ◌+◌, ◌==◌, ◌||◌, ◌&&◌, Bool, true, false, List, [], ◌∷◌, length, Option, Some, None, is_some, cond, refl, sym, ap, ◌∙◌, subst, arith}
use Rattle.std.specs.List.{find, list_any, slice_get}
use Rattle.std.specs.Option.{option_or}
use Rattle.asm_target.specs.declared.body.Placed.{Placed}
use Rattle.asm_target.specs.InstructionSet.{InstructionSet}
use Rattle.elf_image.specs.Contents.{text_address}
use Rattle.flow_rules.specs.Placing.{Surroundings, is_listed, place_of}
use Rattle.image_check.specs.Marks.{MarkFirst, begins_at, call_among, call_ends_at}
use Rattle.image_check.specs.Readers.{instr_among, instr_of}
use Rattle.image_marks.specs.Bits.{has}
use Rattle.image_model.specs.Image.{is_served}
use Rattle.image_model.specs.Joined.{call_behind, only_if, some_below}
use Rattle.image_model.specs.Listed.{Listed, code_of, placed_there}
use Rattle.image_rules.specs.Functions.{IsFunction}
use Rattle.image_rules.specs.Machine.{Machine}

some_or : {A : Type 0} (one other : Option A) → is_some (option_or one other) ≡ (is_some one || is_some other)
some_or (Some x) other = refl
some_or None other = refl

or_swap : (a b : Bool) → (a || b) ≡ (b || a)
or_swap true true = refl
or_swap true false = refl
or_swap false true = refl
or_swap false false = refl

or_in_front : (a b c : Bool) → (a || (b || c)) ≡ (b || (a || c))
or_in_front true true c = refl
or_in_front true false c = refl
or_in_front false true c = refl
or_in_front false false c = refl

only_tests : {A : Type 0} (test : Bool) (x : A) → is_some (only_if test x) ≡ test
only_tests true x = refl
only_tests false x = refl

find_tests : {A : Type 0} (test : A → Bool) (xs : List A) → is_some (find test xs) ≡ list_any test xs
find_tests test [] = refl
find_tests test (x ∷ xs) =
    elim (test x) as (λ b. is_some (cond b (Some x) (find test xs)) ≡ (b || list_any test xs)) [
      | true ↦ refl
      | false ↦ find_tests test xs
    ]

-- what is found at the first number counts like what is found at the others
shifted : {A : Type 0} (find : ℕ → Option A) (n : ℕ)
    → is_some (some_below find (suc n)) ≡ (is_some (find 0) || is_some (some_below (λ k. find (suc k)) n))
shifted find zero = some_or (find 0) None
shifted find (suc n) =
    some_or (find (suc n)) (some_below find (suc n))
    ∙ ap (λ b. is_some (find (suc n)) || b) (shifted find n)
    ∙ or_in_front (is_some (find (suc n))) (is_some (find 0)) (is_some (some_below (λ k. find (suc k)) n))
    ∙ ap (λ b. is_some (find 0) || b) (sym (some_or (find (suc n)) (some_below (λ k. find (suc k)) n)))

module _ {Instr : Type 0} (set : InstructionSet Instr) (routines : List ℕ) (past : ℕ) where
  -- the place of the instruction at a position, if it is such a call
  abbrev call_at : List (Placed Instr) → ℕ → Option ℕ
  call_at code k =
      only_if (is_served (is_listed routines) (placed_there set (slice_get code k)).effect.next && ((placed_there set (slice_get code k)).past == past))
      (place_of (slice_get code k))

  pub calls_test : (code : List (Placed Instr)) → is_some (some_below (call_at code) (length code)) ≡ list_any (call_ends_at set routines past) code
  calls_test [] = refl
  calls_test (one ∷ code) =
      shifted (call_at (one ∷ code)) (length code)
      ∙ ap (λ b. b || is_some (some_below (call_at code) (length code))) (only_tests (call_ends_at set routines past one) one.at)
      ∙ ap (λ b. call_ends_at set routines past one || b) (calls_test code)

module _ {Instr : Type 0} (machine : Machine Instr) (bytes : List ℕ) (around : Surroundings) (index : ℕ) (listed : Listed Instr) where
  instr_tests : (functions : ℕ → Listed Instr) (address : ℕ) → functions index ≡ listed
      → is_some (instr_among functions (suc index) address) ≡ (is_some (instr_among functions index address) || list_any (begins_at address) listed.code)
  instr_tests functions address same =
      some_or (instr_of address (functions index)) (instr_among functions index address)
      ∙ or_swap (is_some (instr_of address (functions index))) (is_some (instr_among functions index address))
      ∙ ap (λ b. is_some (instr_among functions index address) || b)
      (find_tests (begins_at address) (functions index).code
      ∙ ap (λ (function : Listed Instr). list_any (begins_at address) function.code) same)

  call_tests : (functions : ℕ → Listed Instr) (past : ℕ) → functions index ≡ listed
      → is_some (call_among machine bytes around functions (suc index) past)
      ≡ (is_some (call_among machine bytes around functions index past) || list_any (call_ends_at machine.set around.growth past) listed.code)
  call_tests functions past same =
      let here : Option ℕ = call_behind (code_of machine.set machine.shape machine.begins around (functions index)) (is_listed around.growth) past in
      some_or here (call_among machine bytes around functions index past)
      ∙ or_swap (is_some here) (is_some (call_among machine bytes around functions index past))
      ∙ ap (λ b. is_some (call_among machine bytes around functions index past) || b)
      (calls_test machine.set around.growth past (functions index).code
      ∙ ap (λ (function : Listed Instr). list_any (call_ends_at machine.set around.growth past) function.code) same)

  -- the marks of one function more
  pub marks_on : (starts ends more_starts more_ends : List ℕ)
      → ((other : Listed Instr) → IsFunction machine bytes index other → other ≡ listed)
      → MarkFirst machine bytes around index starts ends
      → ((offset : ℕ) → has more_starts offset ≡ (has starts offset || list_any (begins_at (text_address + offset)) listed.code))
      → ((offset : ℕ) → has more_ends offset
      ≡ (has ends offset || list_any (call_ends_at machine.set around.growth (text_address + offset)) listed.code))
      → MarkFirst machine bytes around (index + 1) more_starts more_ends
  marks_on starts ends more_starts more_ends one marked start end =
      let next : suc index ≡ index + 1 = omega arith in
      subst (λ (count : ℕ). MarkFirst machine bytes around count more_starts more_ends) next (λ functions are.
      let before = marked functions (λ i less. are i (omega arith)) in
      let same : functions index ≡ listed = one (functions index) (are index (omega arith)) in
      record {
        begun = λ offset.
            start offset ∙ ap (λ b. b || list_any (begins_at (text_address + offset)) listed.code) (before.begun offset)
            ∙ sym (instr_tests functions (text_address + offset) same);
        ended = λ offset.
            end offset ∙ ap (λ b. b || list_any (call_ends_at machine.set around.growth (text_address + offset)) listed.code) (before.ended offset)
            ∙ sym (call_tests functions (text_address + offset) same);
      })
