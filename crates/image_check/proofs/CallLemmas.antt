-- The call that ends at an address begins at the nearest instruction before it.
use Rattle.std.proofs.Common.{◌≡◌, ℕ, zero, suc, ◌+◌, ◌-◌, ◌≤◌, ◌<◌, Bool, true, false, List, [], ◌∷◌, length, Option, Some, None, is_some, cond, refl, sym, ap, ◌∙◌, subst, arith, inl, inr, eq-eqb}
use Rattle.std.specs.List.{find, slice_get}
use Rattle.std.specs.Option.{option_or}
use Rattle.std.proofs.lemmas.Bool.{cases_order, eqb-true}
use Rattle.asm_target.specs.Laws.{HasLengths}
use Rattle.asm_target.proofs.PlaceLemmas.{fit_at, item_at}
use Rattle.elf_image.specs.Contents.{text_address}
use Rattle.flow_rules.specs.Placing.{Surroundings, place_of}
use Rattle.image_check.specs.Marks.{MarkAll, begins_at, call_among}
use Rattle.image_check.specs.Readers.{instr_among, instr_of}
use Rattle.image_check.proofs.ReadLemmas.{none_of, some_of}
use Rattle.image_marks.specs.Bits.{IsNearest, has}
use Rattle.image_model.specs.Joined.{IsText, Text, some_below}
use Rattle.image_model.specs.Listed.{AreSpelled, Listed, placed_there, text_of}
use Rattle.image_model.proofs.FindLemmas.{some_is}
use Rattle.image_model.proofs.TextLemmas.{call_found, from, later, upto}
use Rattle.image_rules.specs.Machine.{Machine}

-- where something is found at a number, something is found below a greater one
some_there : {A : Type 0} (find : ℕ → Option A) (n k : ℕ) → k < n → is_some (find k) ≡ true → is_some (some_below find n) ≡ true
some_there find zero k less is = absurd (omega arith)
some_there {A} find (suc n) k less is =
    elim (find n) as (λ (o : Option A). find n ≡ o → is_some (option_or o (some_below find n)) ≡ true) [
      | Some x ↦ (λ found. refl)
      | None ↦ (λ none.
          elim (cases_order k n) as (λ _. is_some (some_below find n) ≡ true) [
            | inl same ↦ (let found = ap find same ∙ none in absurd (cc (is, ap is_some found)))
            | inr (inl under) ↦ some_there find n k under is
            | inr (inr over) ↦ absurd (omega arith)
          ])
    ] refl

find_there : {A : Type 0} (test : A → Bool) (xs : List A) (k : ℕ) (x : A) → slice_get xs k ≡ Some x → test x ≡ true
    → is_some (find test xs) ≡ true
find_there test [] k x there is = absurd (cc)
find_there {A} test (y ∷ xs) zero x there is =
    let same : y ≡ x = cc in
    let here : test y ≡ true = ap test same ∙ is in
    ap (λ b. is_some (cond b (Some y) (find test xs))) here
find_there {A} test (y ∷ xs) (suc k) x there is =
    elim (test y) as (λ b. is_some (cond b (Some y) (find test xs)) ≡ true) [
      | true ↦ refl
      | false ↦ find_there test xs k x there is
    ]

find_place : {A : Type 0} (test : A → Bool) (xs : List A) (x : A) → find test xs ≡ Some x
    → (k : ℕ) × (k < length xs) × (slice_get xs k ≡ Some x) × (test x ≡ true)
find_place test [] x found = absurd (cc)
find_place {A} test (y ∷ xs) x found =
    elim (test y) as (λ b. test y ≡ b → cond b (Some y) (find test xs) ≡ Some x
    → (k : ℕ) × (k < suc (length xs)) × (slice_get (y ∷ xs) k ≡ Some x) × (test x ≡ true)) [
      | true ↦ (λ here is. let same : y ≡ x = cc in (0, omega arith, is, sym (ap test same) ∙ here))
      | false ↦ (λ none is. let there = find_place test xs x is in (suc there.0, omega (arith, there.1), there.2, there.3))
    ] refl found

module _ (text : Text) (is : IsText text) where
  -- no instruction begins amid another
  none_amid : (i j k m : ℕ) → i < text.count → j < text.count → k < (text.code i).rules.count → m < (text.code j).rules.count
      → (text.code i).rules.at k < (text.code j).rules.at m → ((text.code i).placed k).past ≤ (text.code j).rules.at m
  none_amid i j k m one other first second before =
      elim (cases_order i j) as (λ _. ((text.code i).placed k).past ≤ (text.code j).rules.at m) [
        | inr (inl less) ↦
            (let end = upto (text.code i) (is.row i one) k first in
            let start = from (text.code j) (is.row j other) m second in
            let between = is.apart i j less other in
            omega arith)
        | inr (inr more) ↦
            (let end = upto (text.code j) (is.row j other) m second in
            let start = from (text.code i) (is.row i one) k first in
            let between = is.apart j i more one in
            let long = (is.row j other).long m second in
            absurd (omega arith))
        | inl same ↦ in_one m (subst (λ (p : ℕ). m < (text.code p).rules.count) (sym same) second)
            (subst (λ (p : ℕ). (text.code i).rules.at k < (text.code p).rules.at m) (sym same) before) same
      ]
    where
      in_one : (n : ℕ) → n < (text.code i).rules.count → (text.code i).rules.at k < (text.code i).rules.at n → i ≡ j
          → ((text.code i).placed k).past ≤ (text.code j).rules.at n
      in_one n inside ahead same =
          subst (λ (p : ℕ). ((text.code i).placed k).past ≤ (text.code p).rules.at n) same
          (elim (cases_order k n) as (λ _. ((text.code i).placed k).past ≤ (text.code i).rules.at n) [
            | inl equal ↦ (let here = ap (text.code i).rules.at equal in absurd (omega arith))
            | inr (inl less) ↦ later (text.code i) (is.row i one) k n less inside
            | inr (inr more) ↦
                (let end = later (text.code i) (is.row i one) n k more first in
                let long = (is.row i one).long n inside in
                absurd (omega arith))
          ])

module _ {Instr : Type 0} (machine : Machine Instr) (lengths : HasLengths machine.set machine.fits machine.quantum) (bytes : List ℕ)
    (around : Surroundings) (count : ℕ) (functions : ℕ → Listed Instr) where
  abbrev text : Text
  text = text_of machine.set machine.shape machine.growth machine.begins around count functions

  module _ (spelled : (i : ℕ) → i < count → AreSpelled machine.set machine.fits (functions i).code) (is : IsText text)
      (low : around.text.first ≡ text_address) (starts ends : List ℕ) (marks : MarkAll machine bytes around functions count starts ends) where
    starts_low : (i k : ℕ) → i < count → k < length (functions i).code → text_address ≤ place_of (slice_get (functions i).code k)
    starts_low i k one inside =
        let first = from (text.code i) (is.row i one) k inside in
        let least = is.low i one in
        omega arith

    -- an instruction has a mark
    marked_start : (i k number : ℕ) → i < count → k < length (functions i).code
        → place_of (slice_get (functions i).code k) ≡ text_address + number → has starts number ≡ true
    marked_start i k number one inside place =
        let here = item_at (functions i).code k inside in
        let at : here.0.at ≡ text_address + number = sym (ap place_of here.1) ∙ place in
        marks.begun number
        ∙ some_there (λ index. instr_of (text_address + number) (functions index)) count i one
        (find_there (begins_at (text_address + number)) (functions i).code k here.0 here.1 (eq-eqb here.0.at (text_address + number) at))

    -- a mark is one of an instruction
    start_marked : (number : ℕ) → has starts number ≡ true
        → (i : ℕ) × (k : ℕ) × (i < count) × (k < length (functions i).code)
        × (place_of (slice_get (functions i).code k) ≡ text_address + number)
    start_marked number marked =
        let some = some_of (instr_among functions count (text_address + number)) (sym (marks.begun number) ∙ marked) in
        let there = some_is (λ index. instr_of (text_address + number) (functions index)) count some.0 some.1 in
        let place = find_place (begins_at (text_address + number)) (functions there.0).code some.0 there.2 in
        (there.0, place.0, there.1, place.1, ap place_of place.2 ∙ eqb-true some.0.at (text_address + number) place.3)

    past_near : (i k : ℕ) → i < count → k < length (functions i).code
        → ((text.code i).placed k).past ≤ (text.code i).rules.at k + 15
    past_near i k one inside =
        let here = item_at (functions i).code k inside in
        let spelling = fit_at (λ item. machine.fits item.instr × (item.len ≡ length (machine.set.spelling item.instr))) (functions i).code k here.0
        (spelled i one) here.1 in
        let most = (lengths here.0.instr spelling.0).most in
        let size = spelling.1 in
        let end : ((text.code i).placed k).past ≡ here.0.at + here.0.len = ap (λ found. (placed_there machine.set found).past) here.1 in
        let start : (text.code i).rules.at k ≡ here.0.at = ap place_of here.1 in
        omega arith

    pub call_start : (pc offset place : ℕ) → pc ≡ text_address + offset → call_among machine bytes around functions count pc ≡ Some place
        → (text_address ≤ place) × IsNearest starts offset (place - text_address)
    call_start pc offset place here found =
        let call = call_found text is pc place found in
        let i : ℕ = call.function in
        let k : ℕ = call.position in
        let one : i < count = call.known in
        let inside : k < length (functions i).code = call.inside in
        let at : place_of (slice_get (functions i).code k) ≡ place = call.at in
        let past : ((text.code i).placed k).past ≡ pc = call.past in
        let least = starts_low i k one inside in
        let long : place_of (slice_get (functions i).code k) < ((text.code i).placed k).past = (is.row i one).long k inside in
        let near = past_near i k one inside in (
          omega arith,
          record {
            marked = marked_start i k (place - text_address) one inside (omega arith);
            below = omega arith;
            near = omega arith;
            none_between = λ other more less.
                elim (has starts other) as (λ b. has starts other ≡ b → b ≡ false) [
                  | true ↦ (λ marked.
                      let there = start_marked other marked in
                      let before : place_of (slice_get (functions i).code k) < place_of (slice_get (functions there.0).code there.1) = omega (arith, there.4) in
                      let after = none_amid text is i there.0 k there.1 one there.2 inside there.3 before in
                      absurd (omega (arith, there.4)))
                  | false ↦ (λ none. refl)
                ] refl;
          },
        )

    -- a call ends behind the text's first byte
    pub call_low : (pc : ℕ) → pc < text_address → call_among machine bytes around functions count pc ≡ None
    call_low pc before =
        elim (call_among machine bytes around functions count pc) as (λ (o : Option ℕ). call_among machine bytes around functions count pc ≡ o → o ≡ None) [
          | Some place ↦ (λ found.
              let call = call_found text is pc place found in
              let least = starts_low call.function call.position call.known call.inside in
              let long = (is.row call.function call.known).long call.position call.inside in
              let past = call.past in
              absurd (omega arith))
          | None ↦ (λ found. refl)
        ] refl

    pub not_ended : (pc offset : ℕ) → pc ≡ text_address + offset → has ends offset ≡ false
        → call_among machine bytes around functions count pc ≡ None
    not_ended pc offset here unmarked =
        ap (call_among machine bytes around functions count) here
        ∙ none_of (call_among machine bytes around functions count (text_address + offset)) (sym (marks.ended offset) ∙ unmarked)

    pub ended : (pc offset : ℕ) → pc ≡ text_address + offset → has ends offset ≡ true
        → (place : ℕ) × (call_among machine bytes around functions count pc ≡ Some place) × (text_address ≤ place)
        × IsNearest starts offset (place - text_address)
    ended pc offset here marked =
        let some = some_of (call_among machine bytes around functions count (text_address + offset)) (sym (marks.ended offset) ∙ marked) in
        let found : call_among machine bytes around functions count pc ≡ Some some.0 = ap (call_among machine bytes around functions count) here ∙ some.1 in
        let start = call_start pc offset some.0 here found in
        (some.0, found, start.0, start.1)
