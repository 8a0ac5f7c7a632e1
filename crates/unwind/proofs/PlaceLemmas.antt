-- The instruction that stands at an address, and the call that ends at one.
use Rattle.std.proofs.Common.{◌≡◌, ℕ, zero, suc, ◌+◌, ◌<◌, ◌==◌, Bool, true, false, cond, List, [], ◌∷◌, Option, Some, None, IsSome, is_some, length, refl, sym, ap, ◌∙◌, subst, arith, inl, inr}
use Rattle.std.specs.List.{find, slice_get}
use Rattle.std.specs.Option.{option_or}
use Rattle.std.proofs.lemmas.Bool.{cases_lt, eq-eqb, eqb-true}
use Rattle.std.proofs.lemmas.Option.{slice_get_within}
use Rattle.asm_target.specs.declared.body.Placed.{Placed}
use Rattle.asm_target.specs.DepthChange.{depth_or_zero}
use Rattle.elf_image.specs.Contents.{table_in}
use Rattle.flow_rules.specs.Placing.{Surroundings, place_of}
use Rattle.pclntab.specs.Func.{func_at}
use Rattle.pcvalue.specs.Cover.{AnswersPlaces}
use Rattle.pclntab.specs.Table.{IsTable}
use Rattle.image_check.specs.Readers.{instr_among, instr_of}
use Rattle.image_model.specs.Image.{Image, Line, is_served, next_of}
use Rattle.image_model.specs.Joined.{IsCallOf, IsLineOf, IsText, Text, line_of, some_below}
use Rattle.image_model.specs.Listed.{Listed, placed_there, text_of}
use Rattle.image_model.proofs.FindLemmas.{some_is}
use Rattle.image_model.proofs.TextLemmas.{call_found, line_found, line_here}
use Rattle.image_rules.specs.Functions.{AreFunctionsOf}
use Rattle.image_rules.specs.Machine.{Machine}
use Rattle.image_rules.specs.Parts.{count_in, entry_in}
use Rattle.image_rules.proofs.PlacedLemmas.{placed_first}
use Rattle.unwind.specs.Looks.{image_of}
use Rattle.unwind.proofs.StretchLemmas.{IsStretch, stretch}

there : {A : Type 0} (xs : List A) (k : ℕ) → k < length xs → (x : A) × (slice_get xs k ≡ Some x)
there [] k less = absurd (omega arith)
there (x ∷ xs) zero less = (x, refl)
there (x ∷ xs) (suc k) less = there xs k (omega arith)

some_there : {A : Type 0} (found : Option A) → is_some found ≡ true → (x : A) × (found ≡ Some x)
some_there (Some x) some = (x, refl)
some_there None some = absurd (cc)

find_some : {A : Type 0} (test : A → Bool) (xs : List A) (k : ℕ) (x : A) → slice_get xs k ≡ Some x → test x ≡ true
    → is_some (find test xs) ≡ true
find_some test [] k x here is = absurd (cc)
find_some {A} test (y ∷ xs) zero x here is =
    let first : y ≡ x = cc in
    let passes : test y ≡ true = ap test first ∙ is in
    ap (λ (b : Bool). is_some (cond b (Some y) (find test xs))) passes
find_some {A} test (y ∷ xs) (suc k) x here is =
    elim (test y) as (λ (b : Bool). is_some (cond b (Some y) (find test xs)) ≡ true) [
      | true ↦ refl
      | false ↦ find_some test xs k x here is
    ]

found_at : {A : Type 0} (test : A → Bool) (xs : List A) (x : A) → find test xs ≡ Some x
    → (k : ℕ) × (slice_get xs k ≡ Some x) × (test x ≡ true)
found_at test [] x found = absurd (cc)
found_at {A} test (y ∷ xs) x found =
    elim (test y) as (λ (b : Bool). test y ≡ b → cond b (Some y) (find test xs) ≡ Some x
    → (k : ℕ) × (slice_get (y ∷ xs) k ≡ Some x) × (test x ≡ true)) [
      | true ↦ (λ passes is. (let same : y ≡ x = cc in (0, is, ap test (sym same) ∙ passes)))
      | false ↦ (λ fails is.
          let rest = found_at test xs x is in
          (suc rest.0, rest.1, rest.2))
    ] refl found

below_some : {A : Type 0} (find : ℕ → Option A) (n k : ℕ) → k < n → is_some (find k) ≡ true → is_some (some_below find n) ≡ true
below_some find zero k less some = absurd (omega arith)
below_some {A} find (suc n) k less some =
    elim (find n) as (λ (o : Option A). find n ≡ o → is_some (option_or o (some_below find n)) ≡ true) [
      | Some x ↦ (λ here. refl)
      | None ↦ (λ here.
          elim (cases_lt k n) as (λ _. is_some (some_below find n) ≡ true) [
            | inl under ↦ below_some find n k under some
            | inr over ↦
                (let same : k ≡ n = omega arith in
                absurd (cc (some, ap (λ (j : ℕ). is_some (find j)) same, ap (λ (o : Option A). is_some o) here)))
          ])
    ] refl

moved : {bytes : List ℕ} {index first : ℕ} (past other_past depth other_depth : ℕ) → past ≡ other_past → depth ≡ other_depth
    → IsStretch bytes index first past depth → IsStretch bytes index first other_past other_depth
moved {bytes} {index} {first} past other_past depth other_depth end level is =
    subst (λ (p : ℕ). IsStretch bytes index first p other_depth) end (subst (λ (d : ℕ). IsStretch bytes index first past d) level is)

module _ {Instr : Type 0} (machine : Machine Instr) (bytes : List ℕ) (around : Surroundings) (functions : ℕ → Listed Instr) where
  abbrev text : Text
  text = text_of machine.set machine.shape machine.growth machine.begins around (count_in bytes) functions

  abbrev img : Image
  img = image_of machine bytes around functions

  -- The instruction is one of a function of the image's table
  pub record IsLineIn (at : ℕ) (line : Line) : Type 0 where
    pub index : ℕ
    pub entry : entry_in bytes index ≡ line.entry
    pub stretch : IsStretch bytes index at line.part.past line.depth
    pub long : at < line.part.past
    pub begins : is_some (instr_among functions (count_in bytes) at) ≡ true

  -- the call ends at the address
  pub record IsCallIn (past at : ℕ) : Type 0 where
    pub line : Line
    pub here : img.line_at at ≡ Some line
    pub ends : line.part.past ≡ past
    pub served : is_served img.is_growth_routine (next_of line) ≡ true

  module _ (settled : AnswersPlaces) (table : IsTable (table_in bytes)) (are : AreFunctionsOf machine bytes functions (count_in bytes)) (text_is : IsText text) where
    in_position : (i k : ℕ) (one : Placed Instr) → i < count_in bytes → slice_get (functions i).code k ≡ Some one
        → IsLineIn one.at (line_of (text.code i) k)
    in_position i k one inside here =
        let is = are i inside in
        let found = stretch machine settled bytes table.order i (functions i) inside is k one here in
        let past : (placed_there machine.set (slice_get (functions i).code k)).past ≡ one.at + one.len =
        ap (λ (o : Option (Placed Instr)). (placed_there machine.set o).past) here in
        let level : depth_or_zero (slice_get (functions i).depths k) ≡ found.0 = ap depth_or_zero found.1 in
        let row = text_is.row i inside in
        let less : k < length (functions i).code = slice_get_within (functions i).code k one here in
        let at : place_of (slice_get (functions i).code k) ≡ one.at = ap place_of here in
        let long : place_of (slice_get (functions i).code k) < (placed_there machine.set (slice_get (functions i).code k)).past = row.long k less in
        record {
          index = i;
          entry = sym (ap (λ (code : List (Placed Instr)). place_of (slice_get code 0)) is.placed
              ∙ placed_first machine.set machine.fits (entry_in bytes i) is.code is.is_code.some);
          stretch = moved (one.at + one.len) _ found.0 _ (sym past) (sym level) found.2;
          long = omega arith;
          begins = below_some (λ index. instr_of one.at (functions index)) (count_in bytes) i inside
              (find_some (λ (item : Placed Instr). item.at == one.at) (functions i).code k one here (eq-eqb one.at one.at refl));
        }

    pub line_in : (at : ℕ) (line : Line) → img.line_at at ≡ Some line → IsLineIn at line
    line_in at line here =
        let of : IsLineOf text at line = line_found text text_is at line here in
        let one = there (functions of.function).code of.position of.inside in
        let place : one.0.at ≡ at = ap place_of (sym one.1) ∙ of.at in
        subst (λ (a : ℕ). IsLineIn a line) place
        (subst (λ (l : Line). IsLineIn one.0.at l) of.line_is
        (in_position of.function of.position one.0 of.known one.1))

    pub call_in : (past at : ℕ) → img.after_call past ≡ Some at → IsCallIn past at
    call_in past at found =
        let of : IsCallOf text past at = call_found text text_is past at found in
        record {
          line = line_of (text.code of.function) of.position;
          here = subst (λ (a : ℕ). img.line_at a ≡ Some (line_of (text.code of.function) of.position)) of.at
              (line_here text text_is of.function of.position of.known of.inside);
          ends = of.past;
          served = of.served;
        }

    pub start_in : (at : ℕ) → is_some (instr_among functions (count_in bytes) at) ≡ true → (line : Line) × (img.line_at at ≡ Some line)
    start_in at some =
        let one = some_there (instr_among functions (count_in bytes) at) some in
        let i = some_is (λ index. instr_of at (functions index)) (count_in bytes) one.0 one.1 in
        let k = found_at (λ (item : Placed Instr). item.at == at) (functions i.0).code one.0 i.2 in
        let place : place_of (slice_get (functions i.0).code k.0) ≡ at = ap place_of k.1 ∙ eqb-true one.0.at at k.2 in (
          line_of (text.code i.0) k.0,
          subst (λ (a : ℕ). img.line_at a ≡ Some (line_of (text.code i.0) k.0)) place
              (line_here text text_is i.0 k.0 i.1 (slice_get_within (functions i.0).code k.0 one.0 k.1)),
        )

    -- a call stands in a function
    pub call_found_in : (past at : ℕ) → img.after_call past ≡ Some at → IsSome (func_at (table_in bytes) at)
    call_found_in past at found =
        let call = call_in past at found in
        let is = line_in at call.line call.here in
        subst (λ (o : Option ℕ). IsSome o) (sym (is.stretch.found at (omega arith) is.long)) refl
