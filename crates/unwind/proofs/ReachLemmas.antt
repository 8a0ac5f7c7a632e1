-- Each frame that a walk gives is told of by the image's tables, and lies above the one before it.
use Rattle.std.proofs.Common.{◌≡◌, ℕ, ◌+◌, ◌-◌, ◌^◌, ◌≤◌, ◌<◌, Bool, true, false, List, Option, Some, None, IsSome, is_some, nat_le, if◌then◌else◌, refl, sym, ap, subst, arith}
use Rattle.std.proofs.lemmas.Bool.Decides.{nat_tests}
use Rattle.elf_image.specs.Contents.{table_in}
use Rattle.pclntab.specs.Func.{depth_at, func_at}
use Rattle.pclntab.specs.Table.{IsTable}
use Rattle.pcvalue.specs.Cover.{AnswersPlaces}
use Rattle.asm_target.specs.FlowFunction.{is_within}
use Rattle.flow_rules.specs.Placing.{Surroundings}
use Rattle.image_check.specs.Readers.{instr_among}
use Rattle.image_model.specs.Image.{Line}
use Rattle.image_model.specs.Joined.{IsText}
use Rattle.image_model.specs.Listed.{Listed, text_of}
use Rattle.image_model.specs.Soundness.{IsSound}
use Rattle.image_rules.specs.Functions.{AreFunctionsOf}
use Rattle.image_rules.specs.Machine.{Machine}
use Rattle.image_rules.specs.Parts.{count_in}
use Rattle.unwind.specs.declared.stage.Place.{Place}
use Rattle.unwind.specs.declared.stage.Stage.{Stage}
use Rattle.unwind.specs.declared.stage.Stage.TheVariants as stages
use Rattle.image_check.specs.declared.seen.UnwindNo.TheVariants.{U2, U5}
use Rattle.unwind.specs.Looks.{IsPlaced, IsReached, IsTold, IsToldBy, caller_of, depth_by, image_of, is_top, looks_of}
use Rattle.unwind.specs.Walk.{FallsAt, Looks, answer_at, asked, begun, behind, called, left_above, next_stage, place_by, pushed_by, word_by}
use Rattle.unwind.proofs.CallLemmas.{served_deep}
use Rattle.unwind.proofs.CaseLemmas.{and_then_some, by_option, by_test}
use Rattle.unwind.proofs.PlaceLemmas.{IsCallIn, IsLineIn, call_in, line_in, start_in}

-- the link register counts in the first frame
first_left : (linked : Bool) (sp link : ℕ) → left_above (if linked then Some link else None) sp < 2 ^ 64 + 2
first_left true sp link = omega arith
first_left false sp link = omega arith

-- a caller's stack pointer lies above
rises : (linked : Bool) (depth sp : ℕ) (link : Option ℕ) → sp < 2 ^ 64 → (link ≡ None → linked ≡ true → 0 < depth)
    → 2 ^ 64 - (sp + depth + pushed_by linked) < left_above link sp
rises linked depth sp (Some link) low deep = omega arith
rises true depth sp None low deep = (let more = deep refl refl in omega arith)
rises false depth sp None low deep = omega arith

module _ {Instr : Type 0} (machine : Machine Instr) (bytes : List ℕ) (around : Surroundings) (functions : ℕ → Listed Instr) where
  abbrev linked : Bool
  linked = is_some machine.shape.link

  abbrev looks : Looks
  looks = looks_of machine bytes around functions

  -- a place inside an instruction is told of
  pub told_in : (at : ℕ) (line : Line) (is : IsLineIn machine bytes around functions at line) (func pc look : ℕ) → func ≡ is.index
      → at ≤ look → look < line.part.past → (told : IsTold bytes (record { func = func; pc = pc; look = look })) × (told.depth ≡ line.depth)
  told_in at line is func pc look same low high =
      subst (λ (f : ℕ). (told : IsTold bytes (record { func = f; pc = pc; look = look })) × (told.depth ≡ line.depth)) (sym same) (
        record {
          inside = is.stretch.inside;
          has = is.stretch.has look low high;
          depth = line.depth;
          depth_is = is.stretch.depths look low high;
          line = is.stretch.line;
          line_is = is.stretch.lines look low high;
          file = subst (λ (file : Option (List ℕ)). IsSome file) (sym (is.stretch.files look low high)) refl;
        },
        refl,
      )

  abbrev IsFine : Stage → Stage → Type 0
  IsFine from stage = IsReached bytes linked stage × FallsAt from stage (answer_at stage)

  module _ (settled : AnswersPlaces) (table : IsTable (table_in bytes)) (are : AreFunctionsOf machine bytes functions (count_in bytes))
      (text_is : IsText (text_of machine.set machine.shape machine.growth machine.begins around (count_in bytes) functions))
      (sound : IsSound (image_of machine bytes around functions)) where
    fine_start : (pc sp link : ℕ) → sp < 2 ^ 64
        → IsFine (stages.Start pc sp link) (begun looks (func_at (table_in bytes) pc) pc sp link)
    fine_start pc sp link low =
        by_option (func_at (table_in bytes) pc) (λ (found : Option ℕ). IsFine (stages.Start pc sp link) (begun looks found pc sp link))
        (λ none. (tt, tt)) (λ func found.
        by_test (is_some (instr_among functions (count_in bytes) pc)) (stages.At (record {
          seen = record { func = func; pc = pc; look = pc };
          sp = sp;
          link = if linked then Some link else None;
        })) (stages.No (U2 pc)) (IsFine (stages.Start pc sp link)) (λ starts.
        let line = start_in machine bytes around functions settled table are text_is pc starts in
        let is : IsLineIn machine bytes around functions pc line.0
        = line_in machine bytes around functions settled table are text_is pc line.0 line.1 in
        let there = is.stretch.found pc (omega arith) is.long in
        let same : func ≡ is.index = cc in
        let told = told_in pc line.0 is func pc pc same (omega arith) is.long in (
          record {
            told = told.0;
            low = low;
            deep = λ none some. absurd (cc (none, ap (λ (b : Bool). if b then Some link else None) some));
          },
          first_left linked sp link,
        )) (λ other. (tt, tt)))

    fine_called : (place : Place) (depth word : ℕ) → IsPlaced bytes linked place
        → (place.link ≡ None → linked ≡ true → 0 < depth)
        → IsFine (stages.At place) (called looks (caller_of machine bytes around functions word) place.sp depth word)
    fine_called place depth word placed deep =
        by_option (caller_of machine bytes around functions word) (λ (found : Option ℕ). IsFine (stages.At place) (called looks found place.sp depth word))
        (λ none. (tt, tt)) (λ func found.
        by_test (nat_le (2 ^ 64) (place.sp + depth + pushed_by linked)) (stages.No (U5 place.sp depth)) (stages.At (record {
          seen = record { func = func; pc = word; look = word - 1 };
          sp = place.sp + depth + pushed_by linked;
          link = None;
        })) (IsFine (stages.At place)) (λ over. (tt, tt)) (λ under.
        let at = and_then_some (func_at (table_in bytes)) ((image_of machine bytes around functions).after_call word) func found in
        let call : IsCallIn machine bytes around functions word at.0
        = call_in machine bytes around functions settled table are text_is word at.0 at.1 in
        let is : IsLineIn machine bytes around functions at.0 call.line
        = line_in machine bytes around functions settled table are text_is at.0 call.line call.here in
        let there = is.stretch.found at.0 (omega arith) is.long in
        let same : func ≡ is.index = cc (there, at.2) in
        let ends : call.line.part.past ≡ word = call.ends in
        let long : at.0 < call.line.part.past = is.long in
        let told = told_in at.0 call.line is func word (word - 1) same (omega arith) (omega arith) in
        let room : place.sp + depth + pushed_by linked < 2 ^ 64 = below_it (place.sp + depth + pushed_by linked) under in (
          record {
            told = told.0;
            low = room;
            deep = λ none some.
                let more = served_deep (image_of machine bytes around functions) sound at.0 call.line call.here call.served some in
                let level = told.1 in
                omega arith;
          },
          rises linked depth place.sp place.link placed.low deep,
        )))
      where
        below_it : (n : ℕ) → nat_le (2 ^ 64) n ≡ false → n < 2 ^ 64
        below_it n under = grind (arith, nat_tests)

    fine_behind : (place : Place) (memory : ℕ → Option ℕ) (depth : ℕ) → IsPlaced bytes linked place
        → (place.link ≡ None → linked ≡ true → 0 < depth) → IsFine (stages.At place) (behind looks memory place depth)
    fine_behind place memory depth placed deep =
        by_test (nat_le (2 ^ 64) (place.sp + depth)) (stages.No (U5 place.sp depth))
        (asked looks place.sp depth (word_by memory place.link (place_by linked place.sp depth) depth)) (IsFine (stages.At place)) (λ over. (tt, tt))
        (λ under.
        by_option (word_by memory place.link (place_by linked place.sp depth) depth)
        (λ (found : Option ℕ). IsFine (stages.At place) (asked looks place.sp depth found)) (λ none. (tt, tt)) (λ word found.
        by_test (is_within looks.text word) (called looks (caller_of machine bytes around functions word) place.sp depth word) stages.End
        (IsFine (stages.At place)) (λ inside. fine_called place depth word placed deep) (λ outside. (tt, tt))))

    pub fine : (memory : ℕ → Option ℕ) (from : Stage) → IsReached bytes linked from → IsFine from (next_stage looks memory from)
    fine memory (stages.Start pc sp link) low = fine_start pc sp link low
    fine memory (stages.At place) placed =
        (let level : depth_by (depth_at (table_in bytes) place.seen.func place.seen.look) ≡ placed.told.depth
        = ap depth_by placed.told.depth_is in
        by_test (is_top bytes place.seen.func) stages.End
        (behind looks memory place (depth_by (depth_at (table_in bytes) place.seen.func place.seen.look))) (IsFine (stages.At place))
        (λ top. (tt, tt)) (λ other.
        fine_behind place memory (depth_by (depth_at (table_in bytes) place.seen.func place.seen.look)) placed
        (λ none some. (let more = placed.deep none some in omega arith))))
    fine memory stages.End reached = (tt, tt)
    fine memory (stages.No refusal) reached = (tt, tt)

-- what is reached is told of
pub told_by : (bytes : List ℕ) (some : Bool) (stage : Stage) → IsReached bytes some stage → IsToldBy bytes (answer_at stage)
told_by bytes _ (stages.Start pc sp link) reached = tt
told_by bytes _ (stages.At place) reached = reached.told
told_by bytes _ stages.End reached = tt
told_by bytes _ (stages.No refusal) reached = tt
