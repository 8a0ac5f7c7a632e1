-- An image and a dump have one walk: the image's bytes settle all that a walk looks at.
use Rattle.std.proofs.Common.{◌≡◌, ℕ, zero, suc, ◌+◌, ◌^◌, ◌<◌, List, [], ◌∷◌, Option, Some, None, Bool, is_some, nat_le, if◌then◌else◌, refl, sym, ap, ◌∙◌, subst, arith}
use Rattle.std.specs.Option.{option_and_then, option_or}
use Rattle.asm_target.specs.FlowFunction.{is_within}
use Rattle.elf_image.specs.Contents.{table_in}
use Rattle.flow_rules.specs.Placing.{Surroundings, is_listed}
use Rattle.image_check.specs.Readers.{instr_of}
use Rattle.image_model.specs.Joined.{call_behind, some_below}
use Rattle.image_model.specs.Listed.{Listed, code_of}
use Rattle.image_rules.specs.Functions.{IsFunction}
use Rattle.image_rules.specs.Machine.{Machine}
use Rattle.image_rules.specs.Parts.{Surrounds, count_in, text_range}
use Rattle.pclntab.specs.Func.{depth_at, func_at}
use Rattle.text_chain.specs.declared.stack.ChainNo.{ChainNo}
use Rattle.text_chain.specs.declared.stack.ChainNo.TheVariants.{Foreign, Walk, Memory}
use Rattle.text_chain.specs.Chain.{IsChainRefused, IsChainText, IsWalk, words_of}
use Rattle.text_chain.specs.Lines.{frames_text}
use Rattle.unwind.specs.declared.stage.Stage.{Stage}
use Rattle.unwind.specs.declared.stage.Stage.TheVariants as stages
use Rattle.image_check.specs.declared.seen.Seen.{Seen}
use Rattle.image_check.specs.declared.seen.UnwindNo.{UnwindNo}
use Rattle.image_check.specs.declared.seen.UnwindNo.TheVariants.{U2, U5}
use Rattle.unwind.specs.declared.walked.Walked.{Walked}
use Rattle.unwind.specs.declared.walked.Walked.TheVariants as answers
use Rattle.unwind.specs.Looks.{depth_by, is_top, looks_of}
use Rattle.unwind.specs.Walk.{Gives, Looks, answer_at, asked, begun, called, next_stage, place_by, word_by}

-- over what it looks at a walk gives one list of frames and one answer behind them

abbrev pub IsLast : Walked → Type 0
IsLast (answers.Frame seen) = ⊥
IsLast answers.End = Unit {0}
IsLast (answers.No refusal) = Unit {0}

one_frame : (one other : Seen) → answers.Frame one ≡ answers.Frame other → one ≡ other
one_frame one other same = cc

one_walk : (looks : Looks) (memory : ℕ → Option ℕ) (from : Stage) (frames others : List Seen) (last final : Walked)
    → IsLast last → IsLast final → Gives looks memory from frames last → Gives looks memory from others final
    → (frames ≡ others) × (last ≡ final)
one_walk looks memory from [] [] last final is_last is_final given that = (refl, sym given ∙ that)
one_walk looks memory from [] (other ∷ others) last final is_last is_final given that =
    absurd (subst IsLast (sym given ∙ that.0) is_last)
one_walk looks memory from (seen ∷ more) [] last final is_last is_final given that =
    absurd (subst IsLast (sym that ∙ given.0) is_final)
one_walk looks memory from (seen ∷ more) (other ∷ others) last final is_last is_final given that =
    let rest = one_walk looks memory (next_stage looks memory from) more others last final is_last is_final given.1 that.1 in (
      ap (λ (s : Seen). s ∷ more) (one_frame seen other (sym given.0 ∙ that.0)) ∙ ap (λ (s : List Seen). other ∷ s) rest.0,
      rest.1,
    )

-- what a walk looks at in an image

below_same : {A : Type 0} (find other : ℕ → Option A) (n : ℕ) → ((k : ℕ) → k < n → find k ≡ other k)
    → some_below find n ≡ some_below other n
below_same find other zero same = refl
below_same {A} find other (suc n) same =
    ap (λ (o : Option A). option_or o (some_below find n)) (same n (omega arith))
    ∙ ap (option_or (other n)) (below_same find other n (λ k less. same k (omega arith)))

module _ {Instr : Type 0} (machine : Machine Instr) (bytes : List ℕ) (around beside : Surroundings) (functions others : ℕ → Listed Instr)
    (same_around : around ≡ beside) (same : (k : ℕ) → k < count_in bytes → functions k ≡ others k) where
  abbrev looks : Looks
  looks = looks_of machine bytes around functions

  abbrev those : Looks
  those = looks_of machine bytes beside others

  starts_same : (at : ℕ) → looks.is_start at ≡ those.is_start at
  starts_same at =
      ap is_some (below_same (λ k. instr_of at (functions k)) (λ k. instr_of at (others k)) (count_in bytes)
      (λ k less. ap (instr_of at) (same k less)))

  callers_same : (past : ℕ) → looks.caller_at past ≡ those.caller_at past
  callers_same past =
      ap (option_and_then (func_at (table_in bytes)))
      (below_same
      (λ k. call_behind (code_of machine.set machine.shape machine.begins around (functions k)) (is_listed around.growth) past)
      (λ k. call_behind (code_of machine.set machine.shape machine.begins beside (others k)) (is_listed beside.growth) past) (count_in bytes)
      (λ k less.
      ap (λ (listed : Listed Instr). call_behind (code_of machine.set machine.shape machine.begins around listed) (is_listed around.growth) past)
      (same k less)
      ∙ ap (λ (a : Surroundings). call_behind (code_of machine.set machine.shape machine.begins a (others k)) (is_listed a.growth) past)
      same_around))

  abbrev linked : Bool
  linked = is_some machine.shape.link

  begun_same : (found : Option ℕ) (pc sp link : ℕ) → begun looks found pc sp link ≡ begun those found pc sp link
  begun_same None pc sp link = refl
  begun_same (Some func) pc sp link =
      ap (λ (starts : Bool). if starts then stages.At (record {
        seen = record { func = func; pc = pc; look = pc };
        sp = sp;
        link = if linked then Some link else None;
      }) else stages.No (U2 pc)) (starts_same pc)

  called_same : (caller : Option ℕ) (sp depth word : ℕ) → called looks caller sp depth word ≡ called those caller sp depth word
  called_same None sp depth word = refl
  called_same (Some func) sp depth word = refl

  asked_same : (sp depth : ℕ) (word : Option ℕ) → asked looks sp depth word ≡ asked those sp depth word
  asked_same sp depth None = refl
  asked_same sp depth (Some word) =
      ap (λ (stage : Stage). if is_within (text_range bytes) word then stage else stages.End)
      (ap (λ (caller : Option ℕ). called looks caller sp depth word) (callers_same word)
      ∙ called_same (those.caller_at word) sp depth word)

  stage_same : (memory : ℕ → Option ℕ) (from : Stage) → next_stage looks memory from ≡ next_stage those memory from
  stage_same memory (stages.Start pc sp link) = begun_same (func_at (table_in bytes) pc) pc sp link
  stage_same memory (stages.At place) =
      let depth : ℕ = depth_by (depth_at (table_in bytes) place.seen.func place.seen.look) in
      ap (λ (stage : Stage). if is_top bytes place.seen.func then stages.End
      else (if nat_le (2 ^ 64) (place.sp + depth) then stages.No (U5 place.sp depth) else stage))
      (asked_same place.sp depth (word_by memory place.link (place_by linked place.sp depth) depth))
  stage_same memory stages.End = refl
  stage_same memory (stages.No refusal) = refl

  pub gives_same : (memory : ℕ → Option ℕ) (from : Stage) (frames : List Seen) (last : Walked)
      → Gives looks memory from frames last → Gives those memory from frames last
  gives_same memory from [] last given = sym (ap answer_at (stage_same memory from)) ∙ given
  gives_same memory from (seen ∷ more) last given = (
    sym (ap answer_at (stage_same memory from)) ∙ given.0,
    gives_same memory (next_stage those memory from) more last
        (subst (λ (stage : Stage). Gives looks memory stage more last) (stage_same memory from) given.1),
  )

-- an image and a dump have one walk

one_number : (found : Option ℕ) (one other : ℕ) → found ≡ Some one → found ≡ Some other → one ≡ other
one_number found one other is that = cc

same_start : (pc sp link pc' sp' link' : ℕ) → pc ≡ pc' → sp ≡ sp' → link ≡ link' → stages.Start pc sp link ≡ stages.Start pc' sp' link'
same_start pc sp link pc' sp' link' one two three = cc

-- the laws on functions of images
pub record AreSettled {Instr : Type 0} (machine : Machine Instr) : Type 0 where
  pub around : (bytes : List ℕ) (around other : Surroundings) → Surrounds bytes around → Surrounds bytes other → around ≡ other
  pub function : (bytes : List ℕ) (index : ℕ) (listed other : Listed Instr) → IsFunction machine bytes index listed
      → IsFunction machine bytes index other → listed ≡ other

module _ {Instr : Type 0} (machine : Machine Instr) (settled : AreSettled machine) (image dump : List ℕ) where
  walks_same : (frames others : List Seen) (last final : Walked) → IsLast last → IsLast final
      → IsWalk machine image dump frames last → IsWalk machine image dump others final → (frames ≡ others) × (last ≡ final)
  walks_same frames others last final is_last is_final one two =
      let moved : Gives (looks_of machine image two.around two.functions) (words_of dump) (stages.Start one.pc one.sp one.link) frames last =
      gives_same machine image one.around two.around one.functions two.functions
      (settled.around image one.around two.around one.surrounds two.surrounds)
      (λ k less. settled.function image k (one.functions k) (two.functions k) (one.are k less) (two.are k less))
      (words_of dump) (stages.Start one.pc one.sp one.link) frames last one.given in
      one_walk (looks_of machine image two.around two.functions) (words_of dump) (stages.Start two.pc two.sp two.link) frames others last final
      is_last is_final
      (subst (λ (from : Stage). Gives (looks_of machine image two.around two.functions) (words_of dump) from frames last)
      (same_start one.pc one.sp one.link two.pc two.sp two.link (one_number _ one.pc two.pc one.pc_is two.pc_is)
      (one_number _ one.sp two.sp one.sp_is two.sp_is) (one_number _ one.link two.link one.link_is two.link_is)) moved)
      two.given

  pub one_text : (text other : List ℕ) → IsChainText machine image dump text → IsChainText machine image dump other → text ≡ other
  one_text text other is that =
      is.says ∙ ap (frames_text image) (walks_same is.frames that.frames answers.End answers.End tt tt is.walk that.walk).0 ∙ sym that.says

  pub no_refusal : (text : List ℕ) (refusal : ChainNo) → IsChainText machine image dump text → ¬ IsChainRefused machine image dump refusal
  no_refusal text Foreign is refused = refused is.own
  no_refusal text (Walk refusal) is (own, frames, walk) =
      let same = walks_same is.frames frames answers.End (answers.No refusal) tt tt is.walk walk in
      let never : answers.End ≡ answers.No refusal = same.1 in
      absurd (cc)
  no_refusal text Memory is refused = refused

  same_refusal : (one other : UnwindNo) → answers.No one ≡ answers.No other → Walk one ≡ Walk other
  same_refusal one other same = cc

  pub one_refusal : (refusal other : ChainNo) → IsChainRefused machine image dump refusal → IsChainRefused machine image dump other
      → refusal ≡ other
  one_refusal Foreign Foreign is that = refl
  one_refusal Foreign (Walk other) is that = absurd (is that.0)
  one_refusal Foreign Memory is that = absurd that
  one_refusal (Walk refusal) Foreign is that = absurd (that is.0)
  one_refusal (Walk refusal) (Walk other) (own, frames, walk) (own', others, walk') =
      same_refusal refusal other (walks_same frames others (answers.No refusal) (answers.No other) tt tt walk walk').1
  one_refusal (Walk refusal) Memory is that = absurd that
  one_refusal Memory other is that = absurd is
