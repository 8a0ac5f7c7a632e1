-- The text of the frames that a walk has given, frame by frame.
use Rattle.std.proofs.Common.{◌≡◌, ℕ, List, [], ◌∷◌, ◌++◌, Option, Some, refl, sym, ap, ◌∙◌, subst, append_assoc, append-nil}
use Rattle.std.proofs.lemmas.List.{flat_map_more}
use Rattle.flow_rules.specs.Placing.{Surroundings}
use Rattle.image_model.specs.Listed.{Listed}
use Rattle.image_rules.specs.Functions.{AreFunctionsOf}
use Rattle.image_rules.specs.Machine.{Machine}
use Rattle.image_rules.specs.Parts.{Surrounds, count_in}
use Rattle.image_rules.specs.Sound.{IsSoundImage}
use Rattle.machine_dump.specs.Faults.{link_in, pc_in, sp_in}
use Rattle.text_chain.specs.Chain.{IsWalk, words_of}
use Rattle.text_chain.specs.Lines.{frame_text, frames_text}
use Rattle.unwind.specs.declared.stage.Stage.{Stage}
use Rattle.unwind.specs.declared.stage.Stage.TheVariants as stages
use Rattle.image_check.specs.declared.seen.Seen.{Seen}
use Rattle.unwind.specs.declared.walked.Walked.{Walked}
use Rattle.unwind.specs.declared.walked.Walked.TheVariants as answers
use Rattle.unwind.specs.Looks.{IsStageBy, looks_of}
use Rattle.unwind.specs.Walk.{Gives, answer_at, next_stage}
use Rattle.unwind.proofs.FamilyLemmas.{families, family}

module _ {Instr : Type 0} (machine : Machine Instr) (image : List ℕ) (memory : ℕ → Option ℕ) (first : Stage) where
  -- The walk has given the frames that have this text, and stands at the stage: what it gives from there on comes behind them
  pub record IsUnderway (stage : Stage) (text : List ℕ) : Type 0 where
    pub frames : List Seen
    pub says : text ≡ frames_text image frames
    pub leads : (around : Surroundings) (functions : ℕ → Listed Instr)
        → Surrounds image around → AreFunctionsOf machine image functions (count_in image) → (more : List Seen) (last : Walked)
        → Gives (looks_of machine image around functions) memory stage more last
        → Gives (looks_of machine image around functions) memory first (frames ++ more) last

  abbrev pub IsNextOf : Stage → Stage → Type 0
  IsNextOf stage after = IsStageBy machine image (λ looks. next_stage looks memory stage) after

  -- a walk of this image over this memory is at the next stage
  pub next_here : (walked : List ℕ) (words : ℕ → Option ℕ) (stage after : Stage) → walked ≡ image → words ≡ memory
      → IsStageBy machine walked (λ looks. next_stage looks words stage) after → IsNextOf stage after
  next_here walked words stage after same agree is =
      subst (λ (m : ℕ → Option ℕ). IsStageBy machine image (λ looks. next_stage looks m stage) after) agree
      (subst (λ (bytes : List ℕ). IsStageBy machine bytes (λ looks. next_stage looks words stage) after) same is)

  pub begun : IsUnderway first []
  begun = record { frames = []; says = refl; leads = λ around functions surrounds are more last given. given }

  pub gone_on : (stage after : Stage) (text more : List ℕ) (seen : Seen) → IsUnderway stage text → IsNextOf stage after
      → answer_at after ≡ answers.Frame seen → more ≡ text ++ frame_text image seen → IsUnderway after more
  gone_on stage after text more seen under next is adds = record {
    frames = under.frames ++ (seen ∷ []);
    says = adds ∙ ap (λ (t : List ℕ). t ++ frame_text image seen) under.says ∙ flat_map_more (frame_text image) [] under.frames seen;
    leads = λ around functions surrounds are others last given.
        let step : after ≡ next_stage (looks_of machine image around functions) memory stage = next around functions surrounds are in
        subst (λ (all : List Seen). Gives (looks_of machine image around functions) memory first all last)
        (sym (append_assoc under.frames (seen ∷ []) others))
        (under.leads around functions surrounds are (seen ∷ others) last (
          ap answer_at (sym step) ∙ is,
          subst (λ (s : Stage). Gives (looks_of machine image around functions) memory s others last) step given,
        ));
  }

  -- behind the last frame
  pub ended : (stage after : Stage) (text : List ℕ) (last : Walked) (under : IsUnderway stage text) → IsNextOf stage after
      → answer_at after ≡ last → (around : Surroundings) (functions : ℕ → Listed Instr)
      → Surrounds image around → AreFunctionsOf machine image functions (count_in image)
      → Gives (looks_of machine image around functions) memory first under.frames last
  ended stage after text last under next is around functions surrounds are =
      subst (λ (all : List Seen). Gives (looks_of machine image around functions) memory first all last) (append-nil under.frames)
      (under.leads around functions surrounds are [] last (ap answer_at (sym (next around functions surrounds are)) ∙ is))

-- the walk over a dump
pub is_walk : {Instr : Type 0} (machine : Machine Instr) (image dump : List ℕ) (pc sp link : ℕ) (first stage after : Stage) (text : List ℕ) (last : Walked)
    → IsSoundImage machine image → pc_in dump ≡ Some pc → sp_in dump ≡ Some sp → link_in dump ≡ Some link → first ≡ stages.Start pc sp link
    → (under : IsUnderway machine image (words_of dump) first stage text) → IsNextOf machine image (words_of dump) first stage after
    → answer_at after ≡ last → IsWalk machine image dump under.frames last
is_walk machine image dump pc sp link first stage after text last sound pc_is sp_is link_is begins under next is = record {
  around = sound.around;
  functions = family machine image sound;
  surrounds = sound.surrounds;
  are = families machine image sound;
  pc = pc;
  sp = sp;
  link = link;
  pc_is = pc_is;
  sp_is = sp_is;
  link_is = link_is;
  given = subst (λ (from : Stage). Gives (looks_of machine image sound.around (family machine image sound)) (words_of dump) from under.frames last)
      begins
      (ended machine image (words_of dump) first stage after text last under next is sound.around
      (family machine image sound) sound.surrounds (families machine image sound));
}
