-- What is known of an image once some of its functions were judged.
use Rattle.std.proofs.Common.{◌≡◌, ℕ, ◌<◌, ◌≤◌, ◌+◌, ◌^◌, List, length, inl, inr, ap, subst, sym, ◌∙◌, arith}
use Rattle.std.proofs.lemmas.Bool.{cases_lt}
use Rattle.elf_image.specs.Contents.{table_in, text_in}
use Rattle.image_check.specs.declared.surroundings.Surroundings.{Surroundings}
use Rattle.image_check.specs.Kept.{IsMarked}
use Rattle.image_check.specs.Marks.{MarkFirst}
use Rattle.image_check.specs.Surrounding.{AreSurroundings, around_of}
use Rattle.image_marks.specs.Bits.{room}
use Rattle.image_model.specs.Listed.{Listed}
use Rattle.image_rules.specs.declared.check_no.CheckNo.{CheckNo}
use Rattle.image_rules.specs.declared.check_no.CheckNo.TheVariants.{K1, K2, K3, K4, K5, Memory}
use Rattle.image_rules.specs.Machine.{Machine}
use Rattle.image_rules.specs.Parts.{count_in}
use Rattle.image_rules.specs.Refusals.{BreaksRule, IsFirstBroken, IsRefused}
use Rattle.image_rules.specs.Sound.{IsReadable, IsSoundFunction}

module _ {Instr : Type 0} (machine : Machine Instr) (bytes : List ℕ) (all : Surroundings) where
  -- the first so many functions break no rule
  abbrev pub AreSound : ℕ → Type 0
  AreSound count = (index : ℕ) → index < count → (listed : Listed Instr) × IsSoundFunction machine bytes (around_of all) index listed

  pub none_sound : AreSound 0
  none_sound index less = absurd (omega arith)

  pub more_sound : (count : ℕ) (listed : Listed Instr) → IsSoundFunction machine bytes (around_of all) count listed → AreSound count
      → AreSound (count + 1)
  more_sound count listed sound before index less =
      elim (cases_lt index count) [
        | inl low ↦ before index low
        | inr high ↦
            let last : index ≡ count = omega arith in
            (listed, subst (λ (n : ℕ). IsSoundFunction machine bytes (around_of all) n listed) (sym last) sound)
      ]

  -- no more functions than there are, none of which breaks a rule, and their marks, with room for those of the others
  pub record AreJudged (count : ℕ) (starts ends : List ℕ) : Type 0 where
    pub within : count ≤ count_in bytes
    pub sound : AreSound count
    pub marks : MarkFirst machine bytes (around_of all) count starts ends
    pub start_room : length (text_in bytes) < room starts
    pub end_room : length (text_in bytes) < room ends

  pub more_judged : (count : ℕ) (listed : Listed Instr) (starts ends more_starts more_ends : List ℕ) → count < count_in bytes
      → IsSoundFunction machine bytes (around_of all) count listed → AreJudged count starts ends
      → MarkFirst machine bytes (around_of all) (count + 1) more_starts more_ends
      → room more_starts ≡ room starts → room more_ends ≡ room ends → AreJudged (count + 1) more_starts more_ends
  more_judged count listed starts ends more_starts more_ends less sound before marks start_room end_room = record {
    within = omega arith;
    sound = more_sound count listed sound before.sound;
    marks = marks;
    start_room = (let low = before.start_room in omega arith);
    end_room = (let low = before.end_room in omega arith);
  }

  pub marked_image : IsReadable machine bytes → AreSurroundings bytes all → length bytes < 2 ^ 32 → (count : ℕ) (starts ends : List ℕ)
      → count_in bytes ≤ count → AreJudged count starts ends → IsMarked machine bytes starts ends
  marked_image readable are short count starts ends long judged =
      let within = judged.within in
      let last : count ≡ count_in bytes = omega arith in
      record {
        sound = record {
          readable = readable;
          around = around_of all;
          surrounds = are.surrounds;
          functions = λ index less. judged.sound index (omega arith);
        };
        short = short;
        marks = subst (λ (n : ℕ). MarkFirst machine bytes (around_of all) n starts ends) last judged.marks;
      }

  first_broken : IsReadable machine bytes → AreSurroundings bytes all → (index : ℕ) → index < count_in bytes → AreSound index
      → (refusal : CheckNo) → BreaksRule machine bytes (around_of all) index refusal → IsFirstBroken machine bytes refusal
  first_broken readable are index inside sound refusal broken = record {
    readable = readable;
    around = around_of all;
    surrounds = are.surrounds;
    index = index;
    inside = inside;
    broken = broken;
    before = sound;
  }

  pub refused_here : IsReadable machine bytes → AreSurroundings bytes all → (index : ℕ) → index < count_in bytes → AreSound index
      → (refusal : CheckNo) → BreaksRule machine bytes (around_of all) index refusal → IsRefused machine bytes refusal
  refused_here readable are index inside sound (K1 why) broken = absurd broken
  refused_here readable are index inside sound (K2 place) broken = first_broken readable are index inside sound (K2 place) broken
  refused_here readable are index inside sound (K3 why) broken = first_broken readable are index inside sound (K3 why) broken
  refused_here readable are index inside sound (K4 place) broken = first_broken readable are index inside sound (K4 place) broken
  refused_here readable are index inside sound (K5 place) broken = first_broken readable are index inside sound (K5 place) broken
  refused_here readable are index inside sound Memory broken = absurd broken

-- an image and a table that were read are those of the bytes
pub record IsReadyFor {Instr : Type 0} (machine : Machine Instr) (image table : List ℕ) : Type 0 where
  pub readable : IsReadable machine image
  pub short : length image < 2 ^ 32
  pub told : table ≡ table_in image

pub ready_for : {Instr : Type 0} (machine : Machine Instr) (bytes image table : List ℕ) → image ≡ bytes → table ≡ table_in bytes
    → IsReadable machine bytes → length bytes < 2 ^ 32 → IsReadyFor machine image table
ready_for machine bytes image table same told readable short =
    let P : List ℕ → Type 0 = λ xs. length xs < 2 ^ 32 in
    record {
      readable = subst (λ (xs : List ℕ). IsReadable machine xs) (sym same) readable;
      short = subst P (sym same) short;
      told = told ∙ ap table_in (sym same);
    }
