-- A question has one answer.
use Rattle.std.proofs.Common.{◌≡◌, ℕ, List, Bool, true, false, nat_lt, length, Option, Some, None, inl, inr, sym, ap, ◌∙◌}
use Rattle.std.specs.Prelude.{All}
use Rattle.asm_parse.specs.declared.unit.Unit.{Unit as Said}
use Rattle.asm_parse.specs.Valid.{IsValidUnit}
use Rattle.image_rules.specs.declared.check_no.CheckNo.{CheckNo}
use Rattle.image_rules.specs.Machine.{Machine}
use Rattle.image_rules.specs.Refusals.{IsRefused}
use Rattle.image_rules.specs.Sound.{IsSoundImage}
use Rattle.machine_dump.specs.declared.fault.DumpNo.{DumpNo}
use Rattle.machine_dump.specs.Faults.{dump_fault}
use Rattle.text_chain.specs.declared.stack.ChainNo.{ChainNo}
use Rattle.text_chain.specs.Chain.{IsChainRefused, IsChainText}
use Rattle.text_dis.specs.Listing as disassembly
use Rattle.unit_listing.specs.declared.listing_no.ListingNo.{ListingNo}
use Rattle.unit_listing.specs.Kit.{Kit}
use Rattle.unit_listing.specs.Listing.{IsText, IsFirstRefusal}
use Rattle.goasm_text.specs.Lines.{chain_line, check_line, line_of}
use Rattle.goasm_run.specs.declared.architecture.Architecture.TheVariants.{Amd64}
use Rattle.goasm_run.specs.declared.image_text.ImageText.{ImageText}
use Rattle.goasm_run.specs.declared.image_text.ImageText.TheVariants.{Count, Code}
use Rattle.goasm_run.specs.Endings.{Ending, Text, Refusal, NoForm}
use Rattle.goasm_run.specs.Limits.{dump_limit}
use Rattle.goasm_run.specs.Questions.{Question, Listing, Image, Chain, IsSound, IsListed, IsSaid, IsJudged, IsWalked, IsWalkedIf, IsUnwound, IsAnswer, HaveOneAnswer, told_as}
use Rattle.goasm_run.specs.Targets.{amd64_kit, amd64_machine}

-- the laws of a listing
pub record ListingLaws {Instr : Type 0} (kit : Kit Instr) : Type 0 where
  pub one : (units : List Said) (text other : List ℕ) → IsText kit units text → IsText kit units other → text ≡ other
  pub never : (units : List Said) (text : List ℕ) (no : ListingNo) → All IsValidUnit units → IsText kit units text → ¬ IsFirstRefusal kit units no
  pub first : (units : List Said) (no other : ListingNo) → All IsValidUnit units → IsFirstRefusal kit units no → IsFirstRefusal kit units other
      → no ≡ other

one_ending : {Instr : Type 0} (kit : Kit Instr) → ListingLaws kit → (files : List (List ℕ)) (units : List Said) (ending other : Ending)
    → All IsValidUnit units → IsListed kit files units ending → IsListed kit files units other → ending ≡ other
one_ending kit laws files units (Text text) (Text other) valid is that = ap Text (laws.one units text other is that)
one_ending kit laws files units (Text text) (Refusal line) valid is (one, refused, told) = absurd (laws.never units text one valid is refused)
one_ending kit laws files units (Text text) NoForm valid is that = absurd that
one_ending kit laws files units (Refusal line) (Text text) valid (one, refused, told) that = absurd (laws.never units text one valid that refused)
one_ending kit laws files units (Refusal line) (Refusal other) valid (one, refused, told) (two, refused', told') =
    ap Refusal (told ∙ ap (λ no. line_of (told_as no) files) (laws.first units one two valid refused refused') ∙ sym told')
one_ending kit laws files units (Refusal line) NoForm valid is that = absurd that
one_ending kit laws files units NoForm other valid is that = absurd is

-- the laws of an image
pub record ImageLaws {Instr : Type 0} (machine : Machine Instr) : Type 0 where
  pub one : (bytes text other : List ℕ) → disassembly.IsText machine bytes text → disassembly.IsText machine bytes other → text ≡ other
  pub never : (bytes : List ℕ) (refusal : CheckNo) → IsRefused machine bytes refusal → ¬ IsSoundImage machine bytes
  pub first : (bytes : List ℕ) (refusal other : CheckNo) → IsRefused machine bytes refusal → IsRefused machine bytes other → refusal ≡ other

module _ {Instr : Type 0} (machine : Machine Instr) (laws : ImageLaws machine) where
  one_said : (said : ImageText) (bytes text other : List ℕ) → IsSaid machine said bytes text → IsSaid machine said bytes other → text ≡ other
  one_said Count bytes text other is that = is ∙ sym that
  one_said Code bytes text other is that = laws.one bytes text other is that

  one_judgement : (said : ImageText) (name bytes : List ℕ) (ending other : Ending)
      → IsJudged machine said name bytes ending → IsJudged machine said name bytes other → ending ≡ other
  one_judgement said name bytes (Text text) (Text other) is that = ap Text (one_said said bytes text other is.1 that.1)
  one_judgement said name bytes (Text text) (Refusal line) is (one, refused, told) = absurd (laws.never bytes one refused is.0)
  one_judgement said name bytes (Text text) NoForm is that = absurd that
  one_judgement said name bytes (Refusal line) (Text text) (one, refused, told) that = absurd (laws.never bytes one refused that.0)
  one_judgement said name bytes (Refusal line) (Refusal other) (one, refused, told) (two, refused', told') =
      ap Refusal (told ∙ ap (check_line name) (laws.first bytes one two refused refused') ∙ sym told')
  one_judgement said name bytes (Refusal line) NoForm is that = absurd that
  one_judgement said name bytes NoForm other is that = absurd is

-- the laws of a call chain
pub record ChainLaws {Instr : Type 0} (machine : Machine Instr) : Type 0 where
  pub text : (image dump text other : List ℕ) → IsChainText machine image dump text → IsChainText machine image dump other → text ≡ other
  pub never : (image dump text : List ℕ) (refusal : ChainNo) → IsChainText machine image dump text → ¬ IsChainRefused machine image dump refusal
  pub refusal : (image dump : List ℕ) (refusal other : ChainNo) → IsChainRefused machine image dump refusal → IsChainRefused machine image dump other
      → refusal ≡ other

module _ {Instr : Type 0} (machine : Machine Instr) (images : ImageLaws machine) (chains : ChainLaws machine) where
  one_walk : (name image dump : List ℕ) (fault : Option DumpNo) (ending other : Ending)
      → IsWalked machine name image dump fault ending → IsWalked machine name image dump fault other → ending ≡ other
  one_walk name image dump (Some fault) ending other is that = sym is ∙ that
  one_walk name image dump None (Text text) (Text other) is that = ap Text (chains.text image dump text other is that)
  one_walk name image dump None (Text text) (Refusal line) is (one, refused, told) = absurd (chains.never image dump text one is refused)
  one_walk name image dump None (Text text) NoForm is that = absurd that
  one_walk name image dump None (Refusal line) (Text text) (one, refused, told) that = absurd (chains.never image dump text one that refused)
  one_walk name image dump None (Refusal line) (Refusal other) (one, refused, told) (two, refused', told') =
      ap Refusal (told ∙ ap (chain_line name) (chains.refusal image dump one two refused refused') ∙ sym told')
  one_walk name image dump None (Refusal line) NoForm is that = absurd that
  one_walk name image dump None NoForm other is that = absurd is

  one_walk_if : (name image dump : List ℕ) (long : Bool) (ending other : Ending)
      → IsWalkedIf machine name image dump long ending → IsWalkedIf machine name image dump long other → ending ≡ other
  one_walk_if name image dump true ending other is that = sym is ∙ that
  one_walk_if name image dump false ending other is that = one_walk name image dump (dump_fault dump) ending other is that

  one_unwinding : (name dump_name image dump : List ℕ) (ending other : Ending)
      → IsUnwound machine name dump_name image dump ending → IsUnwound machine name dump_name image dump other → ending ≡ other
  one_unwinding name dump_name image dump ending other (inl (line, (one, refused, told), is)) (inl (line', (two, refused', told'), that)) =
      sym is ∙ ap Refusal (told ∙ ap (check_line name) (images.first image one two refused refused') ∙ sym told') ∙ that
  one_unwinding name dump_name image dump ending other (inl (line, (one, refused, told), is)) (inr (sound, judged)) =
      absurd (images.never image one refused sound)
  one_unwinding name dump_name image dump ending other (inr (sound, judged)) (inl (line, (one, refused, told), is)) =
      absurd (images.never image one refused sound)
  one_unwinding name dump_name image dump ending other (inr (sound, judged)) (inr (sound', judged')) =
      one_walk_if dump_name image dump (nat_lt dump_limit (length dump)) ending other judged judged'

pub have_one : ListingLaws amd64_kit → ImageLaws amd64_machine → ChainLaws amd64_machine → HaveOneAnswer
have_one listings images chains = one where
  one : (question : Question) (ending other : Ending) → IsSound question → IsAnswer question ending → IsAnswer question other → ending ≡ other
  one (Listing Amd64 files units) ending other sound is that = one_ending amd64_kit listings files units ending other sound is that
  one (Image Amd64 said name bytes) ending other sound is that = one_judgement amd64_machine images said name bytes ending other is that
  one (Chain Amd64 name dump_name image dump) ending other sound is that =
      one_unwinding amd64_machine images chains name dump_name image dump ending other is that
